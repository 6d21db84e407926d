-- `text_value::digit::byte_decimal_at` meets its contract: each test says which case of the definition it is.
use Prim.Native.Nat.{ℕ, ◌+◌}
use mathlib.Core.Path.{◌≡◌, sym, ◌∙◌}
use mathlib.Core.Bool.{Bool, true, false, not, ◌||◌}
use lib.Dec.{eqb}
use mathlib.Core.List.{List}
use native.Mathlib.Omega.{arith}
use lib.ListN.{get_or}
use Rattle.digits.specs.Decimal.{is_decimal}
use Rattle.text_value.proofs.Bounds.{decimal-placed}
use Rattle.text_value.proofs.Decimals.{DigitAt, digit-in}
use Rattle.text_value.proofs.ByteDigits.{followed, first-none, one-digit, two_digits, too_large, three-digits}
use Rattle.text_value.proofs.digit.byte_decimal_at.Goals as goal

-- where the digits stand that the tests have found
first-in : (s : List ℕ) (at : ℕ) (b : Bool) → b ≡ is_decimal (get_or s at 0) → b ≡ true → DigitAt s at
first-in s at b e h = digit-in s at (sym e ∙ h)

second-in : (s : List ℕ) (at n : ℕ) (b : Bool) → b ≡ is_decimal (get_or s at 0) → (eqb n 0 || not b) ≡ false → DigitAt s at
second-in s at n b e h = digit-in s at (followed n b _ e h).1

-- THE FIRST DIGIT
pub returns-then-not-is_digit : goal.returns-then-not-is_digit
returns-then-not-is_digit c =
    let a = c.args in
    (first-none a.text.now a.at (sym c.is_digit.ensures ∙ c.if-not-is_digit.true), tt, tt)

pub bounds-text-at : goal.bounds-text-at
bounds-text-at c =
    let a = c.args in
    omega (arith, first-in a.text.now a.at _ c.is_digit.ensures c.if-not-is_digit.false)

pub overflow_sub-first : goal.overflow_sub-first
overflow_sub-first c =
    let a = c.args in
    omega (arith, first-in a.text.now a.at _ c.is_digit.ensures c.if-not-is_digit.false)

pub overflow_cast-first : goal.overflow_cast-first
overflow_cast-first c =
    let a = c.args in
    omega (arith, first-in a.text.now a.at _ c.is_digit.ensures c.if-not-is_digit.false)

pub overflow_add-at : goal.overflow_add-at
overflow_add-at c =
    let a = c.args in
    omega (arith, first-in a.text.now a.at _ c.is_digit.ensures c.if-not-is_digit.false)

pub returns-then-first-is_digit : goal.returns-then-first-is_digit
returns-then-first-is_digit c =
    let a = c.args in
    let one = sym c.is_digit.ensures ∙ c.if-not-is_digit.false in
    decimal-placed 255 a.text.now a.at _ (omega (arith, digit-in a.text.now a.at one)) (one-digit a.text.now a.at one _ c.is_digit-2.ensures c.if-first-is_digit.true)

-- THE SECOND DIGIT
pub overflow_mul-second : goal.overflow_mul-second
overflow_mul-second c =
    let a = c.args in
    omega (arith, first-in a.text.now a.at _ c.is_digit.ensures c.if-not-is_digit.false, second-in a.text.now (a.at + 1) _ _ c.is_digit-2.ensures c.if-first-is_digit.false)

pub overflow_add-second : goal.overflow_add-second
overflow_add-second c =
    let a = c.args in
    omega (arith, first-in a.text.now a.at _ c.is_digit.ensures c.if-not-is_digit.false, second-in a.text.now (a.at + 1) _ _ c.is_digit-2.ensures c.if-first-is_digit.false)

pub bounds-text-at-2 : goal.bounds-text-at-2
bounds-text-at-2 c =
    let a = c.args in
    omega (arith, first-in a.text.now a.at _ c.is_digit.ensures c.if-not-is_digit.false, second-in a.text.now (a.at + 1) _ _ c.is_digit-2.ensures c.if-first-is_digit.false)

pub overflow_sub-second : goal.overflow_sub-second
overflow_sub-second c =
    let a = c.args in
    omega (arith, first-in a.text.now a.at _ c.is_digit.ensures c.if-not-is_digit.false, second-in a.text.now (a.at + 1) _ _ c.is_digit-2.ensures c.if-first-is_digit.false)

pub overflow_cast-second : goal.overflow_cast-second
overflow_cast-second c =
    let a = c.args in
    omega (arith, first-in a.text.now a.at _ c.is_digit.ensures c.if-not-is_digit.false, second-in a.text.now (a.at + 1) _ _ c.is_digit-2.ensures c.if-first-is_digit.false)

pub overflow_add-second-2 : goal.overflow_add-second-2
overflow_add-second-2 c =
    let a = c.args in
    omega (arith, first-in a.text.now a.at _ c.is_digit.ensures c.if-not-is_digit.false, second-in a.text.now (a.at + 1) _ _ c.is_digit-2.ensures c.if-first-is_digit.false)

pub overflow_add-at-2 : goal.overflow_add-at-2
overflow_add-at-2 c =
    let a = c.args in
    omega (arith, first-in a.text.now a.at _ c.is_digit.ensures c.if-not-is_digit.false, second-in a.text.now (a.at + 1) _ _ c.is_digit-2.ensures c.if-first-is_digit.false)

pub returns-then-not-is_digit-2 : goal.returns-then-not-is_digit-2
returns-then-not-is_digit-2 c =
    let a = c.args in
    let one = sym c.is_digit.ensures ∙ c.if-not-is_digit.false in
    let two = followed _ _ _ c.is_digit-2.ensures c.if-first-is_digit.false in
    decimal-placed 255 a.text.now a.at _ (omega (arith, digit-in a.text.now a.at one))
    (two_digits a.text.now a.at one two.0 two.1 (sym c.is_digit-3.ensures ∙ c.if-not-is_digit-2.true))

-- THE THIRD DIGIT
pub overflow_mul-third : goal.overflow_mul-third
overflow_mul-third c =
    let a = c.args in
    omega (
      arith,
      first-in a.text.now a.at _ c.is_digit.ensures c.if-not-is_digit.false,
      second-in a.text.now (a.at + 1) _ _ c.is_digit-2.ensures c.if-first-is_digit.false,
      first-in a.text.now (a.at + 2) _ c.is_digit-3.ensures c.if-not-is_digit-2.false,
    )

pub overflow_add-third : goal.overflow_add-third
overflow_add-third c =
    let a = c.args in
    omega (
      arith,
      first-in a.text.now a.at _ c.is_digit.ensures c.if-not-is_digit.false,
      second-in a.text.now (a.at + 1) _ _ c.is_digit-2.ensures c.if-first-is_digit.false,
      first-in a.text.now (a.at + 2) _ c.is_digit-3.ensures c.if-not-is_digit-2.false,
    )

pub bounds-text-at-3 : goal.bounds-text-at-3
bounds-text-at-3 c =
    let a = c.args in
    omega (
      arith,
      first-in a.text.now a.at _ c.is_digit.ensures c.if-not-is_digit.false,
      second-in a.text.now (a.at + 1) _ _ c.is_digit-2.ensures c.if-first-is_digit.false,
      first-in a.text.now (a.at + 2) _ c.is_digit-3.ensures c.if-not-is_digit-2.false,
    )

pub overflow_sub-third : goal.overflow_sub-third
overflow_sub-third c =
    let a = c.args in
    omega (
      arith,
      first-in a.text.now a.at _ c.is_digit.ensures c.if-not-is_digit.false,
      second-in a.text.now (a.at + 1) _ _ c.is_digit-2.ensures c.if-first-is_digit.false,
      first-in a.text.now (a.at + 2) _ c.is_digit-3.ensures c.if-not-is_digit-2.false,
    )

pub overflow_cast-third : goal.overflow_cast-third
overflow_cast-third c =
    let a = c.args in
    omega (
      arith,
      first-in a.text.now a.at _ c.is_digit.ensures c.if-not-is_digit.false,
      second-in a.text.now (a.at + 1) _ _ c.is_digit-2.ensures c.if-first-is_digit.false,
      first-in a.text.now (a.at + 2) _ c.is_digit-3.ensures c.if-not-is_digit-2.false,
    )

pub overflow_add-third-2 : goal.overflow_add-third-2
overflow_add-third-2 c =
    let a = c.args in
    omega (
      arith,
      first-in a.text.now a.at _ c.is_digit.ensures c.if-not-is_digit.false,
      second-in a.text.now (a.at + 1) _ _ c.is_digit-2.ensures c.if-first-is_digit.false,
      first-in a.text.now (a.at + 2) _ c.is_digit-3.ensures c.if-not-is_digit-2.false,
    )

pub overflow_add-at-3 : goal.overflow_add-at-3
overflow_add-at-3 c =
    let a = c.args in
    omega (
      arith,
      first-in a.text.now a.at _ c.is_digit.ensures c.if-not-is_digit.false,
      second-in a.text.now (a.at + 1) _ _ c.is_digit-2.ensures c.if-first-is_digit.false,
      first-in a.text.now (a.at + 2) _ c.is_digit-3.ensures c.if-not-is_digit-2.false,
    )

pub returns-then-third-is_digit : goal.returns-then-third-is_digit
returns-then-third-is_digit c =
    let a = c.args in
    let one = sym c.is_digit.ensures ∙ c.if-not-is_digit.false in
    let two = followed _ _ _ c.is_digit-2.ensures c.if-first-is_digit.false in
    let three = sym c.is_digit-3.ensures ∙ c.if-not-is_digit-2.false in
    (too_large a.text.now a.at one two.0 two.1 three _ c.is_digit-4.ensures c.if-third-is_digit.true, tt, tt)

pub returns : goal.returns
returns c =
    let a = c.args in
    let one = sym c.is_digit.ensures ∙ c.if-not-is_digit.false in
    let two = followed _ _ _ c.is_digit-2.ensures c.if-first-is_digit.false in
    let three = sym c.is_digit-3.ensures ∙ c.if-not-is_digit-2.false in
    decimal-placed 255 a.text.now a.at _ (omega (arith, digit-in a.text.now a.at one))
    (three-digits a.text.now a.at one two.0 two.1 three _ c.is_digit-4.ensures c.if-third-is_digit.false)
