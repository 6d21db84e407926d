-- `text_decode::known::known_byte` meets its contract: each test says how many digits there are.
use Prim.Native.Nat.{ℕ, ◌+◌}
use mathlib.Core.Path.{◌≡◌, refl, sym, ◌∙◌}
use mathlib.Core.Bool.{Bool, true, false, not, ◌||◌}
use lib.Dec.{eqb}
use mathlib.Core.List.{List}
use native.Mathlib.Omega.{arith}
use lib.ListN.{get_or}
use Rattle.digits.specs.Decimal.{is_decimal}
use Rattle.text_value.proofs.Decimals.{DigitAt, digit-in}
use Rattle.text_value.proofs.ByteDigits.{followed, one-digit, two_digits}
use Rattle.text_decode.proofs.Knowns.{known_as, byte-first, byte-three}
use Rattle.text_decode.proofs.known.known_byte.Goals as goal

-- where the digits stand that the tests have found
first-in : (s : List ℕ) (at : ℕ) (b : Bool) → b ≡ is_decimal (get_or s at 0) → b ≡ true → DigitAt s at
first-in s at b e h = digit-in s at (sym e ∙ h)

second-in : (s : List ℕ) (at n : ℕ) (b : Bool) → b ≡ is_decimal (get_or s at 0) → (eqb n 0 || not b) ≡ false → DigitAt s at
second-in s at n b e h = digit-in s at (followed n b _ e h).1

-- THE FIRST DIGIT
pub bounds-text-at : goal.bounds-text-at
bounds-text-at c =
    let a = c.args in
    (digit-in a.text.now a.at (byte-first a.text.now a.at c.requires)).0

pub overflow_sub-first : goal.overflow_sub-first
overflow_sub-first c =
    let a = c.args in
    omega (arith, digit-in a.text.now a.at (byte-first a.text.now a.at c.requires))

pub overflow_cast-first : goal.overflow_cast-first
overflow_cast-first c =
    let a = c.args in
    omega (arith, digit-in a.text.now a.at (byte-first a.text.now a.at c.requires))

pub overflow_add-at : goal.overflow_add-at
overflow_add-at c =
    let a = c.args in
    omega (arith, digit-in a.text.now a.at (byte-first a.text.now a.at c.requires))

pub overflow_add-result : goal.overflow_add-result
overflow_add-result c =
    let a = c.args in
    omega (arith, digit-in a.text.now a.at (byte-first a.text.now a.at c.requires))

pub returns-then-first-is_digit : goal.returns-then-first-is_digit
returns-then-first-is_digit c =
    let a = c.args in
    let one = byte-first a.text.now a.at c.requires in
    known_as _ _ 1 a.at _ (sym (one-digit a.text.now a.at one _ c.is_digit.ensures c.if-first-is_digit.true)) refl refl

-- THE SECOND DIGIT
pub overflow_mul-second : goal.overflow_mul-second
overflow_mul-second c =
    let a = c.args in
    omega (arith, digit-in a.text.now a.at (byte-first a.text.now a.at c.requires), second-in a.text.now (a.at + 1) _ _ c.is_digit.ensures c.if-first-is_digit.false)

pub overflow_add-second : goal.overflow_add-second
overflow_add-second c =
    let a = c.args in
    omega (arith, digit-in a.text.now a.at (byte-first a.text.now a.at c.requires), second-in a.text.now (a.at + 1) _ _ c.is_digit.ensures c.if-first-is_digit.false)

pub bounds-text-at-2 : goal.bounds-text-at-2
bounds-text-at-2 c =
    let a = c.args in
    (second-in a.text.now (a.at + 1) _ _ c.is_digit.ensures c.if-first-is_digit.false).0

pub overflow_sub-second : goal.overflow_sub-second
overflow_sub-second c =
    let a = c.args in
    omega (arith, digit-in a.text.now a.at (byte-first a.text.now a.at c.requires), second-in a.text.now (a.at + 1) _ _ c.is_digit.ensures c.if-first-is_digit.false)

pub overflow_cast-second : goal.overflow_cast-second
overflow_cast-second c =
    let a = c.args in
    omega (arith, digit-in a.text.now a.at (byte-first a.text.now a.at c.requires), second-in a.text.now (a.at + 1) _ _ c.is_digit.ensures c.if-first-is_digit.false)

pub overflow_add-second-2 : goal.overflow_add-second-2
overflow_add-second-2 c =
    let a = c.args in
    omega (arith, digit-in a.text.now a.at (byte-first a.text.now a.at c.requires), second-in a.text.now (a.at + 1) _ _ c.is_digit.ensures c.if-first-is_digit.false)

pub overflow_add-at-2 : goal.overflow_add-at-2
overflow_add-at-2 c =
    let a = c.args in
    omega (arith, digit-in a.text.now a.at (byte-first a.text.now a.at c.requires), second-in a.text.now (a.at + 1) _ _ c.is_digit.ensures c.if-first-is_digit.false)

pub overflow_add-result-then-not-is_digit : goal.overflow_add-result-then-not-is_digit
overflow_add-result-then-not-is_digit c =
    let a = c.args in
    omega (arith, digit-in a.text.now a.at (byte-first a.text.now a.at c.requires), second-in a.text.now (a.at + 1) _ _ c.is_digit.ensures c.if-first-is_digit.false)

pub returns-then-not-is_digit : goal.returns-then-not-is_digit
returns-then-not-is_digit c =
    let a = c.args in
    let one = byte-first a.text.now a.at c.requires in
    let two = followed _ _ _ c.is_digit.ensures c.if-first-is_digit.false in
    let none = sym c.is_digit-2.ensures ∙ c.if-not-is_digit.true in
    known_as _ _ 2 a.at _ (sym (two_digits a.text.now a.at one two.0 two.1 none)) refl refl

-- THE THIRD DIGIT
pub overflow_mul-result : goal.overflow_mul-result
overflow_mul-result c =
    let a = c.args in
    omega (
      arith,
      digit-in a.text.now a.at (byte-first a.text.now a.at c.requires),
      second-in a.text.now (a.at + 1) _ _ c.is_digit.ensures c.if-first-is_digit.false,
      first-in a.text.now (a.at + 2) _ c.is_digit-2.ensures c.if-not-is_digit.false,
    )

pub overflow_add-result-2 : goal.overflow_add-result-2
overflow_add-result-2 c =
    let a = c.args in
    omega (
      arith,
      digit-in a.text.now a.at (byte-first a.text.now a.at c.requires),
      second-in a.text.now (a.at + 1) _ _ c.is_digit.ensures c.if-first-is_digit.false,
      first-in a.text.now (a.at + 2) _ c.is_digit-2.ensures c.if-not-is_digit.false,
    )

pub bounds-text-at-3 : goal.bounds-text-at-3
bounds-text-at-3 c =
    let a = c.args in
    (first-in a.text.now (a.at + 2) _ c.is_digit-2.ensures c.if-not-is_digit.false).0

pub overflow_sub-result : goal.overflow_sub-result
overflow_sub-result c =
    let a = c.args in
    omega (
      arith,
      digit-in a.text.now a.at (byte-first a.text.now a.at c.requires),
      second-in a.text.now (a.at + 1) _ _ c.is_digit.ensures c.if-first-is_digit.false,
      first-in a.text.now (a.at + 2) _ c.is_digit-2.ensures c.if-not-is_digit.false,
    )

pub overflow_cast-result : goal.overflow_cast-result
overflow_cast-result c =
    let a = c.args in
    omega (
      arith,
      digit-in a.text.now a.at (byte-first a.text.now a.at c.requires),
      second-in a.text.now (a.at + 1) _ _ c.is_digit.ensures c.if-first-is_digit.false,
      first-in a.text.now (a.at + 2) _ c.is_digit-2.ensures c.if-not-is_digit.false,
    )

pub overflow_add-result-3 : goal.overflow_add-result-3
overflow_add-result-3 c =
    let a = c.args in
    omega (
      arith,
      digit-in a.text.now a.at (byte-first a.text.now a.at c.requires),
      second-in a.text.now (a.at + 1) _ _ c.is_digit.ensures c.if-first-is_digit.false,
      first-in a.text.now (a.at + 2) _ c.is_digit-2.ensures c.if-not-is_digit.false,
    )

pub overflow_add-result-4 : goal.overflow_add-result-4
overflow_add-result-4 c =
    let a = c.args in
    omega (
      arith,
      digit-in a.text.now a.at (byte-first a.text.now a.at c.requires),
      second-in a.text.now (a.at + 1) _ _ c.is_digit.ensures c.if-first-is_digit.false,
      first-in a.text.now (a.at + 2) _ c.is_digit-2.ensures c.if-not-is_digit.false,
    )

pub returns : goal.returns
returns c =
    let a = c.args in
    let two = followed _ _ _ c.is_digit.ensures c.if-first-is_digit.false in
    let three = sym c.is_digit-2.ensures ∙ c.if-not-is_digit.false in
    known_as _ _ 3 a.at _ (byte-three a.text.now a.at c.requires two.0 two.1 three) refl refl
