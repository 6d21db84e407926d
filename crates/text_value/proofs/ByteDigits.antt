-- Laws of a byte in decimal, its digits tried one by one.
use Prim.Native.Nat.{ℕ, ◌+◌, ◌-◌, ◌*◌, ◌≤◌, ◌<◌}
use mathlib.Core.Path.{◌≡◌, refl, sym, ◌∙◌}
use mathlib.Core.Bool.{Bool, true, false, not, ◌||◌}
use mathlib.Core.List.{List}
use native.Mathlib.Omega.{arith}
use lib.Dec.{eqb, ltb, leb}
use lib.ListN.{length, get_or, drop}
use borrow.Author.Tests.{eqb-true, eqb-false, ltb-true, ltb-false, leb-true, leb-false, not-true, not-false}
use Rattle.digits.specs.Read.{got, wrong}
use Rattle.digits.specs.Decimal.{is_decimal, more_decimal, decimal_at}
use Rattle.text.proofs.Fronts.{or_left, or_right}
use Rattle.text_value.proofs.Decimals.{clash, digit-in, more-halt, more-over, more_turn, decimal-past, decimal-zero, decimal-more, decimal-none}
use Rattle.text_value.proofs.Fixeds.{decimal-in}

-- the digit of the character at an offset, and the numbers of two and of three digits from there
abbrev pub figure : List ℕ → ℕ → ℕ
figure s i = get_or s i 0 - 48

abbrev pub two_figures : List ℕ → ℕ → ℕ
two_figures s at = 10 * figure s at + figure s (at + 1)

abbrev pub three_figures : List ℕ → ℕ → ℕ
three_figures s at = 10 * two_figures s at + figure s (at + 2)

-- both tests of a digit that another may follow: it is not 0, and another follows
pub followed : (n : ℕ) (b d : Bool) → b ≡ d → (eqb n 0 || not b) ≡ false → (0 < n) × (d ≡ true)
followed n b d e h =
    let x = eqb-false n 0 (or_left (eqb n 0) (not b) h) in
    (omega arith, sym e ∙ not-false b (or_right (eqb n 0) (not b) h))

-- no digit at all
pub first-none : (s : List ℕ) (at : ℕ) → is_decimal (get_or s at 0) ≡ false → wrong ≡ decimal_at 255 (drop at s)
first-none s at h = go (leb (length s) at) refl
  where
    other : get_or s at 0 ≡ 48 → ⊥
    other e = clash (sym h ∙ decimal-in (get_or s at 0) (omega arith) (omega arith))

    go : (b : Bool) → leb (length s) at ≡ b → wrong ≡ decimal_at 255 (drop at s)
    go true q = decimal-past 255 s at (leb-true (length s) at q)
    go false q = decimal-none 255 s at (leb-false (length s) at q) other h

-- ONE DIGIT, and the digits behind it
module _ (s : List ℕ) (at : ℕ) (one : is_decimal (get_or s at 0) ≡ true) where
  after_first : 0 < figure s at → decimal_at 255 (drop at s) ≡ more_decimal 255 (figure s at) 1 (drop (at + 1) s)
  after_first h = sym (decimal-more 255 s at (digit-in s at one).0 (λ e. omega (arith, e, h)) one)

  pub one-digit : (b : Bool) → b ≡ is_decimal (get_or s (at + 1) 0) → (eqb (figure s at) 0 || not b) ≡ true → got (figure s at) 1 ≡ decimal_at 255 (drop at s)
  one-digit b e h = go (eqb (figure s at) 0) refl h
    where
      go : (d : Bool) → eqb (figure s at) 0 ≡ d → (d || not b) ≡ true → got (figure s at) 1 ≡ decimal_at 255 (drop at s)
      go true q k =
          let z = eqb-true (figure s at) 0 q in
          let x = digit-in s at one in
          rw z (decimal-zero 255 s at x.0 (omega (arith, x, z)))
      go false q k =
          let z = eqb-false (figure s at) 0 q in
          more-halt (decimal_at 255 (drop at s)) 255 (figure s at) 1 s (at + 1) (after_first (omega arith)) (sym e ∙ not-true b k)

  -- TWO DIGITS
  module _ (more : 0 < figure s at) (two : is_decimal (get_or s (at + 1) 0) ≡ true) where
    second_range : (10 ≤ two_figures s at) × (two_figures s at ≤ 99)
    second_range =
        let x = digit-in s at one in
        let y = digit-in s (at + 1) two in
        (omega (arith, more), omega (arith, x, y))

    after-second : decimal_at 255 (drop at s) ≡ more_decimal 255 (two_figures s at) 2 (drop (at + 2) s)
    after-second =
        let e : at + 1 + 1 ≡ at + 2 = omega arith in
        rw e at (more_turn (decimal_at 255 (drop at s)) 255 (figure s at) 1 s (at + 1) (after_first more) (digit-in s (at + 1) two).0 two
        (omega (arith, second_range)))

    pub two_digits : is_decimal (get_or s (at + 2) 0) ≡ false → got (two_figures s at) 2 ≡ decimal_at 255 (drop at s)
    two_digits h = more-halt (decimal_at 255 (drop at s)) 255 (two_figures s at) 2 s (at + 2) after-second h

    -- THREE DIGITS
    module _ (three : is_decimal (get_or s (at + 2) 0) ≡ true) where
      after-third : three_figures s at ≤ 255 → decimal_at 255 (drop at s) ≡ more_decimal 255 (three_figures s at) 3 (drop (at + 3) s)
      after-third h =
          let e : at + 2 + 1 ≡ at + 3 = omega arith in
          rw e at (more_turn (decimal_at 255 (drop at s)) 255 (two_figures s at) 2 s (at + 2) after-second (digit-in s (at + 2) three).0 three h)

      pub too_large : (b : Bool) → b ≡ is_decimal (get_or s (at + 3) 0) → (ltb 255 (three_figures s at) || b) ≡ true → wrong ≡ decimal_at 255 (drop at s)
      too_large b e h = go (ltb 255 (three_figures s at)) refl h
        where
          go : (d : Bool) → ltb 255 (three_figures s at) ≡ d → (d || b) ≡ true → wrong ≡ decimal_at 255 (drop at s)
          go true q k =
              more-over (decimal_at 255 (drop at s)) 255 (two_figures s at) 2 s (at + 2) after-second (digit-in s (at + 2) three).0 three (ltb-true 255 (three_figures s at) q)
          go false q k =
              let four = sym e ∙ k in
              more-over (decimal_at 255 (drop at s)) 255 (three_figures s at) 3 s (at + 3) (after-third (ltb-false 255 (three_figures s at) q)) (digit-in s (at + 3) four).0 four
              (omega (arith, second_range))

      pub three-digits : (b : Bool) → b ≡ is_decimal (get_or s (at + 3) 0) → (ltb 255 (three_figures s at) || b) ≡ false → got (three_figures s at) 3 ≡ decimal_at 255 (drop at s)
      three-digits b e h =
          let x = ltb-false 255 (three_figures s at) (or_left (ltb 255 (three_figures s at)) b h) in
          more-halt (decimal_at 255 (drop at s)) 255 (three_figures s at) 3 s (at + 3) (after-third x) (sym e ∙ or_right (ltb 255 (three_figures s at)) b h)
