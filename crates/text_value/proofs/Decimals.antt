-- Laws of numbers in decimal, read digit by digit.
use Prim.Native.Nat.{ℕ, suc, ◌+◌, ◌-◌, ◌*◌, ◌≤◌, ◌<◌}
use mathlib.Core.Path.{◌≡◌, refl, sym, ap, ◌∙◌}
use mathlib.Core.Bool.{Bool, true, false, cond}
use mathlib.Core.List.{List, ◌∷◌}
use native.Mathlib.Omega.{arith}
use native.Mathlib.Nat.{add-zero}
use lib.Dec.{eqb, leb}
use lib.ListN.{length, get_or, take, drop, drop_of_length-le, get_or-eq_default}
use lib.Seq.{drop-cons, get_or-drop}
use Rattle.std.proofs.lemmas.List.{get_or-take}
use borrow.Author.Tests.{le-leb, lt-leb, leb-true, leb-false, eq-eqb, ne_eqb}
use Rattle.digits.specs.Read.{Read, got, wrong}
use Rattle.digits.specs.Decimal.{is_decimal, more_decimal, decimal_at}
use Rattle.digits.proofs.Decimals.{digit-bounds}

pub clash : {A : Type 0} → false ≡ true → A
clash h = let z : ◌≡◌ {A = ℕ} 0 1 = cc in absurd (omega arith)

-- the element at an offset, in front of the others
pub drop-next : (s : List ℕ) (i : ℕ) → i < length s → drop i s ≡ get_or s i 0 ∷ drop (i + 1) s
drop-next s i h = let e : suc i ≡ i + 1 = omega arith in rw e at (drop-cons s i 0 h)

-- the first of the elements from an offset on
pub first_char : (s : List ℕ) (i : ℕ) → get_or (drop i s) 0 0 ≡ get_or s i 0
first_char s i = rw (get_or-drop, add-zero)

-- a part of the elements, from an offset on
pub in_part : (s : List ℕ) (at n i : ℕ) → i < n → get_or (take n (drop at s)) i 0 ≡ get_or s (at + i) 0
in_part s at n i h = get_or-take n (drop at s) i 0 h ∙ get_or-drop at s i 0

pub in_items : (s items : List ℕ) (at i : ℕ) → items ≡ take (length s - at) (drop at s) → at + i < length s → get_or items i 0 ≡ get_or s (at + i) 0
in_items s items at i e h = rw e (in_part s at (length s - at) i (omega arith))

-- past the end stands 0
pub inside-some : (s : List ℕ) (i : ℕ) → 0 < get_or s i 0 → i < length s
inside-some s i h = go (leb (length s) i) refl
  where
    go : (b : Bool) → leb (length s) i ≡ b → i < length s
    go true q = absurd (omega (arith, get_or-eq_default s 0 (leb-true (length s) i q), h))
    go false q = leb-false (length s) i q

pub inside : (s : List ℕ) (i k : ℕ) → get_or s i 0 ≡ suc k → i < length s
inside s i k e = inside-some s i (omega (arith, e))

-- a digit stands inside the text, and past the end stands none
abbrev pub DigitAt : List ℕ → ℕ → Type 0
DigitAt s i = (i < length s) × (48 ≤ get_or s i 0) × (get_or s i 0 ≤ 57)

pub digit-in : (s : List ℕ) (i : ℕ) → is_decimal (get_or s i 0) ≡ true → DigitAt s i
digit-in s i h = let x = digit-bounds (get_or s i 0) h in (inside-some s i (omega (arith, x)), x.0, x.1)

-- ONE TURN: before it, L is what the digits from offset i on make behind `value`
more-one : (limit value count c : ℕ) (s : List ℕ)
    → more_decimal limit value count (c ∷ s)
    ≡ cond (is_decimal c)
    (cond (leb (10 * value + (c - 48)) limit) (more_decimal limit (10 * value + (c - 48)) (suc count) s) wrong)
    (got value count)
unfolding more_decimal
more-one limit value count c s = refl

module _ (L : Read ℕ) (limit value count : ℕ) (s : List ℕ) (i : ℕ) (inv : L ≡ more_decimal limit value count (drop i s)) where
  pub more-end : length s ≤ i → got value count ≡ L
  unfolding more_decimal
  more-end h = sym (inv ∙ rw (drop_of_length-le s h))

  front : i < length s
      → L
      ≡ cond (is_decimal (get_or s i 0))
      (cond (leb (10 * value + (get_or s i 0 - 48)) limit) (more_decimal limit (10 * value + (get_or s i 0 - 48)) (suc count) (drop (i + 1) s)) wrong)
      (got value count)
  front h = inv ∙ ap (more_decimal limit value count) (drop-next s i h) ∙ more-one limit value count (get_or s i 0) (drop (i + 1) s)

  pub more-stop : i < length s → is_decimal (get_or s i 0) ≡ false → got value count ≡ L
  more-stop h e = sym (front h ∙ rw e)

  -- no digit more, or no character
  pub more-halt : is_decimal (get_or s i 0) ≡ false → got value count ≡ L
  more-halt h = go (leb (length s) i) refl
    where
      go : (b : Bool) → leb (length s) i ≡ b → got value count ≡ L
      go true q = more-end (leb-true (length s) i q)
      go false q = more-stop (leb-false (length s) i q) h

  pub more-over : i < length s → is_decimal (get_or s i 0) ≡ true → limit < 10 * value + (get_or s i 0 - 48) → wrong ≡ L
  more-over h e m = sym (front h ∙ rw (e, lt-leb (10 * value + (get_or s i 0 - 48)) limit m))

  pub more_turn : i < length s → is_decimal (get_or s i 0) ≡ true → 10 * value + (get_or s i 0 - 48) ≤ limit
      → L ≡ more_decimal limit (10 * value + (get_or s i 0 - 48)) (suc count) (drop (i + 1) s)
  more_turn h e m = front h ∙ rw (e, le-leb (10 * value + (get_or s i 0 - 48)) limit m)

-- THE FIRST DIGIT
module _ (limit : ℕ) (s : List ℕ) (at : ℕ) where
  pub decimal-past : length s ≤ at → wrong ≡ decimal_at limit (drop at s)
  unfolding decimal_at
  decimal-past h = sym (rw (drop_of_length-le s h))

  first : at < length s
      → decimal_at limit (drop at s)
      ≡ cond (eqb (get_or s at 0) 48) (got 0 1)
      (cond (is_decimal (get_or s at 0)) (more_decimal limit (get_or s at 0 - 48) 1 (drop (at + 1) s)) wrong)
  unfolding decimal_at
  first h = ap (decimal_at limit) (drop-next s at h)

  pub decimal-zero : at < length s → get_or s at 0 ≡ 48 → got 0 1 ≡ decimal_at limit (drop at s)
  decimal-zero h e = sym (first h ∙ rw (eq-eqb (get_or s at 0) 48 e))

  pub decimal-more : at < length s → (get_or s at 0 ≡ 48 → ⊥) → is_decimal (get_or s at 0) ≡ true
      → more_decimal limit (get_or s at 0 - 48) 1 (drop (at + 1) s) ≡ decimal_at limit (drop at s)
  decimal-more h n e = sym (first h ∙ rw (ne_eqb (get_or s at 0) 48 n, e))

  pub decimal-none : at < length s → (get_or s at 0 ≡ 48 → ⊥) → is_decimal (get_or s at 0) ≡ false → wrong ≡ decimal_at limit (drop at s)
  decimal-none h n e = sym (first h ∙ rw (ne_eqb (get_or s at 0) 48 n, e))
