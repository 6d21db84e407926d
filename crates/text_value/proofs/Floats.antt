-- Laws of signs, scales and a float's parts.
use Prim.Native.Nat.{ℕ, ◌+◌, ◌-◌, ◌≤◌, ◌<◌}
use mathlib.Core.Path.{◌≡◌, refl, sym, ◌∙◌}
use mathlib.Core.Bool.{Bool, true, false, ◌&&◌}
use mathlib.Core.List.{List}
use mathlib.Core.Option.{Option, some}
use mathlib.Core.Option as option
use native.Mathlib.Omega.{arith}
use lib.Dec.{eqb}
use lib.ListN.{length, get_or, drop, length-drop, drop_of_length-le}
use lib.Seq.{drop-drop, get_or-drop}
use borrow.Author.Tests.{eq-eqb, ne_eqb}
use Rattle.digits.specs.Read.{Read, wrong, and_read, and_digits}
use Rattle.digits.specs.Decimal.{decimal_at}
use Rattle.digits.specs.Fixed.{fixed_at}
use Rattle.text.specs.Read.{
  minus_bits,
  int_at,
  minus_scale,
  plus_scale,
  scale_at,
  float_from,
  is_float_frame,
  float_at,
  sign_size,
  number_at,
  int_value,
  float_value,
}
use Rattle.text_value.proofs.Decimals.{first_char}
use Rattle.text_value.proofs.Bounds.{frame-long}

-- BEHIND A SIGN
module _ (s : List ℕ) (at : ℕ) where
  pub int-minus : get_or s at 0 ≡ 45 → and_read (decimal_at 2147483648 (drop (at + 1) s)) minus_bits ≡ int_at (drop at s)
  unfolding int_at
  int-minus e = sym (rw (first_char, eq-eqb (get_or s at 0) 45 e, drop-drop))

  pub int-plain : (get_or s at 0 ≡ 45 → ⊥) → decimal_at 2147483647 (drop at s) ≡ int_at (drop at s)
  unfolding int_at
  int-plain e = sym (rw (first_char, ne_eqb (get_or s at 0) 45 e))

  pub scale-plus : get_or s at 0 ≡ 43 → and_read (decimal_at 1023 (drop (at + 1) s)) plus_scale ≡ scale_at (drop at s)
  unfolding scale_at
  scale-plus e = sym (rw (first_char, eq-eqb (get_or s at 0) 43 e, drop-drop))

  pub scale-minus : (get_or s at 0 ≡ 43 → ⊥) → get_or s at 0 ≡ 45 → and_read (decimal_at 1022 (drop (at + 1) s)) minus_scale ≡ scale_at (drop at s)
  unfolding scale_at
  scale-minus n e = sym (rw (first_char, ne_eqb (get_or s at 0) 43 n, eq-eqb (get_or s at 0) 45 e, drop-drop))

  pub scale-none : (get_or s at 0 ≡ 43 → ⊥) → (get_or s at 0 ≡ 45 → ⊥) → wrong ≡ scale_at (drop at s)
  unfolding scale_at
  scale-none n e = sym (rw (first_char, ne_eqb (get_or s at 0) 43 n, ne_eqb (get_or s at 0) 45 e))

-- A FLOAT'S FRAME AND ITS PARTS, at an offset
module _ (sign : ℕ) (s : List ℕ) (at : ℕ) where
  frame : is_float_frame (drop at s) ≡ (eqb (get_or s at 0) 48 && (eqb (get_or s (at + 3) 0) 46 && eqb (get_or s (at + 17) 0) 112))
  unfolding is_float_frame
  frame = rw (first_char s at, get_or-drop at s 3 0, get_or-drop at s 17 0)

  pub float-short : length s - at < 18 → wrong ≡ float_at sign (drop at s)
  unfolding float_at
  float-short h = sym (rw (unframed (is_float_frame (drop at s)) refl))
    where
      unframed : (b : Bool) → is_float_frame (drop at s) ≡ b → is_float_frame (drop at s) ≡ false
      unframed true e = absurd (omega (arith, frame-long (drop at s) e, length-drop at s))
      unframed false e = e

  pub float-unframed : (eqb (get_or s at 0) 48 && (eqb (get_or s (at + 3) 0) 46 && eqb (get_or s (at + 17) 0) 112)) ≡ false → wrong ≡ float_at sign (drop at s)
  unfolding float_at
  float-unframed h = sym (rw (frame ∙ h))

  module _ (framed : (eqb (get_or s at 0) 48 && (eqb (get_or s (at + 3) 0) 46 && eqb (get_or s (at + 17) 0) 112)) ≡ true) where
    parts : float_at sign (drop at s)
        ≡ and_digits (fixed_at 16 5 (drop (at + 4) s)) (λ fraction.
        and_digits (fixed_at 16 8 (drop (at + 9) s)) (λ low.
        and_read (scale_at (drop (at + 18) s)) (float_from sign (get_or s (at + 2) 0) fraction low)))
    unfolding float_at
    parts = rw (frame ∙ framed, ← drop-drop 4 at s, ← drop-drop 9 at s, ← drop-drop 18 at s, ← get_or-drop at s 2 0)

    pub float-parts : (fraction low : ℕ) (r : Read ℕ) → r ≡ scale_at (drop (at + 18) s)
        → fixed_at 16 5 (drop (at + 4) s) ≡ some fraction → fixed_at 16 8 (drop (at + 9) s) ≡ some low
        → and_read r (float_from sign (get_or s (at + 2) 0) fraction low) ≡ float_at sign (drop at s)
    float-parts fraction low r q e f = sym (parts ∙ rw (e, f, q))

    pub float-no-low : (fraction : ℕ) → fixed_at 16 5 (drop (at + 4) s) ≡ some fraction → fixed_at 16 8 (drop (at + 9) s) ≡ option.none
        → wrong ≡ float_at sign (drop at s)
    float-no-low fraction e f = sym (parts ∙ rw (e, f))

    pub float-no-fraction : fixed_at 16 5 (drop (at + 4) s) ≡ option.none → wrong ≡ float_at sign (drop at s)
    float-no-fraction e = sym (parts ∙ rw e)

-- AN INT OR A FLOAT
pub number_past : (s : List ℕ) (at : ℕ) → length s ≤ at → wrong ≡ number_at (drop at s)
unfolding number_at sign_size int_at decimal_at
number_past s at h = sym (rw (drop_of_length-le s h))

module _ (s : List ℕ) (at sign : ℕ) (is-sign : sign ≡ sign_size (drop at s)) where
  test : get_or (drop at s) (sign_size (drop at s) + 1) 0 ≡ get_or s (at + sign + 1) 0
  test = let e : at + (sign_size (drop at s) + 1) ≡ at + sign + 1 = omega (arith, is-sign) in rw (get_or-drop, e)

  pub number-float : eqb (get_or s (at + sign + 1) 0) 120 ≡ true → and_read (float_at sign (drop (at + sign) s)) float_value ≡ number_at (drop at s)
  unfolding number_at
  number-float h = sym (rw (test, h, ← is-sign, drop-drop))

  pub number-int : eqb (get_or s (at + sign + 1) 0) 120 ≡ false → and_read (int_at (drop at s)) int_value ≡ number_at (drop at s)
  unfolding number_at
  number-int h = sym (rw (test, h))
