-- The widths that there are, what the bytes of a value are held as, and which values so many bytes carry.
use Prim.Native.Nat.{ℕ, ◌+◌, ◌*◌, ◌/◌, ◌≤◌, ◌<◌, ◌^◌}
use mathlib.Core.Path.{◌≡◌, refl, sym, ap, ◌∙◌}
use mathlib.Core.Bool.{Bool, true, false, cond}
use mathlib.Core.Logic.{inl, inr, ⊎_elim, ◌≢◌}
use native.Mathlib.Nat.{pow-le-pow_right}
use native.Mathlib.Omega.{arith}
use lib.Dec.{ltb, eqb}
use lib.IntN.{ℤ}
use borrow.Author.Tests.{eqb-true, ne_eqb, lt-ltb, le-ltb, ltb-true}
use mir.Syntax.{w16}
use mir.Val.{SFits, of_z}
use mir.Facts.{sfits_to_z, Fits-of_z, to_z-of_z}
use Rattle.wire.specs.Number.{le_bytes}
use Rattle.wire.proofs.Numbers.{bytes-joined}
use Rattle.catalogue.specs.Format.{kind_int, kind_float, kind_bool}
use Rattle.value.specs.Meaning.{short_of, int_bits, extended}
use Rattle.value.proofs.Shorts.{extended-small, extended-low}
use Rattle.parameters.specs.Data.{long_int_year, short_width, long_width, flag_width, width, held_bits}
use Rattle.parameters.specs.Given.{IsWidth}

-- LAW: a value has one, two or four bytes
pub width_is : (year kind : ℕ) → IsWidth (width year kind)
unfolding width
width_is year kind = go (eqb kind kind_int) (ltb year long_int_year) (eqb kind kind_float)
  where
    go : (int old float : Bool) → IsWidth (cond int (cond old short_width long_width) (cond float long_width flag_width))
    go true true float = inr (inl refl)
    go true false float = inr (inr refl)
    go false old true = inr (inr refl)
    go false old false = inl refl

-- LAW: an INT has two bytes in a packet of a device of a year below 6
pub width-old : (year : ℕ) → year < long_int_year → width year kind_int ≡ short_width
unfolding width
width-old year l = rw (lt-ltb year long_int_year l)

-- LAW: and four in one of any other
pub width-new : (year : ℕ) → long_int_year ≤ year → width year kind_int ≡ long_width
unfolding width
width-new year l = rw (le-ltb year long_int_year l)

-- LAW: a FLOAT has four in every year
pub width-float : (year : ℕ) → width year kind_float ≡ long_width
unfolding width
width-float year = refl

-- LAW: and a BOOL one
pub width-bool : (year : ℕ) → width year kind_bool ≡ flag_width
unfolding width
width-bool year = refl

-- LAW: two bytes are the INT of a device of a year below 6
pub short-int : (year kind : ℕ) → width year kind ≡ short_width → (kind ≡ kind_int) × (year < long_int_year)
unfolding width
short-int year kind = go (eqb kind kind_int) (ltb year long_int_year) (eqb kind kind_float) refl refl
  where
    go :
        (int old float : Bool) → eqb kind kind_int ≡ int → ltb year long_int_year ≡ old →
        cond int (cond old short_width long_width) (cond float long_width flag_width) ≡ short_width → (kind ≡ kind_int) × (year < long_int_year)
    go true true float i o e = (eqb-true kind kind_int i, ltb-true year long_int_year o)
    go true false float i o e = absurd (omega (arith, e))
    go false old true i o e = absurd (omega (arith, e))
    go false old false i o e = absurd (omega (arith, e))

-- LAW: a value has at most 4 bytes
pub width-most : (year kind : ℕ) → width year kind ≤ long_width
width-most year kind = ⊎_elim (λ e. omega (arith, e)) (⊎_elim (λ e. omega (arith, e)) (λ e. omega (arith, e))) (width_is year kind)

-- all but two bytes are held as they are
pub held_plain : (w number : ℕ) → w ≢ short_width → held_bits w number ≡ number
unfolding held_bits
held_plain w number n = rw (ne_eqb w short_width n)

pub held-short : (number : ℕ) → held_bits short_width number ≡ extended number
unfolding held_bits
held-short number = refl

module _ (w number : ℕ) (l : number < 256 ^ w) where
  -- by whether there are two bytes
  by_width : (P : ℕ → Type 0) → P number → (w ≡ short_width → P (extended number)) → P (held_bits w number)
  unfolding held_bits
  by_width P plain short = go (eqb w short_width) refl
    where
      go : (b : Bool) → eqb w short_width ≡ b → P (cond b (extended number) number)
      go true e = short (eqb-true w short_width e)
      go false e = plain

  short-below : w ≡ short_width → number < 0x1_0000
  short-below e = rw e at l

  -- LAW: what is held has 32 bits
  pub held_small : w ≤ long_width → held_bits w number < 256 ^ long_width
  held_small k =
      let power : 256 ^ w ≤ 256 ^ long_width = pow-le-pow_right (omega arith) k in
      by_width (λ x. x < 256 ^ long_width) (omega (arith, l, power)) (λ e. extended-small number (short-below e))

  -- LAW: its low bytes are the value's
  pub held_bytes : le_bytes w (held_bits w number) ≡ le_bytes w number
  held_bytes = by_width (λ x. le_bytes w x ≡ le_bytes w number) refl (λ e. rw e (low (short-below e)))
    where
      low : number < 0x1_0000 → le_bytes short_width (extended number) ≡ le_bytes short_width number
      low k =
          let upper = extended number / 0x1_0000 in
          let split : extended number ≡ number + 0x1_0000 * upper = omega (arith, extended-low number k) in
          ap (le_bytes short_width) split ∙ bytes-joined short_width 0 number upper k

-- the value is what so many bytes are held as
abbrev pub Carried : ℕ → ℕ → Type 0
Carried w value = (number : ℕ) × (number < 256 ^ w) × (value ≡ held_bits w number)

-- LAW: one byte and four bytes carry every number that they can spell
pub carried-plain : (w value : ℕ) → w ≢ short_width → value < 256 ^ w → Carried w value
carried-plain w value n l = (value, l, sym (held_plain w value n))

-- LAW: and no others
pub plain-carries : (w value : ℕ) → w ≢ short_width → Carried w value → value < 256 ^ w
plain-carries w value n (number, l, e) = rw (e, held_plain w number n) l

-- LAW: two bytes carry the signed numbers of 16 bits
pub carried-short : (z : ℤ) → SFits w16 z → Carried short_width (int_bits z)
carried-short z f = (of_z w16 z, (Fits-of_z f).fits, ap int_bits (sym (to_z-of_z f)) ∙ sym (held-short (of_z w16 z)))

-- LAW: and no others
pub short-carries : (value : ℕ) → Carried short_width value → (z : ℤ) × SFits w16 z × (value ≡ int_bits z)
short-carries value (number, l, e) = (short_of number, sfits_to_z {w = w16} (record { fits = l }), e ∙ held-short number)
