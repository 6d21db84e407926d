-- That what 32 bits say for a kind of parameter has these bits.
use Prim.Native.Nat.{ℕ, ◌≤◌, ◌<◌}
use mathlib.Core.Path.{◌≡◌, refl, sym}
use mathlib.Core.Bool.{Bool, true, false, not, cond}
use native.Mathlib.Omega.{arith}
use lib.Dec.{T, eqb, leb}
use lib.Ieee.{is_nan, binary32, of_bits}
use lib.Ieee.Bits.{to_bits-of_bits}
use borrow.Author.Tests.{leb-true, eqb-true, eqb-false}
use mir.Syntax.{w32}
use mir.ValLaws.{of_z-to_z}
use Rattle.catalogue.specs.Format.{kind_int, kind_float, kind_bool}
use Rattle.value.specs.declared.Value.TheVariants.{Int, Float, Nan}
use Rattle.value.specs.declared.Value.TheVariants as variants
use Rattle.value.specs.Meaning.{Meaning, whole, single, flag, int_of, low_of, infinity, int_bits, float_bits, flag_bits, meaning_of, meant}
use Rattle.value.specs.Meaning as meaning
use Rattle.value.proofs.Floats.{not-isnan}

-- LAW: a whole number that is read from bits has these bits
pub int-back : (b : ℕ) → b < 0x1_0000_0000 → int_bits (int_of b) ≡ b
int-back b l = of_z-to_z w32 b (record { fits = l })

not_t : (t : Bool) → T (not t) → t ≡ false
not_t false h = refl
not_t true h = absurd h

-- LAW: a float that is read from bits has these bits, unless they are a NaN's
pub float_back : (b : ℕ) → b < 0x1_0000_0000 → low_of b ≤ infinity → float_bits (of_bits binary32 b) ≡ b
float_back b l h = rw (not_t (is_nan (of_bits binary32 b)) (not-isnan b h)) (to_bits-of_bits binary32 b l (not-isnan b h))

-- LAW: a flag that is read from 0 or 1 is this number
pub flag-back : (b : ℕ) → b ≤ 1 → flag_bits (eqb b 1) ≡ b
flag-back b h = go (eqb b 1) refl
  where
    go : (t : Bool) → eqb b 1 ≡ t → flag_bits t ≡ b
    go true e = sym (eqb-true b 1 e)
    go false e = omega (arith, h, eqb-false b 1 e)

-- the bits of what is said
abbrev pub bits_of : Meaning → ℕ
bits_of (whole number) = int_bits number
bits_of (single number) = float_bits number
bits_of (meaning.nan bits) = bits
bits_of (flag set) = flag_bits set

-- LAW: what 32 bits say for a parameter of a kind has these bits; a flag's are 0 or 1
pub bits_back : (kind b : ℕ) → kind ≤ kind_bool → b < 0x1_0000_0000 → (kind ≡ kind_bool → b ≤ 1) → bits_of (meant kind b) ≡ b
bits_back kind b k l h = go (eqb kind kind_int) (eqb kind kind_float) (leb (low_of b) infinity) refl refl refl
  where
    go :
        (int float low : Bool) → eqb kind kind_int ≡ int → eqb kind kind_float ≡ float → leb (low_of b) infinity ≡ low →
        bits_of (meaning_of (cond int (Int (int_of b)) (cond float (cond low (Float (of_bits binary32 b)) (Nan b)) (variants.Bool (eqb b 1))))) ≡ b
    go true float low p q r = int-back b l
    go false true true p q r = float_back b l (leb-true (low_of b) infinity r)
    go false true false p q r = refl
    go false false low p q r = flag-back b (h (omega (arith, k, eqb-false kind kind_int p, eqb-false kind kind_float q)))
