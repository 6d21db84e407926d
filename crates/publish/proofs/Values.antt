-- What is published of a value, by its stored bits: INT and BOOL as they are, FLOAT as the widened double. All of it is legal.
use Prim.Native.Nat.{ℕ, ◌+◌, ◌*◌, ◌%◌, ◌≤◌, ◌<◌, ◌^◌}
use mathlib.Core.Path.{◌≡◌, refl, ap}
use mathlib.Core.Bool.{Bool, true, false, cond}
use mathlib.Core.Logic.{⊎_elim}
use native.Mathlib.Omega.{arith}
use native.Mathlib.Nat.{eq-or-lt_of_le}
use lib.Dec.{eqb, ltb, leb}
use lib.Ieee.{binary32, binary64, of_bits, to_bits}
use lib.Ieee.Bits.{to_bits-lt, of_bits-fits}
use lib.Ieee.Fits.{fits_widens}
use borrow.Author.Tests.{eqb-true, lt-ltb, leb-true}
use mir.Syntax.{w32}
use mir.ValLaws.{of_z-to_z}
use Rattle.list.specs.Tree.{int}
use Rattle.list.specs.Legal.{LegalValue}
use Rattle.catalogue.specs.Format.{kind_int, kind_float, kind_bool}
use Rattle.value.specs.Meaning.{int_of, sign_of, low_of, infinity, value_of, widened}
use Rattle.value.specs.declared.Value.TheVariants as values
use Rattle.value.proofs.Floats.{infinities, not-isnan}
use Rattle.publish.specs.Published.{double, element_of}
use Rattle.publish.specs.Put.{NoNan}

-- LAW: "INT .. become NetInt": the same 32 bits
pub int-published : (bits : ℕ) → bits < 2 ^ 32 → element_of (value_of kind_int bits) ≡ int bits
unfolding element_of
int-published bits h = ap int (of_z-to_z w32 bits (record { fits = h }))

-- LAW: "BOOL become NetInt": 0 or 1
pub flag-published : (bits : ℕ) → bits ≤ 1 → element_of (value_of kind_bool bits) ≡ int bits
unfolding element_of
flag-published bits h =
    ⊎_elim
    (λ (e : bits ≡ 1). rw e)
    (λ (l : bits < 1). let z : bits ≡ 0 = omega arith in rw z)
    (eq-or-lt_of_le h)

infinite : (bits : ℕ) → bits < 2 ^ 32 → low_of bits ≡ infinity → to_bits binary64 (of_bits binary32 bits) ≡ widened bits
unfolding of_bits to_bits
infinite bits l e = ⊎_elim (λ (q : bits ≡ 0x7f80_0000). rw q) (λ (q : bits ≡ 0xff80_0000). rw q) (infinities bits l e)

-- LAW: "FLOAT becomes the double of exactly the same value, and infinities and NaNs keep the sign, their fraction moved 29 bits up"
pub float-published : (bits : ℕ) → bits < 2 ^ 32 → element_of (value_of kind_float bits) ≡ double (widened bits)
unfolding element_of
float-published bits h = go (leb (low_of bits) infinity) refl
  where
    go :
        (b : Bool) → leb (low_of bits) infinity ≡ b →
        element_of (cond b (values.Float (of_bits binary32 bits)) (values.Nan bits)) ≡ double (widened bits)
    go false e = refl
    go true e =
        ap double
        (⊎_elim
        (λ (q : low_of bits ≡ infinity). infinite bits h q)
        (λ (l : low_of bits < infinity). rw (lt-ltb _ _ l))
        (eq-or-lt_of_le (leb-true (low_of bits) infinity e)))

widened-fits : (bits : ℕ) → bits < 2 ^ 32 → widened bits < 2 ^ 64
widened-fits bits h = go (ltb (low_of bits) infinity) refl
  where
    go :
        (b : Bool) → ltb (low_of bits) infinity ≡ b →
        cond b (to_bits binary64 (of_bits binary32 bits))
        (sign_of bits * 0x8000_0000_0000_0000 + 0x7ff0_0000_0000_0000 + bits % 0x80_0000 * 0x2000_0000) < 2 ^ 64
    go true e = to_bits-lt binary64 (of_bits binary32 bits) (fits_widens (of_bits binary32 bits) (of_bits-fits binary32 bits))
    go false e = omega arith

flag-legal : (b : Bool) → LegalValue (element_of (values.Bool b))
unfolding element_of
flag-legal true = omega arith
flag-legal false = omega arith

-- LAW: what is published of any 32 bits is a legal element
pub element-legal : (kind bits : ℕ) → bits < 2 ^ 32 → LegalValue (element_of (value_of kind bits))
element-legal kind bits h = go (eqb kind kind_int) refl (eqb kind kind_float) refl
  where
    go : (a : Bool) → eqb kind kind_int ≡ a → (b : Bool) → eqb kind kind_float ≡ b → LegalValue (element_of (value_of kind bits))
    go true e b f = let q = eqb-true kind kind_int e in rw (q, int-published bits h) h
    go false e true f =
        let q = eqb-true kind kind_float f in
        let w = widened-fits bits h in
        rw (q, float-published bits h) (omega arith, omega arith)
    go false e false f = rw (e, f) (flag-legal (eqb bits 1))

-- the float of a value that is read from bits is no NaN
pub no_nan : (kind bits : ℕ) → NoNan (value_of kind bits)
unfolding NoNan
no_nan kind bits = go (eqb kind kind_int) (eqb kind kind_float) (leb (low_of bits) infinity) refl
  where
    go :
        (x y z : Bool) → leb (low_of bits) infinity ≡ z →
        NoNan (cond x (values.Int (int_of bits)) (cond y (cond z (values.Float (of_bits binary32 bits)) (values.Nan bits)) (values.Bool (eqb bits 1))))
    go true y z e = tt
    go false false z e = tt
    go false true false e = tt
    go false true true e = not-isnan bits (leb-true (low_of bits) infinity e)
