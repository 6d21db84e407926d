-- "A held value is one of a whole number, a single float or a flag"; a whole number of 16 bits as it is held, and a single float as the
-- double that is published.
use Rattle.std.specs.Prelude.{ℕ, ◌+◌, ◌*◌, ◌/◌, ◌%◌, cond, ltb, leb, eqb, ℤ}
use Rattle.std.proofs.Math.Bool as bool
use Rattle.std.specs.Float.Ieee as ieee
use Rattle.std.specs.Float.{binary32, binary64}
use Rattle.std.specs.Float.Ieee.{of_bits, to_bits, is_nan}
use Rattle.std.specs.Int.{w16, w32}
use Rattle.std.proofs.Common.{to_z, of_z}
use Rattle.catalogue.specs.Format.{kind_int, kind_float}
use Rattle.value.specs.declared.Value.{Value}
use Rattle.value.specs.declared.Value.TheVariants.{Int, Float, Bool, Nan}

-- "INT is 4 bytes, low byte first, signed": the signed number of 32 bits
abbrev pub int_of : ℕ → ℤ
int_of bits = to_z w32 bits

-- "as two bytes, low byte first, signed": the signed number of 16 bits
abbrev pub short_of : ℕ → ℤ
short_of bits = to_z w16 bits

-- the sign of a single, 0 or 1
abbrev pub sign_of : ℕ → ℕ
sign_of bits = bits / 0x8000_0000

-- the bits below the sign
abbrev pub low_of : ℕ → ℕ
low_of bits = bits % 0x8000_0000

-- the fraction, 23 bits
abbrev pub fraction_of : ℕ → ℕ
fraction_of bits = bits % 0x80_0000

-- the bits of an infinity without its sign; below them the finite numbers, above them the NaNs
abbrev pub infinity : ℕ
infinity = 0x7f80_0000

-- "0 INT, 1 FLOAT, 2 BOOL": the value that 32 bits hold; a NaN is kept by its bits. A kind above 2, which no legal catalogue
-- has, is taken as BOOL.
abbrev pub value_of : ℕ → ℕ → Value
value_of kind bits =
    cond (eqb kind kind_int) (Int (int_of bits))
    (cond (eqb kind kind_float) (cond (leb (low_of bits) infinity) (Float (of_bits binary32 bits)) (Nan bits)) (Bool (eqb bits 1)))

-- what a value says: "one of a whole number, a single float or a flag", and a NaN by its bits
pub data Meaning : Type 0 where
  whole : (number : ℤ) → Meaning
  single : (number : ieee.Float) → Meaning
  nan : (bits : ℕ) → Meaning
  flag : (set : bool.Bool) → Meaning

-- the value for each case
abbrev pub meaning_of : Value → Meaning
meaning_of (Int number) = whole number
meaning_of (Float number) = single number
meaning_of (Nan bits) = nan bits
meaning_of (Bool set) = flag set

-- what 32 bits say for a parameter of this kind
abbrev pub meant : ℕ → ℕ → Meaning
meant kind bits = meaning_of (value_of kind bits)

-- the 32 bits of a whole number
abbrev pub int_bits : ℤ → ℕ
int_bits number = of_z w32 number

-- "the signed number is held": the 32 bits of the number that 16 bits say
abbrev pub extended : ℕ → ℕ
extended bits = int_bits (short_of bits)

-- the 32 bits of a single; a value that is read has its NaNs as bits already
abbrev pub float_bits : ieee.Float → ℕ
float_bits number = cond (is_nan number) 0 (to_bits binary32 number)

-- a flag as a number
abbrev pub flag_bits : bool.Bool → ℕ
flag_bits set = cond set 1 0

-- "FLOAT becomes the double of exactly the same value, and infinities and NaNs keep the sign, their fraction moved 29 bits up"
abbrev pub widened : ℕ → ℕ
widened bits =
    cond (ltb (low_of bits) infinity) (to_bits binary64 (of_bits binary32 bits))
    (sign_of bits * 0x8000_0000_0000_0000 + 0x7ff0_0000_0000_0000 + fraction_of bits * 0x2000_0000)
