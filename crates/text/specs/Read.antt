-- Reading an element that is no list from the front of characters: "The reader takes only what the writer writes".
use Rattle.std.specs.Prelude.{ℕ, zero, suc, ◌+◌, ◌-◌, ◌*◌, ◌^◌, Bool, true, false, cond, not, ◌&&◌, List, [], ◌∷◌, eqb, ltb, get_or, drop}
use Rattle.std.proofs.Math.Option.{Option, some}
use Rattle.std.proofs.Math.Option as option
use Rattle.wire.specs.Number.{le_value}
use Rattle.digits.specs.Read.{Read, got, wrong, and_read, and_digits}
use Rattle.digits.specs.Decimal.{decimal_at}
use Rattle.digits.specs.Fixed.{fixed_at}
use Rattle.list.specs.Tree.{Value, int, vocab, float, str, blob}
use Rattle.text.specs.Text.{is_printed, is_marked}
use Rattle.text.specs.Form.{is_letter}

-- a minus is one character
unfoldable pub sign_size : List ℕ → ℕ
sign_size s = cond (eqb (get_or s 0 0) 45) 1 0

-- an int's 32 bits: -0 is none
abbrev pub minus_bits : ℕ → ℕ → Read ℕ
minus_bits zero count = wrong
minus_bits (suc n) count = got (2 ^ 32 - suc n) (suc count)

unfoldable pub int_at : List ℕ → Read ℕ
int_at s = cond (eqb (get_or s 0 0) 45) (and_read (decimal_at (2 ^ 31) (drop 1 s)) minus_bits) (decimal_at (2 ^ 31 - 1) s)

-- a float's halves
pub record Halves : Type 0 where
  pub low : ℕ
  pub high : ℕ

abbrev pub halves : ℕ → ℕ → Halves
halves low high = record { low = low; high = high }

-- the exponent bits of a scale, behind its `p`: +0 to +1023, -1 to -1022
abbrev pub minus_scale : ℕ → ℕ → Read ℕ
minus_scale zero count = wrong
minus_scale (suc e) count = got (1023 - suc e) (suc count)

abbrev pub plus_scale : ℕ → ℕ → Read ℕ
plus_scale e count = got (1023 + e) (suc count)

unfoldable pub scale_at : List ℕ → Read ℕ
scale_at s =
    cond (eqb (get_or s 0 0) 43) (and_read (decimal_at 1023 (drop 1 s)) plus_scale)
    (cond (eqb (get_or s 0 0) 45) (and_read (decimal_at 1022 (drop 1 s)) minus_scale) wrong)

-- the exponent bits of a float whose text starts 0x0. or 0x1.: behind 0x0. only one scale may stand
abbrev pub small_scale : ℕ → ℕ → ℕ
small_scale fraction low = cond (eqb low 0 && eqb fraction 0) 1023 1

abbrev pub exponent_from : ℕ → ℕ → ℕ → ℕ → Option ℕ
exponent_from lead fraction low scale =
    cond (eqb lead 49) (some scale) (cond (eqb lead 48 && eqb scale (small_scale fraction low)) (some 0) option.none)

-- all of it: `sign` is 1 for a minus, which stands before the rest
abbrev pub high_of : ℕ → ℕ → Option ℕ → Option ℕ
high_of sign fraction (some bits) = some (sign * 2 ^ 31 + (bits * 2 ^ 20 + fraction))
high_of sign fraction option.none = option.none

abbrev pub halves_of : ℕ → ℕ → Option ℕ → Read Halves
halves_of low count (some high) = got (halves low high) count
halves_of low count option.none = wrong

abbrev pub float_from : ℕ → ℕ → ℕ → ℕ → ℕ → ℕ → Read Halves
float_from sign lead fraction low scale count =
    halves_of low (sign + 18 + count) (high_of sign fraction (exponent_from lead fraction low scale))

-- `0x`, a digit, a point, 13 digits, `p` and the scale
unfoldable pub is_float_frame : List ℕ → Bool
is_float_frame t = eqb (get_or t 0 0) 48 && (eqb (get_or t 3 0) 46 && eqb (get_or t 17 0) 112)

unfoldable pub float_at : ℕ → List ℕ → Read Halves
float_at sign t =
    cond (is_float_frame t)
    (and_digits (fixed_at 16 5 (drop 4 t)) (λ fraction.
    and_digits (fixed_at 16 8 (drop 9 t)) (λ low.
    and_read (scale_at (drop 18 t)) (float_from sign (get_or t 2 0) fraction low))))
    wrong

-- an int or a float: behind the sign and a digit a float has an x
abbrev pub int_value : ℕ → ℕ → Read Value
int_value bits count = got (int bits) count

abbrev pub float_value : Halves → ℕ → Read Value
float_value h count = got (float h.low h.high) count

unfoldable pub number_at : List ℕ → Read Value
number_at s =
    cond (eqb (get_or s (sign_size s + 1) 0) 120)
    (and_read (float_at (sign_size s) (drop (sign_size s) s)) float_value)
    (and_read (int_at s) int_value)

-- a vocab's letters behind its opening bracket, up to the closing one, at most `most` of them
unfoldable pub letters_at : ℕ → List ℕ → Read (List ℕ)
letters_at most [] = wrong
letters_at zero (c ∷ s) = cond (eqb c 93) (got [] 1) wrong
letters_at (suc most) (c ∷ s) =
    cond (eqb c 93) (got [] 1)
    (cond (is_letter c) (and_read (letters_at most s) (λ bs count. got (c ∷ bs) (suc count))) wrong)

-- one to four of them
abbrev pub vocab_bits : List ℕ → ℕ → Read ℕ
vocab_bits [] count = wrong
vocab_bits (b ∷ bs) count = got (le_value (b ∷ bs)) count

unfoldable pub vocab_at : List ℕ → Read ℕ
vocab_at s = and_read (letters_at 4 s) vocab_bits

-- a character of a string's bytes, with its escape: "three octal digits", "only for bytes below 32 or above 126", never \000
abbrev pub octal_byte : ℕ → Read ℕ
octal_byte b = cond (not (eqb b 0) && (ltb b 256 && not (is_printed b))) (got b 4) wrong

unfoldable pub escape_at : List ℕ → Read ℕ
escape_at s = cond (is_marked (get_or s 0 0)) (got (get_or s 0 0) 2) (and_digits (fixed_at 8 3 s) octal_byte)

unfoldable pub char_at : List ℕ → Read ℕ
char_at [] = wrong
char_at (c ∷ s) = cond (eqb c 92) (escape_at s) (cond (is_printed c && not (is_marked c)) (got c 1) wrong)

-- the bytes behind a quote, up to the closing quote; `skip` characters were read already
unfoldable pub chars_at : ℕ → List ℕ → Read (List ℕ)
chars_at skip [] = wrong
chars_at (suc skip) (c ∷ s) = and_read (chars_at skip s) (λ bs count. got bs (suc count))
chars_at zero (c ∷ s) =
    cond (eqb c 34) (got [] 1) (and_read (char_at (c ∷ s)) (λ b size. and_read (chars_at (size - 1) s) (λ bs count. got (b ∷ bs) (suc count))))

-- a byte of a blob, behind the space before it
abbrev pub spaced_byte : ℕ → ℕ → Read ℕ
spaced_byte b count = got b (suc count)

unfoldable pub byte_at : Bool → List ℕ → Read ℕ
byte_at first s =
    cond first (decimal_at 255 s)
    (cond (eqb (get_or s 0 0) 32) (and_read (decimal_at 255 (drop 1 s)) spaced_byte) wrong)

-- the bytes behind the opening brace, up to the closing one
unfoldable pub bytes_at : Bool → ℕ → List ℕ → Read (List ℕ)
bytes_at first skip [] = wrong
bytes_at first (suc skip) (c ∷ s) = and_read (bytes_at first skip s) (λ bs count. got bs (suc count))
bytes_at first zero (c ∷ s) =
    cond (eqb c 125) (got [] 1)
    (and_read (byte_at first (c ∷ s)) (λ b size. and_read (bytes_at false (size - 1) s) (λ bs count. got (b ∷ bs) (suc count))))

-- an element by its first character: a quote, a brace, a bracket, or a number's
abbrev pub within : {A : Type 0} → (A → Value) → A → ℕ → Read Value
within kind a count = got (kind a) (suc count)

unfoldable pub value_at : List ℕ → Read Value
value_at [] = wrong
value_at (c ∷ s) =
    cond (eqb c 34) (and_read (chars_at 0 s) (within str))
    (cond (eqb c 123) (and_read (bytes_at true 0 s) (within blob))
    (cond (eqb c 91) (and_read (vocab_at s) (within vocab))
    (number_at (c ∷ s))))
