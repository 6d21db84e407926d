-- Numbers of a fixed number of digits in a base up to 16, highest first: written, and read from the front of characters.
use Rattle.std.specs.Prelude.{ℕ, zero, suc, ◌+◌, ◌-◌, ◌*◌, ◌/◌, ◌%◌, cond, ◌&&◌, List, [], ◌∷◌, ◌++◌, ltb, leb}
use Rattle.std.proofs.Math.Option.{Option, some}
use Rattle.std.proofs.Math.Option as option

-- the character of a digit: `0` to `9`, then `a` to `f`
abbrev pub glyph : ℕ → ℕ
glyph d = cond (ltb d 10) (48 + d) (87 + d)

-- the last `width` digits of a number
abbrev pub fixed : ℕ → ℕ → ℕ → List ℕ
fixed base zero n = []
fixed base (suc width) n = fixed base width (n / base) ++ (glyph (n % base) ∷ [])

-- the digit of a character, 16 where it is none
unfoldable pub digit_of : ℕ → ℕ
digit_of c = cond (leb 48 c && leb c 57) (c - 48) (cond (leb 97 c && leb c 102) (c - 87) 16)

-- `width` digits behind those that make `value`
unfoldable pub fixed_from : ℕ → ℕ → ℕ → List ℕ → Option ℕ
fixed_from base zero value s = some value
fixed_from base (suc width) value [] = option.none
fixed_from base (suc width) value (c ∷ s) =
    cond (ltb (digit_of c) base) (fixed_from base width (base * value + digit_of c) s) option.none

-- the number that the first `width` characters make
abbrev pub fixed_at : ℕ → ℕ → List ℕ → Option ℕ
fixed_at base width s = fixed_from base width 0 s
