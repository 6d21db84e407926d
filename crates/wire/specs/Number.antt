-- Numbers as bytes, low byte first ("Numbers are 32-bit, low byte first"; "a two-byte count, low byte first").
use Rattle.std.specs.Prelude.{ℕ, zero, suc, ◌+◌, ◌*◌, ◌/◌, ◌%◌, ◌<◌, List, [], ◌∷◌, take, drop}

-- the number that bytes spell, low byte first
abbrev pub le_value : List ℕ → ℕ
le_value [] = 0
le_value (b ∷ bs) = b + 256 * le_value bs

-- the low `width` bytes of a number, low byte first
abbrev pub le_bytes : ℕ → ℕ → List ℕ
le_bytes zero x = []
le_bytes (suc width) x = x % 256 ∷ le_bytes width (x / 256)

-- the number of `width` bytes at an offset; bytes past the end count as zeros
abbrev pub number_at : ℕ → List ℕ → ℕ → ℕ
number_at width s at = le_value (take width (drop at s))

-- every element is a byte
abbrev pub Bytes : List ℕ → Type 0
Bytes [] = Unit {0}
Bytes (b ∷ bs) = (b < 256) × Bytes bs
