-- The rule of strings: what stands behind a string's bytes, what its length counts, and what makes its bytes wrong.
use Rattle.std.specs.Prelude.{ℕ, ◌+◌, ◌-◌, Bool, not, ◌&&◌, ◌||◌, List, [], ◌∷◌, ltb, leb, length, take, drop}
use Rattle.wire.specs.Zero.{has_zero}
use Rattle.wire.specs.Equal.{same}

-- "Source document 002 says a string ends in zero"
abbrev pub terminator : List ℕ
terminator = 0 ∷ []

-- "its example also puts a length first that counts that zero. The example decides.": the length of a string of n bytes
abbrev pub string_length : ℕ → ℕ
string_length n = n + length terminator

-- and how many bytes a string of a given length has
abbrev pub string_size : ℕ → ℕ
string_size n = n - length terminator

-- "Numbers are 32-bit, low byte first, signed": below 0
abbrev pub negative : ℕ → Bool
negative n = leb 2147483648 n

-- 25: "string length below 1": too short for what stands behind the bytes
abbrev pub bad_length : ℕ → Bool
bad_length n = ltb n (length terminator) || negative n

-- 25: "a string's zero misplaced or missing at its end"; "No other zero stands in a string."
abbrev pub closed : List ℕ → Bool
closed run = not (has_zero (take (string_size (length run)) run)) && same (drop (string_size (length run)) run) terminator
