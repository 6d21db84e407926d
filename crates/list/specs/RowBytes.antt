-- Rows as bytes: "a row is 12 bytes, low byte first".
use Rattle.std.specs.Prelude.{ℕ, ◌+◌, ◌*◌, List, [], ◌∷◌, ◌++◌, get_or}
use Rattle.wire.specs.Number.{le_value}
use Rattle.list.specs.Limits.{row_numbers}
use Rattle.list.specs.Bytes.{number}
use Rattle.list.specs.declared.Row.{Row}

-- the bytes of numbers, one behind the other
abbrev pub packed : List ℕ → List ℕ
packed [] = []
packed (n ∷ ns) = number n ++ packed ns

-- the numbers that bytes hold; bytes at the end that make no whole number hold none
unfoldable pub unpacked : List ℕ → List ℕ
unpacked [] = []
unpacked (a ∷ []) = []
unpacked (a ∷ b ∷ []) = []
unpacked (a ∷ b ∷ c ∷ []) = []
unpacked (a ∷ b ∷ c ∷ d ∷ bs) = le_value (a ∷ b ∷ c ∷ d ∷ []) ∷ unpacked bs

-- "rows of three 32-bit numbers"
abbrev pub row : ℕ → ℕ → ℕ → Row
row code second third = record { code = code; second = second; third = third }

-- the row whose first number stands at an index, zeros past the end
abbrev pub row_at : List ℕ → ℕ → Row
row_at numbers at = row (get_or numbers at 0) (get_or numbers (at + 1) 0) (get_or numbers (at + 2) 0)

-- the row i of rows that are bytes
abbrev pub row_of : List ℕ → ℕ → Row
row_of rows i = row_at (unpacked rows) (row_numbers * i)
