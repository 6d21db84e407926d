-- Internal: the bytes of a list from its rows, in one pass; a list's code is found by looking ahead at as many rows as it counts.
use Rattle.std.specs.Prelude.{ℕ, zero, suc, ◌+◌, ◌-◌, cond, List, [], ◌∷◌, ◌++◌, eqb, ltb, Option, Some, None}
use Rattle.list.specs.declared.Kind.{Kind}
use Rattle.list.specs.declared.Kind.TheVariants.{Int, Float, Str, Blob, Vocab}
use Rattle.list.specs.declared.Row.{Row}
use Rattle.list.specs.Kind.{kind_of, list_code, size_of}
use Rattle.list.specs.Strings.{string_length}
use Rattle.list.specs.Bytes.{number, value_bytes, common}
use Rattle.list.specs.RowBytes.{row}
use Rattle.list_rows.specs.Described.{part, value_of}
use Rattle.list_rows.specs.Row.{stored}

-- the bytes of an element, without its code, where `bs` are its store bytes
abbrev pub found_bytes : List ℕ → ℕ → ℕ → Option Kind → List ℕ
found_bytes bs second third (Some k) = value_bytes (value_of bs second third k)
found_bytes bs second third None = []

-- what the codes of the next n rows have in common, after `seen`
unfoldable pub common_in : ℕ → ℕ → List ℕ → ℕ
common_in seen zero rows = seen
common_in seen (suc n) [] = seen
common_in seen (suc n) (a ∷ []) = seen
common_in seen (suc n) (a ∷ b ∷ []) = seen
common_in seen (suc n) (a ∷ b ∷ c ∷ rows) = common_in (common seen a) n rows

-- the code of a list whose elements have `seen` in common
unfoldable pub typed_or : ℕ → ℕ
typed_or seen = cond (eqb seen 0) list_code (cond (ltb seen list_code) (list_code + seen) list_code)

-- the code of the element whose row is `r`, `rows` behind it
unfoldable pub code_ahead : List ℕ → Row → ℕ
code_ahead rows r = cond (eqb r.code list_code) (typed_or (common_in 0 r.second rows)) r.code

-- the bytes of a row; `left` elements come without a code
unfoldable pub row_bytes : List ℕ → ℕ → ℕ → Row → List ℕ
row_bytes bs left code r =
    cond (eqb r.code list_code) (number code ++ number r.second)
    (cond (eqb left 0) (number code) [] ++ found_bytes bs r.second r.third (kind_of r.code))

-- how many elements come without a code behind it
unfoldable pub left_after : ℕ → ℕ → Row → ℕ
left_after left code r = cond (eqb r.code list_code) (cond (eqb code list_code) 0 r.second) (left - 1)

unfoldable pub emit : List ℕ → List ℕ → ℕ → ℕ → List ℕ
emit store [] left used = []
emit store (a ∷ []) left used = []
emit store (a ∷ b ∷ []) left used = []
emit store (a ∷ b ∷ c ∷ rows) left used =
    row_bytes (part store used (stored (row a b c))) left (code_ahead rows (row a b c)) (row a b c)
    ++ emit store rows (left_after left (code_ahead rows (row a b c)) (row a b c)) (used + stored (row a b c))

-- how many bytes these are: those that a string's or a blob's length counts stand behind it
abbrev pub kind_tail : ℕ → Kind → ℕ
kind_tail third Int = 0
kind_tail third Vocab = 0
kind_tail third Float = 0
kind_tail third Str = string_length third
kind_tail third Blob = third

abbrev pub kind_size : ℕ → Kind → ℕ
kind_size third k = size_of k + kind_tail third k

abbrev pub found_size : ℕ → Option Kind → ℕ
found_size third (Some k) = kind_size third k
found_size third None = 0

unfoldable pub row_size : ℕ → Row → ℕ
row_size left r = cond (eqb r.code list_code) 8 (cond (eqb left 0) 4 0 + found_size r.third (kind_of r.code))

unfoldable pub size_from : List ℕ → ℕ → ℕ
size_from [] left = 0
size_from (a ∷ []) left = 0
size_from (a ∷ b ∷ []) left = 0
size_from (a ∷ b ∷ c ∷ rows) left = row_size left (row a b c) + size_from rows (left_after left (code_ahead rows (row a b c)) (row a b c))

-- a number, or one more than the limit where it is above
unfoldable pub capped : ℕ → ℕ → ℕ
capped limit n = cond (ltb limit n) (suc limit) n

-- the store bytes of all rows
unfoldable pub stored_from : List ℕ → ℕ
stored_from [] = 0
stored_from (a ∷ []) = 0
stored_from (a ∷ b ∷ []) = 0
stored_from (a ∷ b ∷ c ∷ rows) = stored (row a b c) + stored_from rows
