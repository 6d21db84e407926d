-- Internal: rows one at a time, as the code reads them.
use Rattle.std.specs.Prelude.{ℕ, ◌*◌, ◌/◌, cond, List, eqb, length, drop, Option, Some, None}
use Rattle.list.specs.declared.Kind.{Kind}
use Rattle.list.specs.declared.Kind.TheVariants.{Int, Float, Str, Blob, Vocab}
use Rattle.list.specs.declared.Row.{Row}
use Rattle.list.specs.Kind.{kind_of, list_code}
use Rattle.list.specs.Limits.{row_numbers}

-- how many whole rows numbers are, and the numbers from row i on
abbrev pub rows_in : List ℕ → ℕ
rows_in rows = length rows / row_numbers

abbrev pub rows_from : List ℕ → ℕ → List ℕ
rows_from rows i = drop (row_numbers * i) rows

-- the elements that a row adds to those still wanted
unfoldable pub gained : Row → ℕ
gained r = cond (eqb r.code list_code) r.second 0

-- the store bytes of an element, and of a row
abbrev pub kind_stored : ℕ → Kind → ℕ
kind_stored third Int = 0
kind_stored third Vocab = 0
kind_stored third Float = 0
kind_stored third Str = third
kind_stored third Blob = third

abbrev pub found_stored : ℕ → Option Kind → ℕ
found_stored third (Some k) = kind_stored third k
found_stored third None = 0

unfoldable pub stored : Row → ℕ
stored r = found_stored r.third (kind_of r.code)
