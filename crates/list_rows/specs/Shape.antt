-- Internal: whether rows and store describe a list, judged row by row with a count of the elements still wanted.
use Rattle.std.specs.Prelude.{ℕ, zero, suc, ◌+◌, ◌-◌, Bool, true, false, cond, ◌&&◌, List, [], ◌∷◌, ◌++◌, eqb, leb, length, get_or, Option, Some, None}
use Rattle.list.specs.declared.Kind.{Kind}
use Rattle.list.specs.declared.Kind.TheVariants.{Int, Float, Str, Blob, Vocab}
use Rattle.list.specs.declared.Row.{Row}
use Rattle.list.specs.Kind.{kind_of, list_code}
use Rattle.list.specs.Strings.{terminator, closed}
use Rattle.list.specs.RowBytes.{row}
use Rattle.list_rows.specs.Described.{part, natural}
use Rattle.list_rows.specs.Row.{gained, stored}

-- `size` bytes at `offset` are the next ones of the store, behind `used` of them
unfoldable pub placed : List ℕ → ℕ → ℕ → ℕ → Bool
placed store used offset size = eqb offset used && (natural size && leb size (length store - used))

unfoldable pub textual : List ℕ → ℕ → ℕ → ℕ → Bool
textual store used offset size = placed store used offset size && closed (part store used size ++ terminator)

-- the row of an element, behind `used` bytes of the store
unfoldable pub kind_fits : List ℕ → ℕ → ℕ → ℕ → Kind → Bool
kind_fits store used second third Int = eqb third 0
kind_fits store used second third Vocab = eqb third 0
kind_fits store used second third Float = true
kind_fits store used second third Str = textual store used second third
kind_fits store used second third Blob = placed store used second third

abbrev pub found_fits : List ℕ → ℕ → ℕ → ℕ → Option Kind → Bool
found_fits store used second third (Some k) = kind_fits store used second third k
found_fits store used second third None = false

unfoldable pub row_fits : List ℕ → ℕ → Row → Bool
row_fits store used r =
    cond (eqb r.code list_code) (natural r.second && eqb r.third 0) (found_fits store used r.second r.third (kind_of r.code))

-- the rows are those of `want` elements, and theirs are the bytes of the store from `used` on
unfoldable pub shape : List ℕ → List ℕ → ℕ → ℕ → Bool
shape store [] want used = eqb want 0 && eqb used (length store)
shape store (a ∷ []) want used = false
shape store (a ∷ b ∷ []) want used = false
shape store (a ∷ b ∷ c ∷ rows) zero used = false
shape store (a ∷ b ∷ c ∷ rows) (suc want) used =
    row_fits store used (row a b c) && shape store rows (want + gained (row a b c)) (used + stored (row a b c))

-- and the first row is a list's
unfoldable pub list_shape : List ℕ → List ℕ → Bool
list_shape rows store = eqb (get_or rows 0 0) list_code && shape store rows 1 0
