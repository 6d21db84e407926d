-- A list as callers see it: rows of three numbers, and the byte store of its strings and blobs.
use Rattle.std.specs.Prelude.{ℕ, ◌+◌, List, [], ◌∷◌, ◌++◌, length}
use Rattle.list.specs.declared.Kind.TheVariants.{Int, Float, Str, Blob, Vocab}
use Rattle.list.specs.Kind.{code_of, list_code}
use Rattle.list.specs.Tree.{Value, Elements, int, vocab, float, str, blob, none, value, list, count}

-- "strings (without the zero) and blobs lie back to back from 0 in row order"
abbrev pub value_store : Value → List ℕ
value_store (int n) = []
value_store (vocab n) = []
value_store (float low high) = []
value_store (str bs) = bs
value_store (blob bs) = bs

abbrev pub element_store : Elements → List ℕ
element_store none = []
element_store (value v es) = value_store v ++ element_store es
element_store (list inner es) = element_store inner ++ element_store es

-- "int (1, bits, 0), vocab (9, bits, 0), float (10, low half, high half), string (4, place, length) and blob (12, place, length)"
abbrev pub value_row : ℕ → Value → List ℕ
value_row used (int n) = code_of Int ∷ n ∷ 0 ∷ []
value_row used (vocab n) = code_of Vocab ∷ n ∷ 0 ∷ []
value_row used (float low high) = code_of Float ∷ low ∷ high ∷ []
value_row used (str bs) = code_of Str ∷ used ∷ length bs ∷ []
value_row used (blob bs) = code_of Blob ∷ used ∷ length bs ∷ []

-- "list (256, count, 0)"
abbrev pub list_row : Elements → List ℕ
list_row es = list_code ∷ count es ∷ 0 ∷ []

-- "in the order of the bytes, so outer before inner and all of an element before the next"; `used` store bytes stand before them
abbrev pub element_rows : ℕ → Elements → List ℕ
element_rows used none = []
element_rows used (value v es) = value_row used v ++ element_rows (used + length (value_store v)) es
element_rows used (list inner es) =
    list_row inner ++ (element_rows used inner ++ element_rows (used + length (element_store inner)) es)

-- the numbers of all rows of a list, and its store bytes
abbrev pub list_rows : Elements → List ℕ
list_rows es = list_row es ++ element_rows 0 es

abbrev pub list_store : Elements → List ℕ
list_store es = element_store es

-- how many rows the elements of a list have
abbrev pub element_count : Elements → ℕ
element_count none = 0
element_count (value v es) = 1 + element_count es
element_count (list inner es) = 1 + element_count inner + element_count es

abbrev pub row_count : Elements → ℕ
row_count es = 1 + element_count es
