-- The list that rows and store describe, where they describe exactly one.
use Rattle.std.specs.Prelude.{ℕ, zero, suc, ◌*◌, ◌%◌, ◌^◌, ◌<◌, Bool, true, not, cond, ◌&&◌, List, [], ◌∷◌, ◌++◌, eqb, length, take, drop, Option, Some, None}
use Rattle.std.proofs.Math.Option as option
use Rattle.wire.specs.Equal.{same}
use Rattle.list.specs.declared.Kind.{Kind}
use Rattle.list.specs.declared.Kind.TheVariants.{Int, Float, Str, Blob, Vocab}
use Rattle.list.specs.Kind.{kind_of, list_code}
use Rattle.list.specs.Limits.{row_numbers}
use Rattle.list.specs.Strings.{terminator, negative, closed}
use Rattle.list.specs.Tree.{Value, Elements, int, vocab, float, str, blob, none, value, list, count}
use Rattle.list.specs.Rows.{value_store, list_rows, list_store}
use Rattle.list.specs.RowBytes.{unpacked}
use Rattle.list.specs.Legal.{LegalValue}

-- "Place and length are in a byte store": `size` bytes of it from `offset` on
abbrev pub part : List ℕ → ℕ → ℕ → List ℕ
part store offset size = take size (drop offset store)

-- "int (1, bits, 0), vocab (9, bits, 0), float (10, low half, high half), string (4, place, length) and blob (12, place, length)":
-- a row's element, where `bs` are the bytes that it names
abbrev pub value_of : List ℕ → ℕ → ℕ → Kind → Value
value_of bs second third Int = int second
value_of bs second third Vocab = vocab second
value_of bs second third Float = float second third
value_of bs second third Str = str bs
value_of bs second third Blob = blob bs

-- the first n elements, and those behind them
abbrev pub first_of : ℕ → Elements → Elements
first_of zero es = none
first_of (suc n) none = none
first_of (suc n) (value v es) = value v (first_of n es)
first_of (suc n) (list inner es) = list inner (first_of n es)

abbrev pub rest_of : ℕ → Elements → Elements
rest_of zero es = es
rest_of (suc n) none = none
rest_of (suc n) (value v es) = rest_of n es
rest_of (suc n) (list inner es) = rest_of n es

-- "list (256, count, 0)", "outer before inner and all of an element before the next": a list takes as many of the elements behind its row
abbrev pub list_of : ℕ → Elements → Elements
list_of n es = list (first_of n es) (rest_of n es)

-- an element in front of others; a row of an unknown code describes nothing
abbrev pub value_before : List ℕ → ℕ → ℕ → Elements → Option Kind → Elements
value_before store second third es (Some k) = value (value_of (part store second third) second third k) es
value_before store second third es None = none

-- the elements that rows describe, before any test
unfoldable pub elements_of : List ℕ → List ℕ → Elements
elements_of store [] = none
elements_of store (code ∷ []) = none
elements_of store (code ∷ second ∷ []) = none
elements_of store (code ∷ second ∷ third ∷ rows) =
    cond (eqb code list_code) (list_of second (elements_of store rows)) (value_before store second third (elements_of store rows) (kind_of code))

-- the elements of the outermost list
abbrev pub outermost : Elements → Elements
outermost none = none
outermost (value v es) = none
outermost (list es rest) = es

-- "Numbers are 32-bit .. signed": a count or a length that is not below 0
abbrev pub natural : ℕ → Bool
natural n = not (negative n)

-- a string's bytes, closed, are as a string's must be, and lengths are not below 0
abbrev pub allowed_value : Value → Bool
allowed_value (int n) = true
allowed_value (vocab n) = true
allowed_value (float low high) = true
allowed_value (str bs) = natural (length bs) && closed (bs ++ terminator)
allowed_value (blob bs) = natural (length bs)

-- the same of all elements, and counts are not below 0
abbrev pub allowed : Elements → Bool
allowed none = true
allowed (value v es) = allowed_value v && allowed es
allowed (list inner es) = natural (count inner) && (allowed inner && allowed es)

-- these are the rows and the store of this list, and its strings, counts and lengths are as they may be
unfoldable pub describes : List ℕ → List ℕ → Elements → Bool
describes rows store es = same rows (list_rows es) && (same store (list_store es) && (natural (count es) && allowed es))

-- 30: "rows and store do not describe exactly one list"
unfoldable pub described : List ℕ → List ℕ → option.Option Elements
described rows store =
    cond (describes rows store (outermost (elements_of store rows))) (option.some (outermost (elements_of store rows))) option.none

-- "There a row is 12 bytes": the bytes are those of whole rows
abbrev pub row_width : ℕ
row_width = 4 * row_numbers

abbrev pub whole_rows : List ℕ → Bool
whole_rows rows = eqb (length rows % row_width) 0

-- the same of rows that are bytes; a part of a row describes nothing
unfoldable pub list_in : List ℕ → List ℕ → option.Option Elements
list_in rows store = cond (whole_rows rows) (described (unpacked rows) store) option.none

-- what rows and store can describe, at any depth and of any size: legal values, no count or length below 0
abbrev pub Writable : Elements → Type 0
Writable none = Unit {0}
Writable (value v es) = LegalValue v × (length (value_store v) < 2 ^ 31) × Writable es
Writable (list inner es) = (count inner < 2 ^ 31) × Writable inner × Writable es
