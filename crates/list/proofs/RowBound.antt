-- How many rows and store bytes a legal list can have: every row takes four bytes or more, and the outermost list's eight.
use Prim.Native.Nat.{ℕ, ◌+◌, ◌*◌, ◌≤◌}
use mathlib.Core.Path.{◌≡◌, refl}
use native.Mathlib.Omega.{arith}
use lib.ListN.{length, length-append}
use Rattle.list.specs.Limits.{list_limit, row_room, row_numbers}
use Rattle.list.specs.Tree.{Value, Elements, int, vocab, float, str, blob, none, value, list}
use Rattle.list.specs.Bytes.{value_bytes, element_bytes, list_code_of, list_bytes}
use Rattle.list.specs.Legal.{Legal}
use Rattle.list.specs.Rows.{value_store, element_store, value_row, element_rows, list_rows, list_store, element_count, row_count}

-- a value's bytes: four or more, and its store bytes besides
pub value-size : (v : Value) → 4 + length (value_store v) ≤ length (value_bytes v)
value-size (int n) = omega arith
value-size (vocab n) = omega arith
value-size (float low high) = omega arith
value-size (str bs) = simp length-append (omega arith)
value-size (blob bs) = omega arith

pub elements-size : (code : ℕ) (es : Elements) → 4 * element_count es + length (element_store es) ≤ length (element_bytes code es)
elements-size code none = omega arith
elements-size code (value v es) = simp length-append (omega (arith, elements-size code es, value-size v))
elements-size code (list inner es) = simp length-append (omega (arith, elements-size code es, elements-size (list_code_of inner) inner))

pub list-size : (es : Elements) → 4 * row_count es + 4 + length (list_store es) ≤ length (list_bytes es)
unfolding list_bytes
list-size es = omega (arith, elements-size (list_code_of es) es)

-- "so at most 1,023 rows"
pub row-bound : (es : Elements) → Legal list_limit es → row_count es ≤ 1023
row-bound es l = omega (arith, list-size es)

-- the room that 20 asks for rows is enough for every legal list
pub rows_fit : (es : Elements) → Legal list_limit es → row_numbers * row_count es ≤ row_room
rows_fit es l = omega (arith, list-size es)

-- the store bytes are no more than the bytes, so within the limit
pub store-bound : (limit : ℕ) (es : Elements) → Legal limit es → length (list_store es) ≤ limit
store-bound limit es l = omega (arith, list-size es)

-- rows are of three numbers
pub value_row_lem : (used : ℕ) (v : Value) → length (value_row used v) ≡ 3
value_row_lem used (int n) = refl
value_row_lem used (vocab n) = refl
value_row_lem used (float low high) = refl
value_row_lem used (str bs) = refl
value_row_lem used (blob bs) = refl

pub element-rows : (used : ℕ) (es : Elements) → 3 * element_count es ≡ length (element_rows used es)
element-rows used none = refl
element-rows used (value v es) = simp length-append (omega (arith, value_row_lem used v, element-rows (used + length (value_store v)) es))
element-rows used (list inner es) = simp length-append (omega (arith, element-rows used inner, element-rows (used + length (element_store inner)) es))

pub row-numbers : (es : Elements) → 3 * row_count es ≡ length (list_rows es)
row-numbers es = omega (arith, element-rows 0 es)
