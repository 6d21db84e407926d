-- The bytes of a list.
use Rattle.std.specs.Prelude.{ℕ, ◌+◌, cond, List, [], ◌++◌, eqb, length}
use Rattle.wire.specs.Number.{le_bytes}
use Rattle.list.specs.Kind.{code_of, list_code}
use Rattle.list.specs.Strings.{terminator, string_length}
use Rattle.list.specs.Tree.{Value, Elements, int, vocab, float, str, blob, none, value, list, kind, count}

-- "Numbers are 32-bit, low byte first"
abbrev pub number : ℕ → List ℕ
number n = le_bytes 4 n

-- a string is its length, its bytes and what stands behind them
abbrev pub string_bytes : List ℕ → List ℕ
string_bytes bs = number (string_length (length bs)) ++ (bs ++ terminator)

-- "A blob is its length, at least 0, then its bytes."
abbrev pub blob_bytes : List ℕ → List ℕ
blob_bytes bs = number (length bs) ++ bs

-- the bytes of an element that is no list, without its code
abbrev pub value_bytes : Value → List ℕ
value_bytes (int n) = number n
value_bytes (vocab n) = number n
value_bytes (float low high) = number low ++ number high
value_bytes (str bs) = string_bytes bs
value_bytes (blob bs) = blob_bytes bs

-- the code that all elements so far have in common: 0 before the first, 256 where two differ or one is a list
abbrev pub common : ℕ → ℕ → ℕ
common seen code = cond (eqb seen 0) code (cond (eqb seen code) code list_code)

abbrev pub common_of : ℕ → Elements → ℕ
common_of seen none = seen
common_of seen (value v es) = common_of (common seen (code_of (kind v))) es
common_of seen (list inner es) = common_of list_code es

-- "256 plus the kind if there is at least one element and all are of one kind other than list; else it is 256"
unfoldable pub code_for : ℕ → ℕ
code_for seen = cond (eqb seen 0) list_code (cond (eqb seen list_code) list_code (list_code + seen))

abbrev pub list_code_of : Elements → ℕ
list_code_of es = code_for (common_of 0 es)

-- in a 256 list "each element follows its code"
abbrev pub element_code : ℕ → ℕ → List ℕ
element_code outer code = cond (eqb outer list_code) (number code) []

-- the elements' bytes in a list of the code `outer`: "a nested list's own first number is its code in the outer list, not written twice"
abbrev pub element_bytes : ℕ → Elements → List ℕ
element_bytes outer none = []
element_bytes outer (value v es) = element_code outer (code_of (kind v)) ++ (value_bytes v ++ element_bytes outer es)
element_bytes outer (list inner es) =
    number (list_code_of inner) ++ (number (count inner) ++ (element_bytes (list_code_of inner) inner ++ element_bytes outer es))

-- "A list is a code, a count, its elements."
unfoldable pub list_bytes : Elements → List ℕ
list_bytes es = number (list_code_of es) ++ (number (count es) ++ element_bytes (list_code_of es) es)
