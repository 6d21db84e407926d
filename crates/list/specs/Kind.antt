-- The kinds of elements that are no lists, and their codes.
use Rattle.std.specs.Prelude.{ℕ, ◌+◌, cond, eqb, Option, Some, None}
use Rattle.list.specs.declared.Kind.{Kind}
use Rattle.list.specs.declared.Kind.TheVariants.{Int, Float, Str, Blob, Vocab}

-- "Codes: NetInt 1, NetFloat 10 (8 bytes, low byte first), NetString 4, NetBlob 12, NetVocab 9"
abbrev pub code_of : Kind → ℕ
code_of Int = 1
code_of Float = 10
code_of Str = 4
code_of Blob = 12
code_of Vocab = 9

-- the kind of a code
unfoldable pub kind_of : ℕ → Option Kind
kind_of code =
    cond (eqb code (code_of Int)) (Some Int)
    (cond (eqb code (code_of Float)) (Some Float)
    (cond (eqb code (code_of Str)) (Some Str)
    (cond (eqb code (code_of Blob)) (Some Blob)
    (cond (eqb code (code_of Vocab)) (Some Vocab)
    None))))

-- the bytes of a fixed element, or of the length before a string's or a blob's bytes
abbrev pub size_of : Kind → ℕ
size_of Int = 4
size_of Float = 8
size_of Str = 4
size_of Blob = 4
size_of Vocab = 4

-- the code of a list whose elements carry their codes
abbrev pub list_code : ℕ
list_code = 256

-- "The code is 256 plus the kind": the code of a list of elements of one kind, which carry none
abbrev pub typed_code : Kind → ℕ
typed_code k = list_code + code_of k
