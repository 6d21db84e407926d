-- The entries of a settings list, by its tree, and where the value of a key stands in the list's bytes.
use Rattle.std.specs.Prelude.{ℕ, ◌+◌, Bool, cond, ◌&&◌, List, ◌++◌, eqb, length}
use Rattle.wire.specs.Equal.{same}
use Rattle.list.specs.declared.Kind.TheVariants.{Str}
use Rattle.list.specs.Kind.{code_of, typed_code}
use Rattle.list.specs.Strings.{string_length}
use Rattle.list.specs.Tree.{Value, Elements, none, value, list, kind, count}
use Rattle.list.specs.Bytes.{number, string_bytes, element_bytes, list_code_of}
use Rattle.list.specs.Rows.{value_store}

-- an inner list as an entry, or as another list
pub data Entry : Type 0 where
  entry : (key setting : List ℕ) → Entry
  other : Entry

abbrev pub is_string : Value → Bool
is_string v = eqb (code_of (kind v)) (code_of Str)

-- "a list of exactly two strings, key first"
abbrev pub entry_of : Elements → Entry
entry_of none = other
entry_of (list inner es) = other
entry_of (value k none) = other
entry_of (value k (list inner es)) = other
entry_of (value k (value v none)) = cond (is_string k && is_string v) (entry (value_store k) (value_store v)) other
entry_of (value k (value v (value w es))) = other
entry_of (value k (value v (list inner es))) = other

-- where the bytes of a value stand, or that there is none
pub data Search : Type 0 where
  at : (offset size : ℕ) → Search
  nowhere : Search

-- the one found first
abbrev pub or_else : Search → Search → Search
or_else (at offset size) later = at offset size
or_else nowhere later = later

-- what stands in an entry before the bytes of its value: code, count, the key's string, the value's length
abbrev pub before : List ℕ → List ℕ → List ℕ
before key setting = number (typed_code Str) ++ (number 2 ++ (string_bytes key ++ number (string_length (length setting))))

-- the value of an entry at an offset, "without the closing zero", if the entry has the key
abbrev pub in_entry : List ℕ → ℕ → Entry → Search
in_entry key offset (entry k v) = cond (same k key) (at (offset + length (before k v)) (length v)) nowhere
in_entry key offset other = nowhere

-- "An entry is an outermost element"; "the first with the key counts": elements of a list of the code `code`, from an offset on
unfoldable pub search_from : ℕ → List ℕ → ℕ → Elements → Search
search_from code key offset none = nowhere
search_from code key offset (value v es) = search_from code key (offset + length (element_bytes code (value v none))) es
search_from code key offset (list inner es) =
    or_else (in_entry key offset (entry_of inner)) (search_from code key (offset + length (element_bytes code (list inner none))) es)

-- a whole list: its elements stand behind its code and its count
abbrev pub search_in : List ℕ → Elements → Search
search_in key es = search_from (list_code_of es) key (length (number (list_code_of es) ++ number (count es))) es
