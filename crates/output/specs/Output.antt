-- A program's output, put together in a buffer piece by piece.
use Rattle.std.specs.Prelude.{ℕ, ◌+◌, ◌*◌, cond, List, [], ◌∷◌, map, leb, length, take}
use Rattle.std.proofs.lemmas.List.Edits.{sets}
use Rattle.list.specs.Limits.{list_limit}
use Rattle.output.specs.Digits.{hex_byte}

-- a buffer, and how many of its bytes are in use
pub record Output : Type 0 where
  pub buffer : List ℕ
  pub used : ℕ

abbrev pub output : List ℕ → ℕ → Output
output buffer used = record { buffer = buffer; used = used }

-- a piece behind what is in use, where it fits whole; else nothing changes
unfoldable pub put : Output → List ℕ → Output
put t piece =
    cond (leb (t.used + length piece) (length t.buffer)) (output (sets t.buffer t.used piece) (t.used + length piece)) t

-- pieces one after the other
unfoldable pub puts : Output → List (List ℕ) → Output
puts t [] = t
puts t (piece ∷ pieces) = puts (put t piece) pieces

-- the end of a line
abbrev pub newline : List ℕ
newline = 10 ∷ []

-- bytes one by one, the two digits of each a piece of their own
abbrev pub put_bytes : Output → List ℕ → Output
put_bytes t bytes = puts t (map hex_byte bytes)

-- the first n bytes of a list that has so many; else nothing changes
abbrev pub put_front : Output → List ℕ → ℕ → Output
put_front t list n = cond (leb n (length list)) (put_bytes t (take n list)) t

-- what is handed to standard output: all that is in use, where the buffer has so much; else nothing
abbrev pub handed : List ℕ → ℕ → ℕ
handed buffer used = cond (leb used (length buffer)) used 0

-- the words and numbers of a line beside its list
abbrev pub word_room : ℕ
word_room = 256

-- the longest line: two digits for each byte of a list, and the words around them
abbrev pub list_line_room : ℕ
list_line_room = 2 * list_limit + word_room

-- output stays in the buffer where the longest line fits behind it; else it is written, and the next starts at the front
abbrev pub kept : List ℕ → ℕ → ℕ
kept buffer used = cond (leb (used + list_line_room) (length buffer)) used 0
