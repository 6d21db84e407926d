-- Internal: what the filling pass reads of a list that was judged, and what it writes. Public contracts do not cite this file.
use Rattle.std.specs.Prelude.{ℕ, zero, suc, ◌+◌, ◌-◌, ◌*◌, ◌≤◌, ◌≡◌, List, [], ◌∷◌, ◌++◌, length, take, drop, Option, Some, None}
use Rattle.std.proofs.lemmas.List.Edits.{sets}
use Rattle.list.specs.declared.Kind.{Kind}
use Rattle.list.specs.declared.Kind.TheVariants.{Int, Float, Str, Blob, Vocab}
use Rattle.list.specs.Limits.{list_limit, row_room, store_room}
use Rattle.list.specs.Kind.{code_of, kind_of, list_code}
use Rattle.list.specs.Strings.{terminator}
use Rattle.list.specs.RowBytes.{packed}
use Rattle.list.specs.Tree.{Elements, none}
use Rattle.list.specs.Parse.{Parsed, good, bad, word, parse}
use Rattle.list_decode.specs.declared.put.Cursor.{Cursor}
use Rattle.list_decode.specs.declared.fill.Amounts.{Amounts}
use Rattle.list_decode.specs.Decode.{accepted, outcome, answered}

abbrev pub cursor : ℕ → ℕ → ℕ → Cursor
cursor pos row used = record { pos = pos; row = row; used = used }

-- what a part of the bytes gives: the numbers of its rows, its bytes in the store, and the offset behind it
pub record Piece : Type 0 where
  pub numbers : List ℕ
  pub bytes : List ℕ
  pub next : ℕ

abbrev pub piece : List ℕ → List ℕ → ℕ → Piece
piece numbers bytes next = record { numbers = numbers; bytes = bytes; next = next }

abbrev pub both : Piece → Piece → Piece
both p q = piece (p.numbers ++ q.numbers) (p.bytes ++ q.bytes) q.next

-- one row with nothing in the store
abbrev pub plain : ℕ → ℕ → ℕ → ℕ → Piece
plain a b c next = piece (a ∷ b ∷ c ∷ []) [] next

-- a string or a blob whose length stands at an offset: `tail` of the bytes that the length counts are not stored
abbrev pub stored : List ℕ → ℕ → ℕ → ℕ → ℕ → Piece
stored s code tail used at =
    piece (code ∷ used ∷ (word s at - tail) ∷ []) (take (word s at - tail) (drop (at + 4) s)) (at + 4 + word s at)

-- a number, and a float
abbrev pub one_number : List ℕ → ℕ → ℕ → ℕ → Piece
one_number s code used at = plain code (word s at) 0 (at + 4)

abbrev pub two_numbers : List ℕ → ℕ → ℕ → Piece
two_numbers s used at = plain (code_of Float) (word s at) (word s (at + 4)) (at + 8)

-- an element of a kind without its code; `used` store bytes stand before its own
abbrev pub value_piece : List ℕ → Kind → ℕ → ℕ → Piece
value_piece s Int = one_number s (code_of Int)
value_piece s Vocab = one_number s (code_of Vocab)
value_piece s Float = two_numbers s
value_piece s Str = stored s (code_of Str) (length terminator)
value_piece s Blob = stored s (code_of Blob) 0

-- n pieces one behind the other
unfoldable pub run : (ℕ → ℕ → Piece) → ℕ → ℕ → ℕ → Piece
run each zero used at = piece [] [] at
run each (suc n) used at = both (each used at) (run each n (used + length (each used at).bytes) (each used at).next)

-- what each of them is read from is there
abbrev pub EachHere : (ℕ → Type 0) → (ℕ → ℕ → Piece) → ℕ → ℕ → ℕ → Type 0
EachHere here each zero used at = Unit {0}
EachHere here each (suc n) used at = here at × EachHere here each n (used + length (each used at).bytes) (each used at).next

-- n elements of a typed list; behind the row of another list no run follows
abbrev pub found_run : List ℕ → Option Kind → ℕ → ℕ → ℕ → Piece
found_run s (Some k) n used at = run (value_piece s k) n used at
found_run s None n used at = piece [] [] at

-- the row of a list of n elements, and behind it those of a typed list
abbrev pub list_piece : List ℕ → Option Kind → ℕ → ℕ → ℕ → Piece
list_piece s found n used at = both (plain list_code n 0 (at + 8)) (found_run s found n used (at + 8))

-- an element that follows its code
abbrev pub coded_piece : List ℕ → Option Kind → ℕ → ℕ → Piece
coded_piece s (Some k) used at = value_piece s k used (at + 4)
coded_piece s None used at = list_piece s (kind_of (word s at - list_code)) (word s (at + 4)) used at

unfoldable pub element_piece : List ℕ → ℕ → ℕ → Piece
element_piece s used at = coded_piece s (kind_of (word s at)) used at

-- the bytes that a string or a blob is read from are there, one or n of them in a row
pub record Here (s : List ℕ) (tail at : ℕ) : Type 0 where
  pub long : tail ≤ word s at
  pub there : at + 4 + word s at ≤ length s

abbrev pub AllHere : List ℕ → ℕ → ℕ → ℕ → Type 0
AllHere s tail zero at = Unit {0}
AllHere s tail (suc n) at = Here s tail at × AllHere s tail n (at + 4 + word s at)

-- what n elements of a kind are read from is there
abbrev pub RunHere : List ℕ → Kind → ℕ → ℕ → Type 0
RunHere s Int n at = at + 4 * n ≤ length s
RunHere s Vocab n at = at + 4 * n ≤ length s
RunHere s Float n at = at + 8 * n ≤ length s
RunHere s Str n at = AllHere s (length terminator) n at
RunHere s Blob n at = AllHere s 0 n at

abbrev pub FoundHere : List ℕ → Option Kind → ℕ → ℕ → Type 0
FoundHere s (Some k) n at = RunHere s k n at
FoundHere s None n at = ⊥

-- what an element that follows its code is read from is there
abbrev pub CodedHere : List ℕ → Option Kind → ℕ → Type 0
CodedHere s (Some k) at = RunHere s k 1 (at + 4)
CodedHere s None at =
    (list_code ≤ word s at) × ((word s at ≡ list_code → ⊥) → FoundHere s (kind_of (word s at - list_code)) (word s (at + 4)) (at + 8))

-- a buffer has room for xs from an offset on; they were written there, up to another
abbrev pub Fits : List ℕ → ℕ → List ℕ → Type 0
Fits area at xs = at + length xs ≤ length area

pub record Added (area : List ℕ) (at : ℕ) (xs area' : List ℕ) (at' : ℕ) : Type 0 where
  pub holds : area' ≡ sets area at xs
  pub behind : at' ≡ at + length xs

-- a piece can be written from the cursor x on
pub record Room (x : Cursor) (p : Piece) (rows store : List ℕ) : Type 0 where
  pub row_room : Fits rows x.row (packed p.numbers)
  pub store_room : Fits store x.used p.bytes
  pub small : x.used + length p.bytes ≤ list_limit

-- it was written, up to the cursor y
pub record Written (x : Cursor) (p : Piece) (rows store : List ℕ) (y : Cursor) (rows' store' : List ℕ) : Type 0 where
  pub pos : y.pos ≡ p.next
  pub row : Added rows x.row (packed p.numbers) rows' y.row
  pub used : Added store x.used p.bytes store' y.used

-- the element at the cursor x can be written
pub record Ready (s : List ℕ) (x : Cursor) (rows store : List ℕ) : Type 0 where
  pub some : x.pos + 8 ≤ length s
  pub short : length s ≤ list_limit
  pub row : x.row + 12 ≤ length rows
  pub here : CodedHere s (kind_of (word s x.pos)) x.pos
  pub room : Room x (element_piece s x.used x.pos) rows store

-- so can a typed list of n elements, of the kind of a code
pub record ReadyTyped (s : List ℕ) (code n : ℕ) (x : Cursor) (rows store : List ℕ) : Type 0 where
  pub near : x.pos + 8 ≤ list_limit
  pub here : FoundHere s (kind_of code) n (x.pos + 8)
  pub room : Room x (list_piece s (kind_of code) n x.used x.pos) rows store

-- the elements that were read
abbrev pub tree : Parsed Elements → Elements
tree (good es next) = es
tree (bad r) = none

-- the bytes are those of a list that was judged, and there is room for it
pub record Judged (s rows store : List ℕ) : Type 0 where
  pub whole : parse list_limit s ≡ good (tree (parse list_limit s)) (length s)
  pub row_room : 4 * row_room ≤ length rows
  pub store_room : store_room ≤ length store

-- its rows and its store bytes were written, and these many
abbrev pub Filled : List ℕ → List ℕ → List ℕ → Amounts → List ℕ → List ℕ → Type 0
Filled s rows store n rows' store' =
    outcome (accepted (length s) n.rows n.stored) rows' store' ≡ answered rows store (parse list_limit s)
