-- Internal: what the filling pass reads of a text that was judged, and what it writes. Public contracts do not cite this file.
use Rattle.std.specs.Prelude.{ℕ, ◌+◌, ◌-◌, ◌*◌, ◌^◌, ◌≤◌, ◌<◌, ◌≡◌, Bool, true, false, cond, List, [], eqb, length, get_or, drop}
use Rattle.std.proofs.lemmas.List.Edits.{sets}
use Rattle.std.proofs.Math.Option.{Option, some}
use Rattle.std.proofs.Math.Option as option
use Rattle.digits.specs.Decimal.{decimal_at}
use Rattle.digits.specs.Read.{Read, got, wrong, and_read}
use Rattle.list.specs.Limits.{row_room, store_room, list_limit}
use Rattle.list.specs.Tree.{Value, int, vocab}
use Rattle.list.specs.Rows.{value_row, value_store}
use Rattle.list.specs.Bytes.{number}
use Rattle.list.specs.RowBytes.{packed}
use Rattle.list.specs.Parse.{word}
use Rattle.list_decode.specs.Decode.{outcome}
use Rattle.text.specs.Read.{int_at, int_value, float_at, float_value, number_at, vocab_at, value_at}
use Rattle.text_check.specs.Check.{to_read, error_of}
use Rattle.text_decode.specs.declared.known.Known.{Known}
use Rattle.text_decode.specs.declared.put.CopiedTo.{CopiedTo}
use Rattle.text_decode.specs.declared.element.Cursor.{Cursor}
use Rattle.text_decode.specs.declared.fill.Amounts.{Amounts}
use Rattle.text_decode.specs.Decode.{accepted, answered}

-- something was read; how many characters, and what, by a default where nothing was
abbrev pub is_got : {A : Type 0} → Read A → Bool
is_got (got a count) = true
is_got wrong = false

abbrev pub size_read : {A : Type 0} → Read A → ℕ
size_read (got a count) = count
size_read wrong = 0

abbrev pub read_or : {A : Type 0} → A → Read A → A
read_or default (got a count) = a
read_or default wrong = default

abbrev pub is_some : {A : Type 0} → Option A → Bool
is_some (some a) = true
is_some option.none = false

-- what was read at an offset, as the code answers it: escapes, scales and ints count the character before their digits
pub record KnownAs (p : Read ℕ) (at : ℕ) (r : Known) : Type 0 where
  pub bits : r.bits ≡ read_or 0 p
  pub end : r.end ≡ at + size_read p

-- a number in decimal under any limit of 32 bits
abbrev pub known_decimal : List ℕ → Read ℕ
known_decimal s = decimal_at (2 ^ 32 - 1) s

-- a float's high half, counted without its sign
abbrev pub known_high : ℕ → List ℕ → Read ℕ
known_high sign s = and_read (float_at sign s) (λ h count. got h.high (count - sign))

-- the bytes of a string or a blob are there, and there is room for them
pub record BytesHere (p : Read (List ℕ)) (store : List ℕ) (used : ℕ) : Type 0 where
  pub there : is_got p ≡ true
  pub room : used + length (read_or [] p) ≤ length store

-- they were written, from the characters at an offset
pub record BytesPut (p : Read (List ℕ)) (at : ℕ) (store : List ℕ) (used : ℕ) (r : CopiedTo) (store' : List ℕ) : Type 0 where
  pub pos : r.pos ≡ at + size_read p
  pub end : r.used ≡ used + length (read_or [] p)
  pub holds : store' ≡ sets store used (read_or [] p)

abbrev pub cursor : ℕ → ℕ → ℕ → Cursor
cursor pos row used = record { pos = pos; row = row; used = used }

-- a number, and a vocab behind its opening bracket, at a cursor
abbrev pub number_from : List ℕ → Cursor → Read Value
number_from text x = number_at (drop x.pos text)

abbrev pub vocab_from : List ℕ → Cursor → Read Value
vocab_from text x = and_read (vocab_at (drop x.pos text)) (λ bits count. got (vocab bits) count)

-- an int with its sign, and a float whose sign is known
abbrev pub int_from : List ℕ → Cursor → Read Value
int_from text x = and_read (int_at (drop x.pos text)) int_value

abbrev pub float_from : ℕ → List ℕ → Cursor → Read Value
float_from sign text x = and_read (float_at sign (drop (x.pos + sign) text)) float_value

-- a value with nothing in the store is there, and there is room for its row
pub record FixedHere (p : Read Value) (x : Cursor) (rows : List ℕ) : Type 0 where
  pub there : is_got p ≡ true
  pub row : x.row + 12 ≤ length rows

pub record FixedPut (p : Read Value) (x : Cursor) (rows : List ℕ) (y : Cursor) (rows' : List ℕ) : Type 0 where
  pub to : y ≡ cursor (x.pos + size_read p) (x.row + 12) x.used
  pub holds : rows' ≡ sets rows x.row (packed (value_row x.used (read_or (int 0) p)))

-- the value at a cursor
abbrev pub value_from : List ℕ → ℕ → Value
value_from text pos = read_or (int 0) (value_at (drop pos text))

-- it is there, and there is room for its row and its store bytes
pub record ValueHere (text : List ℕ) (x : Cursor) (rows store : List ℕ) : Type 0 where
  pub there : is_got (value_at (drop x.pos text)) ≡ true
  pub row : x.row + 12 ≤ length rows
  pub small : x.used + length (value_store (value_from text x.pos)) ≤ list_limit
  pub room : x.used + length (value_store (value_from text x.pos)) ≤ length store

pub record ValuePut (text : List ℕ) (x : Cursor) (rows store : List ℕ) (y : Cursor) (rows' store' : List ℕ) : Type 0 where
  pub pos : y.pos ≡ x.pos + size_read (value_at (drop x.pos text))
  pub row : y.row ≡ x.row + 12
  pub used : y.used ≡ x.used + length (value_store (value_from text x.pos))
  pub rows-hold : rows' ≡ sets rows x.row (packed (value_row x.used (value_from text x.pos)))
  pub store-holds : store' ≡ sets store x.used (value_store (value_from text x.pos))

-- the count of the list whose row stands at a byte offset can be raised; it was
pub record Countable (rows : List ℕ) (outer : ℕ) : Type 0 where
  pub there : outer + 12 ≤ length rows
  pub small : word rows (outer + 4) + 1 < 2 ^ 32

abbrev pub counted_one : List ℕ → ℕ → List ℕ
counted_one rows outer = sets rows (outer + 4) (number (word rows (outer + 4) + 1))

-- the list whose row stands at a byte offset was closed, and where the row of the list around it stands
abbrev pub closed_at : List ℕ → ℕ → List ℕ
closed_at rows outer = sets rows (outer + 8) (number 0)

abbrev pub around_at : List ℕ → ℕ → ℕ
around_at rows outer = word rows (outer + 8)

-- behind the space before an element
abbrev pub behind_space : List ℕ → ℕ → ℕ
behind_space text pos = cond (eqb (get_or text pos 0) 32) (pos + 1) pos

-- the text was judged to be a list's, and there is room for it
pub record Judged (text rows store : List ℕ) : Type 0 where
  pub good : error_of (to_read text) ≡ 0
  pub row_room : 4 * row_room ≤ length rows
  pub store_room : store_room ≤ length store

-- its rows and its store bytes were written, and these many
abbrev pub Filled : List ℕ → List ℕ → List ℕ → Amounts → List ℕ → List ℕ → Type 0
Filled text rows store n rows' store' =
    outcome (accepted n.rows n.stored) rows' store' ≡ answered rows store (to_read text)
