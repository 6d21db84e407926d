-- Internal: the text of a list from its rows, one after the other. Of the innermost open list `left` elements are still to come, and `outer`
-- says the same of the lists around it, the inner before the outer. Public contracts do not cite this file.
use Rattle.std.specs.Prelude.{ℕ, suc, ◌+◌, ◌*◌, ◌≤◌, ◌≡◌, Bool, true, false, cond, not, ◌&&◌, List, [], ◌∷◌, ◌++◌, eqb, leb, ltb, length, Option, Some, None}
use Rattle.std.proofs.lemmas.List.Edits.{sets}
use Rattle.list.specs.declared.Kind.TheVariants.{Vocab, Float}
use Rattle.list.specs.declared.Kind.{Kind}
use Rattle.list.specs.declared.Row.{Row}
use Rattle.list.specs.Limits.{depth_limit, row_numbers}
use Rattle.list.specs.Kind.{code_of, kind_of, list_code}
use Rattle.list.specs.RowBytes.{row, row_at}
use Rattle.list_rows.specs.Described.{part, value_of}
use Rattle.list_rows.specs.Row.{rows_in, rows_from, stored}
use Rattle.list_rows.specs.Emit.{stored_from}
use Rattle.list_rows.specs.Nesting.{next_in}
use Rattle.text.specs.Text.{gap, value_text}
use Rattle.text.specs.Form.{is_vocab, is_finite}
use Rattle.text_encode.specs.declared.emit.Cursor.{Cursor}
use Rattle.text_encode.specs.declared.writer.Writer.{Writer}

-- the text of an element that is no list, where `bs` are its store bytes; a row of an unknown code has none
abbrev pub found_text : List ℕ → ℕ → ℕ → Option Kind → List ℕ
found_text bs second third (Some k) = value_text (value_of bs second third k)
found_text bs second third None = []

unfoldable pub row_text : List ℕ → Row → List ℕ
row_text bs r = found_text bs r.second r.third (kind_of r.code)

-- the end of an inner list, and a space where elements of the list around it are still to come
abbrev pub closing : ℕ → List ℕ
closing left = 41 ∷ gap (eqb left 0)

-- what is next, behind the ends of the inner lists that are closed first
abbrev pub next_text : (List ℕ → ℕ → List ℕ) → List ℕ → ℕ → List ℕ
next_text element outer left = next_in (λ n rest. closing n ++ rest) [] element outer left

-- the text that is still to come, where `used` bytes of the store are used; it ends where rows are missing or a list stands too deep
unfoldable pub spell : List ℕ → List ℕ → ℕ → List ℕ → ℕ → List ℕ
spell store [] used outer left = next_text (λ _ _. []) outer left
spell store (a ∷ []) used outer left = next_text (λ _ _. []) outer left
spell store (a ∷ b ∷ []) used outer left = next_text (λ _ _. []) outer left
spell store (a ∷ b ∷ c ∷ rows) used outer left =
    next_text
    (λ around n. cond (eqb a list_code) (cond (leb depth_limit (suc (length around))) [] (40 ∷ spell store rows used (n ∷ around) b))
    (row_text (part store used (stored (row a b c))) (row a b c) ++ (gap (eqb n 0) ++ spell store rows (used + stored (row a b c)) around n)))
    outer left

-- all of a list
unfoldable pub spell_list : List ℕ → List ℕ → List ℕ
spell_list rows store = spell store (rows_from rows 1) 0 [] (row_at rows 0).second

-- where the writing stands in the rows, in the store and in the text, and how many elements of the innermost open list are still to come
pub record Place : Type 0 where
  pub row : ℕ
  pub used : ℕ
  pub end : ℕ
  pub left : ℕ

abbrev pub place : Cursor → Writer → Place
place x w = record { row = x.row; used = x.used; end = w.end; left = x.left }

-- the text that is still to come from a place on
abbrev pub to_come : List ℕ → List ℕ → List ℕ → Place → List ℕ
to_come rows store outer x = spell store (rows_from rows x.row) x.used outer x.left

-- the place in a list that is opened, and behind one that is closed where `left` elements of the list around it are still to come
abbrev pub opened : List ℕ → Place → Place
opened rows x = record { row = x.row + 1; used = x.used; end = x.end + 1; left = (row_at rows (row_numbers * x.row)).second }

abbrev pub closed : ℕ → Place → Place
closed left x = record { row = x.row; used = x.used; end = x.end + length (closing left); left = left }

-- where the writing stands: `whole` is the area, and `size` the number of characters, once all is written that is still to come
pub record Underway (rows store whole : List ℕ) (size : ℕ) (text outer : List ℕ) (x : Place) : Type 0 where
  pub area : whole ≡ sets text x.end (to_come rows store outer x)
  pub all : size ≡ x.end + length (to_come rows store outer x)
  pub fits : size ≤ length text
  pub inside : x.used + stored_from (rows_from rows x.row) ≤ length store

-- the writing goes on from another place
abbrev pub GoesOn : List ℕ → List ℕ → List ℕ → Place → List ℕ → Place → Type 0
GoesOn rows store text x text' y =
    (whole : List ℕ) (size : ℕ) (outer : List ℕ) → Underway rows store whole size text outer x → Underway rows store whole size text' outer y

-- an element of the innermost open list is next that is no list itself
unfoldable pub value_next : List ℕ → ℕ → ℕ → Bool
value_next rows at left = ltb 0 left && (ltb at (rows_in rows) && not (eqb (row_at rows (row_numbers * at)).code list_code))

-- y is not before x, and no such element is next there
pub record Stopped (rows : List ℕ) (x y : Place) : Type 0 where
  pub onward : x.row ≤ y.row
  pub no_value : value_next rows y.row y.left ≡ false

-- a row has a text form
unfoldable pub row_form : Row → Bool
row_form r =
    cond (eqb r.code (code_of Vocab)) (is_vocab r.second) (cond (eqb r.code (code_of Float)) (is_finite r.third) true)

-- all rows have one
unfoldable pub rows_form : List ℕ → Bool
rows_form [] = true
rows_form (a ∷ []) = true
rows_form (a ∷ b ∷ []) = true
rows_form (a ∷ b ∷ c ∷ rows) = row_form (row a b c) && rows_form rows
