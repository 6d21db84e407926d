-- Internal: rows and store bytes of a list, written token by token. While a list is open, its row counts the elements so far and holds in
-- its third number where the row of the list around it stands. Public contracts do not cite this file.
use Rattle.std.specs.Prelude.{ℕ, suc, ◌+◌, ◌*◌, List, [], ◌∷◌, ◌++◌, length}
use Rattle.list.specs.Kind.{list_code}
use Rattle.list.specs.Rows.{value_row, value_store}
use Rattle.text.specs.Tokens.{Token, opening, closing, item}

-- an open list: its elements so far, and the numbers of their rows
pub record Frame : Type 0 where
  pub count : ℕ
  pub rows : List ℕ

abbrev pub frame : ℕ → List ℕ → Frame
frame count rows = record { count = count; rows = rows }

-- the innermost open list, those around it from the inside, and the store bytes
pub record Filling : Type 0 where
  pub inner : Frame
  pub around : List Frame
  pub bytes : List ℕ

abbrev pub filling : Frame → List Frame → List ℕ → Filling
filling inner around bytes = record { inner = inner; around = around; bytes = bytes }

abbrev pub begun : Filling
begun = filling (frame 0 []) [] []

-- a closed list is an element of the list around it, which counted it when it was opened; the outermost list stays open
abbrev pub closed_in : Frame → List Frame → List ℕ → Filling
closed_in x [] bytes = filling x [] bytes
closed_in x (y ∷ around) bytes = filling (frame y.count (y.rows ++ (list_code ∷ x.count ∷ 0 ∷ x.rows))) around bytes

abbrev pub placed : Filling → Token → Filling
placed f opening = filling (frame 0 []) (frame (suc f.inner.count) f.inner.rows ∷ f.around) f.bytes
placed f closing = closed_in f.inner f.around f.bytes
placed f (item v) =
    filling (frame (suc f.inner.count) (f.inner.rows ++ value_row (length f.bytes) v)) f.around (f.bytes ++ value_store v)

unfoldable pub filled : Filling → List Token → Filling
filled f [] = f
filled f (t ∷ ts) = filled (placed f t) ts

-- how many numbers the rows of open lists have, and the index of the first number of the innermost one's row
abbrev pub size_of : List Frame → ℕ
size_of [] = 0
size_of (x ∷ around) = size_of around + (3 + length x.rows)

abbrev pub outer_of : List Frame → ℕ
outer_of [] = 0
outer_of (x ∷ around) = size_of around

-- these numbers
abbrev pub numbers_of : List Frame → List ℕ
numbers_of [] = []
numbers_of (x ∷ around) = numbers_of around ++ (list_code ∷ x.count ∷ 4 * outer_of around ∷ x.rows)

abbrev pub frames_of : Filling → List Frame
frames_of f = f.inner ∷ f.around
