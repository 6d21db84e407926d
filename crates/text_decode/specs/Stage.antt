-- Internal: where the filling of a text that was judged stands, token by token. Public contracts do not cite this file.
use Rattle.std.specs.Prelude.{ℕ, ◌+◌, ◌*◌, ◌≤◌, ◌<◌, ◌≡◌, Bool, List, [], ◌∷◌, length, get_or, drop}
use Rattle.std.proofs.Math.Option.{some}
use Rattle.std.proofs.lemmas.List.Edits.{sets}
use Rattle.list.specs.Limits.{row_room, store_room, list_limit}
use Rattle.list.specs.Tree.{Elements, count}
use Rattle.list.specs.Rows.{element_rows, list_store}
use Rattle.list.specs.RowBytes.{packed}
use Rattle.text.specs.Tokens.{Token, tokens_at}
use Rattle.text_decode.specs.declared.fill.Place.{Place}
use Rattle.text_decode.specs.Fill.{frame, Frame, Filling, filling, filled, frames_of, size_of, numbers_of}

abbrev pub place : ℕ → ℕ → ℕ → ℕ → Place
place pos row used outer = record { pos = pos; row = row; used = used; outer = outer }

-- all that a list gives
abbrev pub whole_of : Elements → Filling
whole_of es = filling (frame (count es) (element_rows 0 es)) [] (list_store es)

-- there is room for it
pub record Room (es : Elements) (rows store : List ℕ) : Type 0 where
  pub few : size_of (frames_of (whole_of es)) ≤ row_room
  pub small : length (list_store es) ≤ list_limit
  pub row_room : 4 * row_room ≤ length rows
  pub store_room : store_room ≤ length store

-- how many elements the open lists counted
abbrev pub counts : List Frame → ℕ
counts [] = 0
counts (x ∷ around) = x.count + counts around

-- tokens ts are left, and the rows and the store hold what the others gave
pub record Stage (es : Elements) (text kept-rows kept_store : List ℕ) (x : Place) (rows store : List ℕ) : Type 0 where
  pub filling : Filling
  pub first : Bool
  pub ts : List Token
  pub room : Room es kept-rows kept_store
  pub inside : x.pos ≤ length text
  pub left : tokens_at first 0 (drop x.pos text) ≡ some ts
  pub ends : filled filling ts ≡ whole_of es
  pub rows_are : rows ≡ sets kept-rows 0 (packed (numbers_of (frames_of filling)))
  pub store_is : store ≡ sets kept_store 0 filling.bytes
  pub row_at : x.row ≡ 4 * size_of (frames_of filling)
  pub used-at : x.used ≡ length filling.bytes
  pub outer-at : x.outer ≡ 4 * size_of filling.around
  pub few : counts (frames_of filling) ≤ size_of (frames_of filling)

-- a token more can be read
pub record Ready (text : List ℕ) (x : Place) (rows store : List ℕ) : Type 0 where
  pub es : Elements
  pub kept-rows : List ℕ
  pub kept_store : List ℕ
  pub stage : Stage es text kept-rows kept_store x rows store
  pub some_left : x.pos < length text

-- it is no closing bracket
pub record ReadyElement (text : List ℕ) (x : Place) (rows store : List ℕ) : Type 0 where
  pub ready : Ready text x rows store
  pub other : get_or text x.pos 0 ≡ 41 → ⊥

-- one token was read
pub record Goes (text : List ℕ) (x : Place) (rows store : List ℕ) (y : Place) (rows' store' : List ℕ) : Type 0 where
  pub on : x.pos < y.pos
  pub stage : (es : Elements) (kept-rows kept_store : List ℕ) → Stage es text kept-rows kept_store x rows store
      → Stage es text kept-rows kept_store y rows' store'
