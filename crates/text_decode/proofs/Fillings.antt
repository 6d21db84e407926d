-- Filling by tokens ends with the list's rows and store bytes, and rows and store bytes only grow on the way.
use Prim.Native.Nat.{ℕ, suc, ◌+◌, ◌≤◌}
use mathlib.Core.Path.{◌≡◌, refl, sym, ap, ◌∙◌}
use mathlib.Core.List.{List, [], ◌∷◌, ◌++◌, append_assoc, append-nil}
use native.Mathlib.Omega.{arith}
use native.Mathlib.Nat.{add-zero, zero-add}
use lib.ListN.{length, length-append}
use Rattle.list.specs.Tree.{Elements, none, value, list, count}
use Rattle.list.specs.Rows.{value_row, value_store, element_rows, element_store, list_row, list_store}
use Rattle.list.proofs.RowBound.{value_row_lem}
use Rattle.text.specs.Tokens.{Token, opening, closing, item, tokens_of}
use Rattle.text_decode.specs.Stage.{counts}
use Rattle.text_decode.specs.Fill.{Frame, frame, Filling, filling, begun, closed_in, placed, filled, size_of, numbers_of, frames_of}

-- the innermost open list with further elements
abbrev grown : Filling → Elements → Filling
grown f es =
    filling (frame (f.inner.count + count es) (f.inner.rows ++ element_rows (length f.bytes) es)) f.around (f.bytes ++ element_store es)

-- elements of `more` behind an element whose rows and store bytes are these
grown-behind : (c : ℕ) (rs : List ℕ) (around : List Frame) (bs row store : List ℕ) (es : Elements)
    → grown (filling (frame (suc c) (rs ++ row)) around (bs ++ store)) es
    ≡ filling (frame (c + suc (count es)) (rs ++ (row ++ element_rows (length bs + length store) es))) around (bs ++ (store ++ element_store es))
grown-behind c rs around bs row store es =
    let n : suc c + count es ≡ c + suc (count es) = omega arith in
    rw (n, length-append bs store, append_assoc rs row (element_rows (length bs + length store) es), append_assoc bs store (element_store es))

filled-before : (f : Filling) (es : Elements) (ts : List Token) → filled f (tokens_of es ++ ts) ≡ filled (grown f es) ts
unfolding filled
filled-before f none ts = rw (add-zero f.inner.count, append-nil f.inner.rows, append-nil f.bytes)
filled-before f (value v es) ts =
    filled-before (placed f (item v)) es ts
    ∙ ap (λ (g : Filling). filled g ts) (grown-behind f.inner.count f.inner.rows f.around f.bytes (value_row (length f.bytes) v) (value_store v) es)
filled-before f (list inner es) ts =
    let row : List ℕ = list_row inner ++ element_rows (length f.bytes) inner in
    let g : Filling = filling (frame (suc f.inner.count) (f.inner.rows ++ row)) f.around (f.bytes ++ element_store inner) in
    let c : placed (grown (placed f opening) inner) closing ≡ g = rw (zero-add (count inner)) in
    let e : filled (placed f opening) (tokens_of inner ++ (closing ∷ (tokens_of es ++ ts))) ≡ filled g (tokens_of es ++ ts) =
    filled-before (placed f opening) inner (closing ∷ (tokens_of es ++ ts)) ∙ ap (λ (h : Filling). filled h (tokens_of es ++ ts)) c in
    let b = grown-behind f.inner.count f.inner.rows f.around f.bytes row (element_store inner) es in
    rw (append_assoc (tokens_of inner) (closing ∷ tokens_of es) ts) (e ∙ filled-before g es ts ∙ ap (λ (h : Filling). filled h ts) b)

-- a whole list: its numbers and its store bytes
pub filled-tree : (es : Elements) → filled begun (tokens_of es) ≡ filling (frame (count es) (element_rows 0 es)) [] (list_store es)
unfolding filled
filled-tree es = ap (filled begun) (sym (append-nil (tokens_of es))) ∙ filled-before begun es [] ∙ rw (zero-add (count es))

-- how many numbers there are
pub numbers-size : (around : List Frame) → length (numbers_of around) ≡ size_of around
numbers-size [] = refl
numbers-size (x ∷ around) = simp length-append (omega (arith, numbers-size around))

-- numbers and store bytes only grow
abbrev Grows : Filling → Filling → Type 0
Grows f g = (size_of (frames_of f) ≤ size_of (frames_of g)) × (length f.bytes ≤ length g.bytes)

placed-grows : (f : Filling) (t : Token) → Grows f (placed f t)
placed-grows f opening = (omega arith, omega arith)
placed-grows f (item v) = (simp length-append (omega arith), simp length-append (omega arith))
placed-grows f closing = go f.inner f.around f.bytes
  where
    go : (x : Frame) (around : List Frame) (bs : List ℕ) → Grows (filling x around bs) (closed_in x around bs)
    go x [] bs = (omega arith, omega arith)
    go x (y ∷ around) bs = (simp length-append (omega arith), omega arith)

pub filled-grows : (f : Filling) (ts : List Token) → Grows f (filled f ts)
unfolding filled
filled-grows f [] = (omega arith, omega arith)
filled-grows f (t ∷ ts) =
    let a = placed-grows f t in
    let b = filled-grows (placed f t) ts in
    (omega (arith, a.0, b.0), omega (arith, a.1, b.1))

-- each element counted has its row, or is an open list
pub placed-few : (f : Filling) (t : Token) → counts (frames_of f) ≤ size_of (frames_of f) → counts (frames_of (placed f t)) ≤ size_of (frames_of (placed f t))
placed-few f opening h = omega arith
placed-few f (item v) h = simp length-append (omega (arith, value_row_lem (length f.bytes) v))
placed-few f closing h = go f.inner f.around f.bytes h
  where
    go : (x : Frame) (around : List Frame) (bs : List ℕ) → counts (x ∷ around) ≤ size_of (x ∷ around)
        → counts (frames_of (closed_in x around bs)) ≤ size_of (frames_of (closed_in x around bs))
    go x [] bs h = omega arith
    go x (y ∷ around) bs h = simp length-append (omega arith)
