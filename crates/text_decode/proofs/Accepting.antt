-- A text that was judged to be a list's: the list, its tokens, and the filling from its start to its end.
use Prim.Native.Nat.{ℕ, ◌+◌, ◌-◌, ◌/◌, ◌≤◌}
use mathlib.Core.Path.{◌≡◌, refl, sym, ap, ◌∙◌}
use mathlib.Core.Bool.{Bool, true, false, cond}
use mathlib.Core.List.{List, [], ◌∷◌, ◌++◌}
use mathlib.Core.Option.{Option, some}
use mathlib.Core.Option as option
use native.Mathlib.Omega.{arith}
use lib.Dec.{ltb}
use lib.ListN.{length, drop, drop_of_length-le}
use lib.Seq.{sets, length-sets, drop-append-add, drop-drop}
use borrow.Author.Tests.{ltb-false}
use Rattle.wire.specs.Area.{over}
use Rattle.wire.proofs.Buffers.{sets-front}
use Rattle.list.specs.Limits.{list_limit, depth_limit}
use Rattle.list.specs.Kind.{list_code}
use Rattle.list.specs.Tree.{Elements, none}
use Rattle.list.specs.Bytes.{list_bytes}
use Rattle.list.specs.Rows.{list_rows, list_store, row_count}
use Rattle.list.specs.RowBytes.{packed}
use Rattle.list.proofs.RowBound.{list-size, row-numbers}
use Rattle.list.proofs.RowBytes.{packed-length}
use Rattle.list_rows.specs.Judge.{Verdict, accepted, refused, depth, fitting}
use Rattle.text.specs.Tokens.{Token, tokens_at, tokens_of}
use Rattle.text.specs.Reading.{tree_of, reading}
use Rattle.text.proofs.Matching.{tree-forests}
use Rattle.text.proofs.Characters.{tokens_none}
use Rattle.text_check.specs.Check.{judged, to_read, error_of}
use Rattle.text_decode.specs.declared.fill.Place.{Place}
use Rattle.text_decode.specs.Fill.{Filling, begun, filled, frames_of, size_of, numbers_of}
use Rattle.text_decode.specs.Pieces.{Judged, Filled}
use Rattle.text_decode.specs.Stage.{place, whole_of, Stage}
use Rattle.text_decode.proofs.Fillings.{filled-tree}

-- a list that is neither too deep nor too long
pub fits_both : (limit : ℕ) (es fs : Elements) → fitting limit es ≡ accepted fs → (fs ≡ es) × (depth es ≤ depth_limit) × (length (list_bytes es) ≤ limit)
unfolding fitting
fits_both limit es fs = go (ltb depth_limit (depth es)) (ltb limit (length (list_bytes es))) refl refl
  where
    go : (b d : Bool) → ltb depth_limit (depth es) ≡ b → ltb limit (length (list_bytes es)) ≡ d
        → cond b (refused 27) (cond d (refused 28) (accepted es)) ≡ accepted fs → (fs ≡ es) × (depth es ≤ depth_limit) × (length (list_bytes es) ≤ limit)
    go true d p q h = absurd (let z : ◌≡◌ {A = ℕ} 0 1 = cc in omega arith)
    go false true p q h = absurd (let z : ◌≡◌ {A = ℕ} 0 1 = cc in omega arith)
    go false false p q h = (cc, ltb-false depth_limit (depth es) p, ltb-false limit (length (list_bytes es)) q)

fits-no-error : (limit : ℕ) (es : Elements) → error_of (fitting limit es) ≡ 0 → fitting limit es ≡ accepted es
unfolding fitting
fits-no-error limit es = go (ltb depth_limit (depth es)) (ltb limit (length (list_bytes es)))
  where
    go : (b d : Bool) → error_of (cond b (refused 27) (cond d (refused 28) (accepted es))) ≡ 0
        → cond b (refused 27) (cond d (refused 28) (accepted es)) ≡ accepted es
    go true d h = absurd (omega arith)
    go false true h = absurd (omega arith)
    go false false h = refl

-- the list whose text was accepted
abbrev pub list_of : Verdict Elements → Elements
list_of (accepted es) = es
list_of (refused number) = none

abbrev pub told : List ℕ → Elements
told text = list_of (to_read text)

pub record Accepted (text : List ℕ) (es : Elements) : Type 0 where
  pub is : to_read text ≡ accepted es
  pub read : reading text ≡ some es
  pub short : length (list_bytes es) ≤ list_limit

pub accepted-text : (text : List ℕ) → error_of (to_read text) ≡ 0 → Accepted text (told text)
accepted-text text = go (reading text) refl
  where
    go : (o : Option Elements) → reading text ≡ o → error_of (judged o) ≡ 0 → Accepted text (told text)
    go option.none e h = absurd (omega arith)
    go (some es) e h =
        let f = fits-no-error list_limit es h in
        let w = fits_both list_limit es es f in
        let is : to_read text ≡ accepted es = ap judged e ∙ f in
        let t : told text ≡ es = ap list_of is in
        rw t (record { is = is; read = e; short = w.2 })

-- its tokens are those of the text
read-tokens : (text : List ℕ) (es : Elements) → reading text ≡ some es → tokens_at true 0 text ≡ some (tokens_of es)
unfolding reading
read-tokens text es = go (tokens_at true 0 text)
  where
    go : (o : Option (List Token)) → tree_of o ≡ some es → o ≡ some (tokens_of es)
    go option.none h = absurd (let z : ◌≡◌ {A = ℕ} 0 1 = cc in omega arith)
    go (some ts) h = ap some (tree-forests ts es h)

-- a piece at the front that another covers
pub sets_over : (area xs ys : List ℕ) → length xs ≤ length ys → length ys ≤ length area → sets (sets area 0 xs) 0 ys ≡ sets area 0 ys
sets_over area xs ys h k =
    let n : ℕ = length ys - length xs in
    let e : length ys ≡ length xs + n = omega arith in
    let d : drop (length ys) (sets area 0 xs) ≡ drop (length ys) area =
    rw (sets-front area xs (omega arith), e) (drop-append-add xs (drop (length xs) area) n ∙ drop-drop n (length xs) area) in
    sets-front (sets area 0 xs) ys (rw (length-sets area 0 xs) k) ∙ ap (λ (l : List ℕ). ys ++ l) d ∙ sym (sets-front area ys k)

-- the outermost list's row
abbrev pub first_row : List ℕ
first_row = packed (list_code ∷ 0 ∷ 0 ∷ [])

-- FROM THE START TO THE END
module _ (text rows store rows₀ : List ℕ) (j : Judged text rows store) (r : rows₀ ≡ sets rows 0 first_row) where
  abbrev es : Elements
  es = told text

  a : Accepted text (told text)
  a = accepted-text text j.good

  pub stage-start : Stage (told text) text rows₀ store (place 0 12 0 0) rows₀ store
  stage-start =
      let n = list-size es in
      let len : length rows₀ ≡ length rows = ap length r ∙ length-sets rows 0 first_row in
      record {
        filling = begun;
        first = true;
        ts = tokens_of es;
        room = record {
          few = omega (arith, n, a.short, row-numbers es);
          small = omega (arith, n, a.short);
          row_room = omega (arith, len, j.row_room);
          store_room = j.store_room;
        };
        inside = omega arith;
        left = read-tokens text es a.read;
        ends = filled-tree es;
        rows_are = r ∙ sym (ap (λ (l : List ℕ). sets l 0 first_row) r ∙ sets_over rows first_row first_row (omega arith) (omega (arith, j.row_room)));
        store_is = refl;
        row_at = refl;
        used-at = refl;
        outer-at = refl;
        few = omega arith;
      }

  module _ (x : Place) (rows' store' : List ℕ) (st : Stage (told text) text rows₀ store x rows' store') (end : length text ≤ x.pos) where
    none_left : st.ts ≡ []
    none_left =
        let e : some [] ≡ some st.ts = sym (tokens_none st.first) ∙ ap (tokens_at st.first 0) (sym (drop_of_length-le text end)) ∙ st.left in
        cc

    all-filled : st.filling ≡ whole_of es
    unfolding filled
    all-filled = ap (filled st.filling) (sym none_left) ∙ st.ends

    pub stage-done : Filled text rows store (record { rows = x.row / 12; stored = x.used }) rows' store'
    stage-done =
        let n = list-size es in
        let k = row-numbers es in
        let l = packed-length (list_rows es) in
        let c : x.row / 12 ≡ row_count es = omega (arith, st.row_at, ap (λ (g : Filling). size_of (frames_of g)) all-filled) in
        let u : x.used ≡ length (list_store es) = st.used-at ∙ ap (λ (g : Filling). length g.bytes) all-filled in
        let d : rows' ≡ over (packed (list_rows es)) rows =
        st.rows_are
        ∙ ap (λ (g : Filling). sets rows₀ 0 (packed (numbers_of (frames_of g)))) all-filled
        ∙ ap (λ (q : List ℕ). sets q 0 (packed (list_rows es))) r
        ∙ sets_over rows first_row (packed (list_rows es)) (omega arith) (omega (arith, a.short, j.row_room))
        ∙ sets-front rows (packed (list_rows es)) (omega (arith, a.short, j.row_room)) in
        let e : store' ≡ over (list_store es) store =
        st.store_is
        ∙ ap (λ (g : Filling). sets store 0 g.bytes) all-filled
        ∙ sets-front store (list_store es) (omega (arith, a.short, j.store_room)) in
        rw (a.is, c, d, e, u)
