-- Where the filling of a list stands, and that it ends with the list's rows and store bytes.
use Prim.Native.Nat.{ℕ, ◌+◌, ◌*◌, ◌/◌, ◌≤◌, ◌<◌}
use mathlib.Core.Path.{◌≡◌, ap, ◌∙◌}
use mathlib.Core.List.{List, [], ◌++◌, append-nil}
use native.Mathlib.Omega.{arith}
use lib.ListN.{length, get_or, drop_of_length-le}
use Rattle.wire.specs.Area.{over}
use Rattle.wire.proofs.ByteLists.{all-bytes}
use Rattle.list.specs.Limits.{list_limit, row_room, depth_limit}
use Rattle.list.specs.Kind.{list_code}
use Rattle.list.specs.Tree.{Elements, none, list}
use Rattle.list.specs.Bytes.{element_bytes, list_bytes}
use Rattle.list.specs.Rows.{element_store, element_rows, list_rows, list_store, row_count}
use Rattle.list.specs.RowBytes.{packed}
use Rattle.list.specs.Legal.{LegalElements}
use Rattle.list.specs.Parse.{good, parse}
use Rattle.list.proofs.Items.{Stands}
use Rattle.list.proofs.Sound.{sound}
use Rattle.list.proofs.RowBound.{rows_fit, row-numbers, store-bound}
use Rattle.list.proofs.RowBytes.{packed-length}
use Rattle.list_decode.specs.declared.put.Cursor.{Cursor}
use Rattle.list_decode.specs.Pieces.{cursor, Piece, piece, both, element_piece, tree, Room, Written, Ready, Judged, Filled}
use Rattle.wire.proofs.Buffers.{sets-front}
use Rattle.list_decode.proofs.Writing.{left-done, Rest, rest_all, rest-step, rest-room, room-first}
use Rattle.list_decode.proofs.Judged.{pieces, Next, next-element, nothing_left}

-- the list that was judged, and all that it gives
abbrev told : List ℕ → Elements
told s = tree (parse list_limit s)

abbrev whole : List ℕ → Piece
whole s = piece (list_rows (told s)) (list_store (told s)) (length s)

-- es are the elements to come
pub record Stage (s kept-rows Kept-store : List ℕ) (x : Cursor) (rows store : List ℕ) : Type 0 where
  pub es : Elements
  pub depth : ℕ
  pub legal : LegalElements depth es
  pub stands : Stands s x.pos (element_bytes list_code es)
  pub rest : Rest (cursor 0 0 0) (whole s) kept-rows Kept-store x (pieces x.used es (length s)) rows store
  pub room : Room (cursor 0 0 0) (whole s) kept-rows Kept-store
  pub short : length s ≤ list_limit
  pub few : length (packed (list_rows (told s))) ≤ 4 * row_room

row-bytes : (es : Elements) → length (packed (list_rows es)) ≡ 12 * row_count es
row-bytes es = omega (arith, packed-length (list_rows es), row-numbers es)

pub stage-start : (s rows store : List ℕ) → Judged s rows store → ((i : ℕ) → get_or s i 0 < 256) → Stage s rows store (cursor 0 0 0) rows store
unfolding list_bytes
stage-start s rows store j all =
    let t : Elements = told s in
    let g = sound list_limit s t (length s) (all-bytes s all) j.whole in
    let l : length s ≤ length s = omega arith in
    let e : s ≡ list_bytes t ++ [] = g.2 ∙ ap (λ (r : List ℕ). list_bytes t ++ r) (drop_of_length-le s l) in
    let p : pieces 0 (list t none) (length s) ≡ whole s = rw (append-nil (element_rows 0 t), append-nil (element_store t)) in
    let few : length (packed (list_rows t)) ≤ 4 * row_room = omega (arith, row-bytes t, rows_fit t g.0) in
    record {
      es = list t none;
      depth = depth_limit;
      legal = (g.0.0, tt);
      stands = record { inside = omega arith; reads = e };
      rest = rw p (rest_all (cursor 0 0 0) (whole s) rows store);
      room = record {
        row_room = omega (arith, few, j.row_room);
        store_room = omega (arith, store-bound list_limit t g.0, j.store_room);
        small = omega (arith, store-bound list_limit t g.0);
      };
      short = omega (arith, g.1, g.0.1);
      few = few;
    }

module _ {s kept-rows Kept-store : List ℕ} {x : Cursor} {rows store : List ℕ} (st : Stage s kept-rows Kept-store x rows store) where
  module _ (some : x.pos + 8 ≤ length s) where
    abbrev now : Piece
    now = element_piece s x.used x.pos

    next : Next s st.short x.used x.pos st.es now
    next = next-element s st.short st.depth x.used x.pos st.es st.legal st.stands some

    abbrev later : Piece
    later = pieces (x.used + length now.bytes) next.fs (length s)

    split : Rest (cursor 0 0 0) (whole s) kept-rows Kept-store x (both now later) rows store
    split = rw (next.same (length s)) at st.rest

    pub stage-ready : Ready s x rows store
    stage-ready =
        let f : Room x now rows store = room-first x now later (rest-room split st.room) in
        record { some = some; short = st.short; row = omega (arith, next.row, f.row_room); here = next.here; room = f }

    module _ {y : Cursor} {rows' store' : List ℕ} (w : Written x now rows store y rows' store') where
      pub stage-on : x.pos + 8 ≤ y.pos
      stage-on = omega (arith, w.pos, next.on)

      pub stage-turn : Stage s kept-rows Kept-store y rows' store'
      stage-turn =
          let e : pieces y.used next.fs (length s) ≡ later = rw w.used.behind in
          record {
            es = next.fs;
            depth = next.depth;
            legal = next.legal;
            stands = rw w.pos next.stands;
            rest = rw e (rest-step now later split w);
            room = st.room;
            short = st.short;
            few = st.few;
          }

  -- all rows are written
  pub stage-small : x.row ≤ 4 * row_room
  stage-small = omega (arith, st.rest.rows_left.ends, st.few)

  pub stage-done : parse list_limit s ≡ good (told s) (length s) → length s < x.pos + 8
      → Filled s kept-rows Kept-store (record { rows = x.row / 12; stored = x.used }) rows store
  stage-done is few =
      let t : Elements = told s in
      let n : st.es ≡ none = nothing_left s st.short x.pos st.es st.stands few in
      let r : Rest (cursor 0 0 0) (whole s) kept-rows Kept-store x (pieces x.used none (length s)) rows store = rw n at st.rest in
      let a = left-done r.rows_left in
      let b = left-done r.store-left in
      let c : x.row / 12 ≡ row_count t = omega (arith, a.behind, row-bytes t) in
      let d : rows ≡ over (packed (list_rows t)) kept-rows = a.holds ∙ sets-front kept-rows (packed (list_rows t)) (omega (arith, st.room.row_room)) in
      let e : store ≡ over (list_store t) Kept-store = b.holds ∙ sets-front Kept-store (list_store t) (omega (arith, st.room.store_room)) in
      let f : x.used ≡ length (list_store t) = omega (arith, b.behind) in
      rw (is, c, d, e, f)
