-- Laws of buffers that are written piece by piece.
use Prim.Native.Nat.{ℕ, ◌+◌, ◌-◌, ◌≤◌}
use mathlib.Core.Path.{◌≡◌, refl, sym, ap, ◌∙◌}
use mathlib.Core.List.{List, [], ◌++◌, append-nil}
use native.Mathlib.Omega.{arith}
use lib.ListN.{length, take, drop, length-append, drop_of_length-le, length-drop}
use lib.Seq.{sets, length-sets, length-take-le}
use borrow.Rule.Slice.PartMut.{mid_of, put_mid, mid_len}
use Rattle.wire.specs.Area.{block_size, put_at, replaced}
use Rattle.wire.specs.Number.{number_at}
use Rattle.wire.proofs.Numbers.{part-number}
use Rattle.wire.proofs.Buffers.{put-fits, put_is, put-part, joined, replaced-all, sets_more, sets-front}
use Rattle.list.specs.Parse.{word}
use Rattle.list.specs.RowBytes.{packed}
use Rattle.list.proofs.RowBytes.{packed-append}
use Rattle.list_decode.specs.declared.put.Cursor.{Cursor}
use Rattle.list_decode.specs.Pieces.{Piece, piece, both, Here, Fits, Added, Room, Written}

-- a number read from a part of its size
pub length-read : (s : List ℕ) (at n : ℕ) → n ≡ number_at 4 (take (at + 4 - at) (drop at s)) 0 → n ≡ word s at
length-read s at n e = e ∙ part-number 4 (at + 4 - at) s at (omega arith)

-- a part of a buffer, from `at` to `e`, that xs took the place of
pub part-sets : (area : List ℕ) (at e : ℕ) (xs : List ℕ) → e ≡ at + length xs → e ≤ length area → put_mid at (e - at) area xs ≡ sets area at xs
part-sets area at e xs h f = rw h (put-part area at xs (omega arith) ∙ put-fits area at xs (omega arith))

-- such a part after a call that puts xs into it
pub part-put : (area : List ℕ) (at e : ℕ) (xs part : List ℕ) → e ≡ at + length xs → e ≤ length area → part ≡ put_at (mid_of at (e - at) area) 0 xs
    → put_mid at (e - at) area part ≡ sets area at xs
part-put area at e xs part h f p =
    let m : List ℕ = mid_of at (e - at) area in
    let n : length m ≡ length xs = mid_len at e area f ∙ (omega arith) in
    let k : length m ≤ length xs = omega arith in
    let d : drop (length xs) m ≡ [] = drop_of_length-le m k in
    let w : part ≡ xs = p ∙ put-fits m 0 xs (omega arith) ∙ sets-front m xs (omega arith) ∙ ap (λ (l : List ℕ). xs ++ l) d ∙ append-nil xs in
    rw w (part-sets area at e xs h f)

-- and after two calls, of which the second puts ys behind xs
pub part-puts : (area : List ℕ) (at e n : ℕ) (xs ys part part' : List ℕ) → n ≡ length xs → e ≡ at + length (xs ++ ys) → e ≤ length area
    → part ≡ put_at (mid_of at (e - at) area) 0 xs → part' ≡ put_at part n ys → put_mid at (e - at) area part' ≡ sets area at (xs ++ ys)
part-puts area at e n xs ys part part' k h f p q =
    let m : List ℕ = mid_of at (e - at) area in
    let l : length m ≡ length xs + length ys = mid_len at e area f ∙ omega (arith, length-append xs ys) in
    let w : part ≡ sets m 0 xs = put_is m 0 xs p (omega arith) in
    let r : n + length ys ≤ length part = omega (arith, ap length w ∙ length-sets m 0 xs) in
    part-put area at e (xs ++ ys) part' h f
    (joined m 0 n xs ys (omega arith) w (put_is part n ys q r) ∙ sym (put-fits m 0 (xs ++ ys) (omega (arith, length-append xs ys))))

pub part-run : (area : List ℕ) (at e : ℕ) (xs part : List ℕ) → e ≡ at + length xs → e ≤ length area → length xs ≤ block_size
    → part ≡ replaced (mid_of at (e - at) area) xs → put_mid at (e - at) area part ≡ sets area at xs
part-run area at e xs part h f b p =
    let n : length (mid_of at (e - at) area) ≡ length xs = mid_len at e area f ∙ (omega arith) in
    rw (p ∙ replaced-all (mid_of at (e - at) area) xs n b) (part-sets area at e xs h f)

-- WHAT IS LEFT TO WRITE: `rest` at `at` gives what `all` at `start` was to give
pub record Left (whole : List ℕ) (start : ℕ) (all area : List ℕ) (at : ℕ) (rest : List ℕ) : Type 0 where
  pub same : sets whole start all ≡ sets area at rest
  pub ends : start + length all ≡ at + length rest
  pub size : length area ≡ length whole

pub left-all : (area : List ℕ) (at : ℕ) (xs : List ℕ) → Left area at xs area at xs
left-all area at xs = record { same = refl; ends = refl; size = refl }

pub left_step : {whole : List ℕ} {start : ℕ} {all area : List ℕ} {at : ℕ} (xs ys : List ℕ) {area' : List ℕ} {at' : ℕ}
    → Left whole start all area at (xs ++ ys) → Added area at xs area' at' → Left whole start all area' at' ys
left_step {whole} {start} {all} {area} {at} xs ys l a = record {
  same = l.same ∙ sym (sets_more area xs ys at _ refl) ∙ rw (a.holds, a.behind);
  ends = omega (arith, l.ends, a.behind, length-append xs ys);
  size = ap length a.holds ∙ length-sets area at xs ∙ l.size;
}

pub left-done : {whole : List ℕ} {start : ℕ} {all area : List ℕ} {at : ℕ} → Left whole start all area at [] → Added whole start all area at
left-done l = record { holds = sym l.same; behind = omega (arith, l.ends) }

pub left-fits : {whole : List ℕ} {start : ℕ} {all area : List ℕ} {at : ℕ} {rest : List ℕ} → Left whole start all area at rest → Fits whole start all → Fits area at rest
left-fits l f = omega (arith, l.ends, l.size)

-- the same of pieces, for the rows and the store
pub record Rest (x : Cursor) (p : Piece) (whole kept : List ℕ) (y : Cursor) (q : Piece) (rows store : List ℕ) : Type 0 where
  pub rows_left : Left whole x.row (packed p.numbers) rows y.row (packed q.numbers)
  pub store-left : Left kept x.used p.bytes store y.used q.bytes
  pub ends : p.next ≡ q.next

pub rest_all : (x : Cursor) (p : Piece) (rows store : List ℕ) → Rest x p rows store x p rows store
rest_all x p rows store = record { rows_left = left-all _ _ _; store-left = left-all _ _ _; ends = refl }

module _ {x : Cursor} {p : Piece} {whole kept : List ℕ} {y : Cursor} {rows store : List ℕ} where
  -- the piece r is written, and q is left
  pub rest-step : (r q : Piece) {z : Cursor} {rows' store' : List ℕ} → Rest x p whole kept y (both r q) rows store → Written y r rows store z rows' store'
      → Rest x p whole kept z q rows' store'
  rest-step r q l w = record {
    rows_left = left_step (packed r.numbers) (packed q.numbers) (rw (packed-append r.numbers q.numbers) at l.rows_left) w.row;
    store-left = left_step r.bytes q.bytes l.store-left w.used;
    ends = l.ends;
  }

  -- nothing is left
  pub rest-done : Rest x p whole kept y (piece [] [] y.pos) rows store → Written x p whole kept y rows store
  rest-done l = record { pos = sym l.ends; row = left-done l.rows_left; used = left-done l.store-left }

  pub rest-room : {q : Piece} → Rest x p whole kept y q rows store → Room x p whole kept → Room y q rows store
  rest-room l f = record {
    row_room = left-fits l.rows_left f.row_room;
    store_room = left-fits l.store-left f.store_room;
    small = omega (arith, l.store-left.ends, f.small);
  }

-- room for two pieces is room for the first, and behind it for the second
pub room-first : (x : Cursor) (r q : Piece) {rows store : List ℕ} → Room x (both r q) rows store → Room x r rows store
room-first x r q f =
    let a = ap length (packed-append r.numbers q.numbers) ∙ length-append (packed r.numbers) (packed q.numbers) in
    let b = length-append r.bytes q.bytes in
    record { row_room = omega (arith, f.row_room, a); store_room = omega (arith, f.store_room, b); small = omega (arith, f.small, b) }

pub room-second : (x : Cursor) (r q : Piece) {y : Cursor} {rows store rows' store' : List ℕ} → Room x (both r q) rows store → Written x r rows store y rows' store'
    → Room y q rows' store'
room-second x r q f w = rest-room (rest-step r q (rest_all x (both r q) _ _) w) f

-- one piece, then another
added-both : (area : List ℕ) (at : ℕ) (xs ys : List ℕ) {area' area'' : List ℕ} {at' at'' : ℕ} → Added area at xs area' at' → Added area' at' ys area'' at''
    → Added area at (xs ++ ys) area'' at''
added-both area at xs ys v w = record {
  holds = w.holds ∙ rw (v.holds, v.behind) (sets_more area xs ys at _ refl);
  behind = omega (arith, v.behind, w.behind, length-append xs ys);
}

pub written_both : (x : Cursor) (r q : Piece) {y z : Cursor} {rows store rows' store' rows'' store'' : List ℕ}
    → Written x r rows store y rows' store' → Written y q rows' store' z rows'' store'' → Written x (both r q) rows store z rows'' store''
written_both x r q v w = record {
  pos = w.pos;
  row = rw (packed-append r.numbers q.numbers) (added-both _ x.row (packed r.numbers) (packed q.numbers) v.row w.row);
  used = added-both _ x.used r.bytes q.bytes v.used w.used;
}

-- a piece with nothing in the store, whatever the store
pub no_bytes : {x : Cursor} (p : Piece) → p.bytes ≡ [] → {rows : List ℕ} {y : Cursor} {rows' : List ℕ} (store : List ℕ)
    → Written x p rows [] y rows' [] → Written x p rows store y rows' store
no_bytes p e store w = record { pos = w.pos; row = w.row; used = record { holds = rw e; behind = w.used.behind } }

-- how many bytes of a string or a blob are stored
pub stored-length : (s : List ℕ) (tail at : ℕ) → Here s tail at → length (take (word s at - tail) (drop (at + 4) s)) ≡ word s at - tail
stored-length s tail at h = length-take-le (word s at - tail) (drop (at + 4) s) (simp length-drop (omega (arith, h.there)))
