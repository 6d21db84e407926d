-- Laws of one element that follows its code.
use Rattle.std.specs.Prelude.{Option, Some, None}
use Prim.Native.Nat.{ℕ, ◌+◌, ◌-◌, ◌≤◌}
use mathlib.Core.Path.{◌≡◌, refl, sym, ◌∙◌}
use mathlib.Core.List.{List, []}
use native.Mathlib.Nat.{add-zero}
use Rattle.list.specs.declared.Kind.{Kind}
use Rattle.list.specs.declared.Kind.TheVariants.{Int, Float, Str, Blob, Vocab}
use Rattle.list.specs.Kind.{code_of, kind_of, list_code, typed_code}
use Rattle.list.specs.Parse.{word}
use Rattle.list.proofs.Codes.{kind-of-code, kind-of-list, kind-of-typed}
use Rattle.list_decode.specs.declared.put.Cursor.{Cursor}
use Rattle.list_decode.specs.Pieces.{cursor, Piece, both, plain, value_piece, found_run, list_piece, element_piece, RunHere, FoundHere, CodedHere, Room, Written}
use Rattle.list_decode.proofs.Writing.{room-second, written_both}

-- a row, and a run behind it
module _ (s : List ℕ) (found : Option Kind) (n : ℕ) (x : Cursor) (r : Piece) (bare : r.bytes ≡ []) {y : Cursor} {rows store rows' store' : List ℕ}
    (w : Written x r rows store y rows' store') where
  same-run : found_run s found n y.used y.pos ≡ found_run s found n x.used r.next
  same-run = rw (w.used.behind, bare, add-zero x.used, w.pos)

  pub behind-room : Room x (both r (found_run s found n x.used r.next)) rows store → Room y (found_run s found n y.used y.pos) rows' store'
  behind-room f = rw same-run (room-second x r (found_run s found n x.used r.next) f w)

  pub behind-written : {z : Cursor} {rows'' store'' : List ℕ} → Written y (found_run s found n y.used y.pos) rows' store' z rows'' store''
      → Written x (both r (found_run s found n x.used r.next)) rows store z rows'' store''
  behind-written v = written_both x r (found_run s found n x.used r.next) w (rw same-run at v)

-- what is read and written depends on where the rows and the store are filled to, not on the offset in the bytes
pub room_at : (x : Cursor) (pos : ℕ) {p : Piece} {rows store : List ℕ} → Room x p rows store → Room (cursor pos x.row x.used) p rows store
room_at x pos f = record { row_room = f.row_room; store_room = f.store_room; small = f.small }

pub written_at : (x : Cursor) (pos : ℕ) {p : Piece} {rows store : List ℕ} {y : Cursor} {rows' store' : List ℕ}
    → Written (cursor pos x.row x.used) p rows store y rows' store' → Written x p rows store y rows' store'
written_at x pos w = record { pos = w.pos; row = w.row; used = w.used }

-- an element by its code
pub list-no-kind : kind_of list_code ≡ None
unfolding kind_of
list-no-kind = refl

pub typed-no-kind : (k : Kind) → kind_of (typed_code k) ≡ None
unfolding kind_of
typed-no-kind Int = refl
typed-no-kind Vocab = refl
typed-no-kind Float = refl
typed-no-kind Str = refl
typed-no-kind Blob = refl

module _ (s : List ℕ) (used at : ℕ) where
  pub element-value : (k : Kind) → word s at ≡ code_of k → element_piece s used at ≡ value_piece s k used (at + 4)
  unfolding element_piece
  element-value k e = rw (e, kind-of-code k)

  pub element-mixed : word s at ≡ list_code → element_piece s used at ≡ plain list_code (word s (at + 4)) 0 (at + 8)
  unfolding element_piece
  element-mixed e = rw (e, list-no-kind, e, kind-of-list)

  pub element-list : kind_of (word s at) ≡ None → element_piece s used at ≡ list_piece s (kind_of (word s at - list_code)) (word s (at + 4)) used at
  unfolding element_piece
  element-list e = rw e

  pub element-typed : (k : Kind) → word s at ≡ typed_code k → element_piece s used at ≡ list_piece s (Some k) (word s (at + 4)) used at
  element-typed k e = element-list (rw e (typed-no-kind k)) ∙ rw (e, kind-of-typed k)

-- the same where the code was read
module _ (s : List ℕ) (x : Cursor) (code : ℕ) (is : code ≡ word s x.pos) where
  pub value-is : (k : Kind) → code ≡ code_of k → element_piece s x.used x.pos ≡ value_piece s k x.used (x.pos + 4)
  value-is k e = element-value s x.used x.pos k (sym is ∙ e)

  pub value-here : (k : Kind) → code ≡ code_of k → CodedHere s (kind_of (word s x.pos)) x.pos → RunHere s k 1 (x.pos + 4)
  value-here k e h = rw (← is, e, kind-of-code k) at h

  pub mixed-is : code ≡ list_code → element_piece s x.used x.pos ≡ plain list_code (word s (x.pos + 4)) 0 (x.pos + 8)
  mixed-is e = element-mixed s x.used x.pos (sym is ∙ e)

  module _ (second : ℕ) (next : second ≡ word s (x.pos + 4)) (no_kind : kind_of code ≡ None) where
    pub typed-is : element_piece s x.used x.pos ≡ list_piece s (kind_of (code - list_code)) second x.used x.pos
    typed-is = element-list s x.used x.pos (rw (← is) no_kind) ∙ rw (← is, ← next)

    pub typed-here : CodedHere s (kind_of (word s x.pos)) x.pos → (list_code ≤ code) × ((code ≡ list_code → ⊥) → FoundHere s (kind_of (code - list_code)) second (x.pos + 8))
    typed-here h = rw (← is, no_kind, ← is, ← next) at h
