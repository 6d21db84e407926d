-- A packet or a leave, and the rows of other sockets: in the table and in the published list they stay as they were.
use Prim.Native.Nat.{ℕ, ◌<◌}
use mathlib.Core.Path.{◌≡◌, refl, sym, ap, ◌∙◌}
use mathlib.Core.Bool.{true}
use mathlib.Core.List.{List}
use mathlib.Core.Logic.{⊎_elim, ◌≢◌}
use mathlib.Core.Option.{some}
use Rattle.std.specs.Prelude.{Option, Some, None}
use Rattle.wire.specs.Number.{Bytes}
use Rattle.list.specs.Tree.{Elements}
use Rattle.slot.specs.Rows.{slot_at}
use Rattle.slot.specs.declared.Slot.{Slot}
use Rattle.table.specs.Places.{slot_count, socket_count, holds, place_of, row_at, row_of}
use Rattle.table.proofs.Tests.{never}
use Rattle.table.proofs.Searches.{holds_parts, place_found}
use Rattle.table.proofs.Changes.{Changed, changed-either}
use Rattle.lawful.specs.Lawful.{lawful}
use Rattle.lawful.proofs.Meaning.{lawful-means}
use Rattle.attach.specs.Attach.{leaving, left}
use Rattle.attach.proofs.Facts.{has_row}
use Rattle.attach.proofs.Leaving.{leave_fits, leave-row}
use Rattle.publish.specs.Published.{device_row, published}
use Rattle.publish.proofs.Order.{Has, first_of, list_of, device-has-row, row-is-device, row-alone}
use Rattle.hub.specs.Receive.{received_of}
use Rattle.hub.specs.Calls.{detached}
use Rattle.hub.proofs.Keeps.{by_leave, others-kept, slot-either, received-lawful, detached-others, detached-lawful}
use Rattle.hub.proofs.ByRow.{own_row}

-- TABLES THAT AGREE IN THE ROWS OF OTHER SOCKETS
-- each device of t on another socket is in the same slot of u, with the same row
abbrev OthersIn : List ℕ → List ℕ → ℕ → Type 0
OthersIn t u socket = (j : ℕ) → (slot_at t j).taken ≡ true → (slot_at t j).socket ≢ socket → slot_at u j ≡ slot_at t j

-- a published row starts with its socket
first-socket : (c : List ℕ) (s : Slot) → first_of (device_row c s) ≡ s.socket
unfolding device_row
first-socket c s = refl

module _ (c t u : List ℕ) (socket : ℕ) (h : lawful slot_count socket_count c u ≡ true) (o : OthersIn t u socket) where
  -- the row of another socket is its row in the other table
  row_in : (q i : ℕ) → q ≢ socket → place_of slot_count t q ≡ Some i → row_of slot_count u q ≡ some (slot_at t i)
  row_in q i ne e =
      let f = place_found slot_count t q i e in
      let x = holds_parts (slot_at t i) q f.0 in
      own_row slot_count socket_count c u q i (slot_at t i) h f.1 (o i x.0 (λ y. ne (sym x.1 ∙ y))) x.0 x.1

  published-in :
      (row : Elements) → first_of row ≢ socket → Has (published slot_count socket_count c t) row → Has (published slot_count socket_count c u) row
  published-in row ne k =
      let x = row-is-device slot_count socket_count c t row k in
      let q : first_of row ≡ (slot_at t x.slot).socket = ap first_of x.is ∙ first-socket c (slot_at t x.slot) in
      let e : slot_at u x.slot ≡ slot_at t x.slot = o x.slot x.taken (λ y. ne (q ∙ y)) in
      let g =
      device-has-row slot_count socket_count c u x.slot (lawful-means slot_count socket_count c u h) x.within
      (ap (λ (s : Slot). s.taken) e ∙ x.taken) in
      let same : device_row c (slot_at u x.slot) ≡ row = ap (device_row c) e ∙ sym x.is in
      rw same at g

-- tables that agree so both ways give another socket the same row
row_same :
    (c t u : List ℕ) (socket q : ℕ) → lawful slot_count socket_count c t ≡ true → lawful slot_count socket_count c u ≡ true →
    OthersIn t u socket → OthersIn u t socket → q ≢ socket → row_of slot_count u q ≡ row_of slot_count t q
row_same c t u socket q ht hu o p ne = go (place_of slot_count t q) (place_of slot_count u q) refl refl
  where
    go : (x y : Option ℕ) → place_of slot_count t q ≡ x → place_of slot_count u q ≡ y → row_at u y ≡ row_at t x
    go (Some i) y e f = ap (row_at u) (sym f) ∙ row_in c t u socket hu o q i ne e
    go None (Some i) e f = never (sym (ap has_row (sym (ap (row_at t) e) ∙ row_in c u t socket ht p q i ne f)))
    go None None e f = refl

-- A PACKET
module _
    (c t : List ℕ) (socket : ℕ) (s : List ℕ) (b : Bytes t) (k : Bytes s) (h : lawful slot_count socket_count c t ≡ true)
  where
    abbrev after : List ℕ
    after = (received_of c t socket s).table

    after-lawful : lawful slot_count socket_count c after ≡ true
    after-lawful = received-lawful c t socket s b k h

    others-were : OthersIn after t socket
    others-were j u ne =
        ⊎_elim
        (λ (e : slot_at after j ≡ slot_at t j). sym e)
        (λ (w : holds (slot_at after j) socket ≡ true). absurd (ne (holds_parts (slot_at after j) socket w).1))
        (slot-either c t socket s b k j)

    -- LAW: another socket has the same row as before, or none as before
    pub other_row : (q : ℕ) → q ≢ socket → row_of slot_count (received_of c t socket s).table q ≡ row_of slot_count t q
    other_row q = row_same c t after socket q h after-lawful (others-kept c t socket s) others-were

    -- LAW: so its published row is the same
    pub other-posted :
        (q : ℕ) → q < socket_count → q ≢ socket →
        list_of (published slot_count socket_count c (received_of c t socket s).table) q ≡ list_of (published slot_count socket_count c t) q
    other-posted q l ne = row-alone slot_count socket_count c after t q l (other_row q ne)

    -- LAW: a row of another socket that was published is published again
    pub row_stays :
        (row : Elements) → first_of row ≢ socket → Has (published slot_count socket_count c t) row →
        Has (published slot_count socket_count c (received_of c t socket s).table) row
    row_stays = published-in c t after socket after-lawful (others-kept c t socket s)

    -- LAW: and no other row of another socket is
    pub row-was :
        (row : Elements) → first_of row ≢ socket → Has (published slot_count socket_count c (received_of c t socket s).table) row →
        Has (published slot_count socket_count c t) row
    row-was = published-in c after t socket h others-were

-- A LEAVE
module _ (c t : List ℕ) (socket : ℕ) (h : lawful slot_count socket_count c t ≡ true) where
  abbrev remaining : List ℕ
  remaining = (detached c t socket).table

  remaining-lawful : lawful slot_count socket_count c remaining ≡ true
  remaining-lawful = detached-lawful c t socket h

  others-remain : OthersIn t remaining socket
  others-remain j u ne = detached-others c t socket j ne

  left-were : OthersIn (left slot_count t socket).table t socket
  left-were j u ne =
      let own = row_of slot_count t socket in
      ⊎_elim
      (λ (e : slot_at (left slot_count t socket).table j ≡ slot_at t j). sym e)
      (λ (w : Changed t (place_of slot_count t socket) (leaving own) j).
      never (sym u ∙ ap (λ (x : Slot). x.taken) (w.result ∙ leave-row own w.row w.change)))
      (changed-either t (place_of slot_count t socket) (leaving own) (leave_fits own) j)

  remaining-were : OthersIn remaining t socket
  remaining-were = by_leave c t socket (λ e. OthersIn e.table t socket) (λ number j u ne. refl) left-were

  -- LAW: after a leave another socket has the same row as before, or none as before
  pub leave-other-row : (q : ℕ) → q ≢ socket → row_of slot_count (detached c t socket).table q ≡ row_of slot_count t q
  leave-other-row q = row_same c t remaining socket q h remaining-lawful others-remain remaining-were

  -- LAW: so its published row is the same
  pub leave-other-posted :
      (q : ℕ) → q < socket_count → q ≢ socket →
      list_of (published slot_count socket_count c (detached c t socket).table) q ≡ list_of (published slot_count socket_count c t) q
  leave-other-posted q l ne = row-alone slot_count socket_count c remaining t q l (leave-other-row q ne)

  -- LAW: a row of another socket that was published is published again
  pub leave-row-stays :
      (row : Elements) → first_of row ≢ socket → Has (published slot_count socket_count c t) row →
      Has (published slot_count socket_count c (detached c t socket).table) row
  leave-row-stays = published-in c t remaining socket remaining-lawful others-remain

  -- LAW: and no other row of another socket is
  pub leave-row-was :
      (row : Elements) → first_of row ≢ socket → Has (published slot_count socket_count c (detached c t socket).table) row →
      Has (published slot_count socket_count c t) row
  leave-row-was = published-in c remaining t socket h remaining-were
