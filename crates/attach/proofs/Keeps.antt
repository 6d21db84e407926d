-- In a lawful table: ACK and leaving keep it lawful, and a second ACK with the device's own UID is accepted.
use Prim.Native.Nat.{ℕ, ◌≤◌, ◌<◌}
use mathlib.Core.Path.{◌≡◌, refl, sym, ap, ◌∙◌}
use mathlib.Core.Bool.{Bool, true, false}
use mathlib.Core.List.{List}
use mathlib.Core.Logic.{◌≢◌}
use mathlib.Core.Option.{none}
use native.Mathlib.Omega.{arith}
use lib.Dec.{eqb}
use borrow.Author.Tests.{eqb-true, eqb-false}
use Rattle.std.specs.Prelude.{Option, Some, None}
use Rattle.std.specs.Option.{is_some}
use Rattle.wire.specs.Number.{Bytes}
use Rattle.catalogue.specs.Lookup.{device_of}
use Rattle.slot.specs.Slot.{empty_slot}
use Rattle.slot.specs.Rows.{slot_at, with_slot}
use Rattle.table.specs.Places.{holds, place_of, free_of, is_slot, row_of}
use Rattle.table.specs.Change.{acceptance, becomes}
use Rattle.table.proofs.Tests.{never}
use Rattle.table.proofs.Searches.{holds_parts, holds_not, place_found, place_none}
use Rattle.lawful.specs.Lawful.{lawful}
use Rattle.lawful.proofs.Meaning.{lawful-means}
use Rattle.lawful.proofs.Keeps.{Apart, changed-lawful, fresh-lawful, empty-slot-lawful}
use Rattle.attach.specs.Attach.{device_in, year_in, uid_in, ack_row, uid_free, or_free, place_for, ack_change, assigned, leaving, left}
use Rattle.attach.proofs.Facts.{free-means, uid-free, no_row}
use Rattle.attach.proofs.Acks.{ack-fits, ack-leaves, ack-row, other-uid-ack}
use Rattle.attach.proofs.Leaving.{leave_fits, leave-row, left-empties, left-others}

empty_holds : (socket : ℕ) → holds empty_slot socket ≡ false
unfolding holds
empty_holds socket = refl

module _ (slots sockets : ℕ) (c t : List ℕ) (socket : ℕ) where
  -- the socket's own slot holds its device, and no other slot does
  alone :
      lawful slots sockets c t ≡ true → (i j : ℕ) → i < slots → j < slots → j ≢ i → holds (slot_at t i) socket ≡ true →
      holds (slot_at t j) socket ≡ false
  alone h i j l m ne s = go (holds (slot_at t j) socket) refl
    where
      go : (b : Bool) → holds (slot_at t j) socket ≡ b → b ≡ false
      go false e = refl
      go true e =
          let x = holds_parts (slot_at t i) socket s in
          let z = holds_parts (slot_at t j) socket e in
          absurd ((lawful-means slots sockets c t h).sockets-differ j i m l ne z.0 x.0 (z.1 ∙ sym x.1))

  -- LAW: leaving keeps a lawful table lawful
  pub left-lawful : lawful slots sockets c t ≡ true → lawful slots sockets c (left slots t socket).table ≡ true
  left-lawful h =
      changed-lawful slots sockets c t (place_of slots t socket) (leaving (row_of slots t socket)) h (leave_fits (row_of slots t socket))
      (λ i row e x. rw (leave-row (row_of slots t socket) row x) (empty-slot-lawful sockets c, λ j m ne u v. never (sym u)))

  -- LAW: afterwards the socket has no slot
  pub left-gone : lawful slots sockets c t ≡ true → row_of slots (left slots t socket).table socket ≡ none
  left-gone h = (no_row slots (left slots t socket).table socket).1 (λ j l. go (place_of slots t socket) refl j l)
    where
      same : (i j : ℕ) (b : Bool) → eqb j i ≡ b → place_of slots t socket ≡ Some i → j < slots → holds (slot_at (left slots t socket).table j) socket ≡ false
      same i j true q e l = rw (eqb-true j i q, left-empties slots t socket i e) (empty_holds socket)
      same i j false q e l =
          let ne : j ≢ i = eqb-false j i q in
          let f = place_found slots t socket i e in
          rw (left-others slots t socket j (λ p. ne (let s : i ≡ j = cc in sym s))) (alone h i j f.1 l ne f.0)

      go : (p : Option ℕ) → place_of slots t socket ≡ p → (j : ℕ) → j < slots → holds (slot_at (left slots t socket).table j) socket ≡ false
      go (Some i) e j l = same i j (eqb j i) refl e l
      go None e j l =
          rw (left-others slots t socket j (λ q. never (sym (ap is_slot (sym e ∙ q))))) (place_none slots t socket e j l)

  module _ (payload : List ℕ) where
    -- the row differs from a slot that does not hold the socket's device
    row_apart :
        uid_free slots t socket (uid_in payload) ≡ true → (j : ℕ) → j < slots → holds (slot_at t j) socket ≡ false →
        Apart (ack_row socket payload) (slot_at t j)
    row_apart free j l un u v =
        let ns = holds_not (slot_at t j) socket un v in
        (λ e. ns (sym e), λ e. free-means slots t socket (uid_in payload) free j l v ns (sym e))

    apart :
        lawful slots sockets c t ≡ true → (i : ℕ) (p : Option ℕ) → place_of slots t socket ≡ p → or_free slots t p ≡ Some i →
        uid_free slots t socket (uid_in payload) ≡ true → (j : ℕ) → j < slots → j ≢ i → Apart (ack_row socket payload) (slot_at t j)
    apart h i (Some k) e q free j m ne =
        let f = place_found slots t socket k e in
        let w : k ≡ i = cc in
        row_apart free j m (alone h k j f.1 m (λ y. ne (y ∙ w)) f.0)
    apart h i None e q free j m ne = row_apart free j m (place_none slots t socket e j m)

    -- LAW: an ACK keeps a lawful table lawful
    pub ack-lawful :
        lawful slots sockets c t ≡ true → socket < sockets → sockets ≤ 256 → Bytes payload →
        lawful slots sockets c (assigned slots c t socket payload).table ≡ true
    ack-lawful h l n b =
        changed-lawful slots sockets c t (place_for slots t socket) (ack_change slots c t socket payload) h
        (ack-fits slots c t socket payload (omega arith) b)
        (λ i row e x.
        let free = uid_free slots t socket (uid_in payload) in
        let any = is_slot (free_of slots t) in
        let r = ack-row c socket (row_of slots t socket) payload free any row x in
        let g = (ack-leaves c socket (row_of slots t socket) payload free any).0 (x ∙ ap becomes r) in
        rw r (
          fresh-lawful sockets c socket (device_in payload) (year_in payload) (uid_in payload) l g.0,
          apart h i (place_of slots t socket) refl e g.1,
        ))

    -- LAW: a second ACK with the device's own UID is accepted in its own slot; its old row is no reason for 14
    pub second-ack :
        lawful slots sockets c t ≡ true → is_some (device_of c (device_in payload)) ≡ true → (i : ℕ) → place_of slots t socket ≡ Some i →
        uid_in payload ≡ (slot_at t i).uid → assigned slots c t socket payload ≡ acceptance (with_slot t i (ack_row socket payload))
    second-ack h k i e own =
        let f = place_found slots t socket i e in
        let x = holds_parts (slot_at t i) socket f.0 in
        other-uid-ack slots c t socket payload k i
        (uid-free slots t socket (uid_in payload)
        (λ j l u ne q.
        (lawful-means slots sockets c t h).uids-differ j i l f.1 (λ s. ne (ap (λ (n : ℕ). (slot_at t n).socket) s ∙ x.1)) u x.0 (q ∙ own)))
        e
