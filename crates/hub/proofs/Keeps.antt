-- What every packet and every leave keeps: a lawful table stays lawful, rows of other sockets stay, and a refusal leaves the table
-- as it was.
use Prim.Native.Nat.{ℕ, ◌<◌}
use mathlib.Core.Path.{◌≡◌, refl, sym, ap, ◌∙◌}
use mathlib.Core.Bool.{Bool, true, false, cond}
use mathlib.Core.List.{List}
use mathlib.Core.Logic.{◌⊎◌, inl, inr, ⊎_elim, ◌≢◌}
use native.Mathlib.Omega.{arith}
use lib.Dec.{eqb}
use lib.ListN.{length}
use borrow.Author.Tests.{eq-eqb}
use Rattle.std.specs.Prelude.{Option, Some}
use Rattle.wire.specs.Number.{Bytes}
use Rattle.packet.specs.TypeTable.{ACK, DEVICE_DATA, LOG}
use Rattle.packet.specs.Packet.{Judgement, decoded}
use Rattle.packet.specs.Packet as packet
use Rattle.slot.specs.Rows.{slot_at}
use Rattle.slot.specs.declared.Slot.{Slot}
use Rattle.table.specs.Places.{slot_count, socket_count, holds, place_of, free_of, is_slot, row_at, row_of}
use Rattle.table.specs.Change.{Verdict, Effect, refusal, becomes, if_accepted}
use Rattle.table.specs.Change as change
use Rattle.table.proofs.Tests.{never}
use Rattle.table.proofs.Searches.{holds_parts, place_found}
use Rattle.table.proofs.Changes.{row_left, Changed, changed-either, changed-length}
use Rattle.lawful.specs.Lawful.{lawful, admission}
use Rattle.lawful.proofs.Admission.{admitted-means}
use Rattle.attach.specs.Attach.{uid_in, ack_row, uid_free, or_free, place_for, ack_change, assigned, leaving, left}
use Rattle.attach.proofs.Facts.{not-its-place}
use Rattle.attach.proofs.Acks.{ack-row, ack-fits, ack-bytes, ack-others, ack-refused}
use Rattle.attach.proofs.Leaving.{left-bytes, left-others, left-other-devices, left-refused}
use Rattle.attach.proofs.Keeps.{ack-lawful, left-lawful}
use Rattle.parameters.specs.Data.{judged, stored, becomes_if, data_change, data_applied}
use Rattle.parameters.proofs.Values.{data-same-device}
use Rattle.parameters.proofs.Laws.{change-fits, data-others, data-refused, data-bytes, data-lawful}
use Rattle.hub.specs.Receive.{Outcome, accepted, refused, Receiving, refusing, accepting, answered_by, answering, payload_in, by_type, by_judgement, by_reading, received_if, received_of}
use Rattle.hub.specs.Calls.{detached}
use Rattle.hub.proofs.PayloadBytes.{payload-bytes}

abbrev pub is_accepted : Outcome → Bool
is_accepted (accepted consumed) = true
is_accepted (refused number) = false

-- a change that is answered by a refusal was refused with that number
pub answered-refused : (v : Verdict) (consumed number : ℕ) → answered_by v consumed ≡ refused number → v ≡ change.refused number
answered-refused change.accepted consumed number e = never (ap is_accepted e)
answered-refused (change.refused n) consumed number e = let q : n ≡ number = cc e in ap change.refused q

-- a change that is answered by bytes consumed was accepted, and they are the packet's
pub answered-accepted : (v : Verdict) (consumed n : ℕ) → answered_by v consumed ≡ accepted n → (v ≡ change.accepted) × (n ≡ consumed)
answered-accepted change.accepted consumed n e = let q : consumed ≡ n = cc e in (refl, sym q)
answered-accepted (change.refused k) consumed n e = never (sym (ap is_accepted e))

module _
    (c t : List ℕ) (socket : ℕ) (G : List ℕ → Type 0) (P : Receiving → Type 0) (no : (number : ℕ) → P (refusing t number))
    (none : (consumed : ℕ) → P (accepting t consumed))
    (ack : socket < socket_count → (payload : List ℕ) → G payload → (consumed : ℕ) → P (answering (assigned slot_count c t socket payload) consumed))
    (values : (payload : List ℕ) → G payload → (consumed : ℕ) → P (answering (data_applied slot_count c t socket payload) consumed))
  where
    by-type :
        socket < socket_count → (type : ℕ) (payload : List ℕ) → G payload → (consumed : ℕ) → P (by_type c t socket type payload consumed)
    unfolding by_type
    by-type l type payload g consumed = go (eqb type ACK) (eqb type DEVICE_DATA) (eqb type LOG)
      where
        go :
            (a b d : Bool) →
            P (cond a (answering (assigned slot_count c t socket payload) consumed)
            (cond b (answering (data_applied slot_count c t socket payload) consumed) (cond d (accepting t consumed) (refusing t 19))))
        go true b d = ack l payload g consumed
        go false true d = values payload g consumed
        go false false true = none consumed
        go false false false = no 19

    by-judgement :
        socket < socket_count → (j : Judgement) (message : List ℕ) → ((n : ℕ) → G (payload_in message n)) → P (by_judgement c t socket j message)
    by-judgement l (packet.accepted type n consumed) message g = by-type l type (payload_in message n) (g n) consumed
    by-judgement l (packet.refused number) message g = no number

    -- what holds of a refusal, of a packet that changes nothing, and of an ACK and DEVICE_DATA with the packet's payload holds of
    -- all that is received
    pub by-payload : (s : List ℕ) → ((n : ℕ) → G (payload_in (decoded s).message n)) → P (received_of c t socket s)
    unfolding received_of
    by-payload s g = go (admission slot_count socket_count c t socket) refl
      where
        go : (v : Verdict) → admission slot_count socket_count c t socket ≡ v → P (received_if v t (by_reading c t socket (decoded s)))
        go change.accepted e =
            by-judgement (admitted-means slot_count socket_count c t socket e).2 (decoded s).judgement (decoded s).message g
        go (change.refused n) e = no n

-- the same where any payload will do
pub by_cases :
    (c t : List ℕ) (socket : ℕ) (P : Receiving → Type 0) → ((number : ℕ) → P (refusing t number)) →
    ((consumed : ℕ) → P (accepting t consumed)) →
    ((payload : List ℕ) (consumed : ℕ) → P (answering (assigned slot_count c t socket payload) consumed)) →
    ((payload : List ℕ) (consumed : ℕ) → P (answering (data_applied slot_count c t socket payload) consumed)) →
    (s : List ℕ) → P (received_of c t socket s)
by_cases c t socket P refuses accepts ack values s =
    by-payload c t socket (λ payload. Unit {0}) P refuses accepts (λ l payload g. ack payload) (λ payload g. values payload) s (λ n. tt)

-- what holds of a refusal and of a leave without 11, 9 and 10 holds of every leave
pub by_leave :
    (c t : List ℕ) (socket : ℕ) (P : Effect → Type 0) → ((number : ℕ) → P (refusal t number)) → P (left slot_count t socket) →
    P (detached c t socket)
unfolding detached
by_leave c t socket P refuses goes = go (admission slot_count socket_count c t socket)
  where
    go : (v : Verdict) → P (if_accepted v t (left slot_count t socket))
    go change.accepted = goes
    go (change.refused n) = refuses n

-- a taken row of the socket holds its device
own-holds : (r : Slot) (socket : ℕ) → r.taken ≡ true → r.socket ≡ socket → holds r socket ≡ true
unfolding holds
own-holds r socket u e = rw (u, eq-eqb r.socket socket e)

-- a row that is left is the one that was to be
row-left : (v : Verdict) (s row : Slot) → becomes_if v s ≡ becomes row → s ≡ row
row-left change.accepted s row e = ap (row_left s) e
row-left (change.refused n) s row e = ap (row_left s) e

module _ (c t : List ℕ) (socket : ℕ) where
  -- LAW: a refused packet leaves the table exactly as it was
  pub refused-keeps : (s : List ℕ) (number : ℕ) → (received_of c t socket s).outcome ≡ refused number → (received_of c t socket s).table ≡ t
  refused-keeps s number =
      by_cases c t socket
      (λ r. r.outcome ≡ refused number → r.table ≡ t)
      (λ k e. refl)
      (λ k e. refl)
      (λ payload n e. ack-refused slot_count c t socket payload number (answered-refused (assigned slot_count c t socket payload).verdict n number e))
      (λ payload n e. data-refused slot_count c t socket payload number (answered-refused (data_applied slot_count c t socket payload).verdict n number e))
      s

  -- LAW: every slot but the one that an ACK from the socket is for is exactly as it was
  pub slots_kept : (s : List ℕ) (j : ℕ) → place_for slot_count t socket ≢ Some j → slot_at (received_of c t socket s).table j ≡ slot_at t j
  slots_kept s j ne =
      by_cases c t socket
      (λ r. slot_at r.table j ≡ slot_at t j)
      (λ k. refl)
      (λ k. refl)
      (λ payload n. ack-others slot_count c t socket payload j ne)
      (λ payload n. data-others slot_count c t socket payload j (λ e. ne (ap (or_free slot_count t) e)))
      s

  -- LAW: the row of a device on another socket is exactly as it was
  pub others-kept :
      (s : List ℕ) (j : ℕ) → (slot_at t j).taken ≡ true → (slot_at t j).socket ≢ socket → slot_at (received_of c t socket s).table j ≡ slot_at t j
  others-kept s j u ne = slots_kept s j (not-its-place slot_count t socket j u ne)

  -- LAW: each slot is exactly as it was, or holds the socket's device
  pub slot-either :
      (s : List ℕ) → Bytes t → Bytes s → (j : ℕ) →
      (slot_at (received_of c t socket s).table j ≡ slot_at t j) ⊎ (holds (slot_at (received_of c t socket s).table j) socket ≡ true)
  slot-either s b h j =
      by-payload c t socket Bytes
      (λ r. (slot_at r.table j ≡ slot_at t j) ⊎ (holds (slot_at r.table j) socket ≡ true))
      (λ k. inl refl)
      (λ k. inl refl)
      (λ l payload g n.
      ⊎_elim (λ e. inl e) (λ w. inr (ack-holds payload w))
      (changed-either t (place_for slot_count t socket) (ack_change slot_count c t socket payload)
      (ack-fits slot_count c t socket payload (omega arith) g) j))
      (λ payload g n.
      ⊎_elim (λ e. inl e) (λ w. inr (data-holds payload w))
      (changed-either t (place_of slot_count t socket) (data_change c (row_of slot_count t socket) payload)
      (change-fits slot_count c t socket payload b g) j))
      s
      (payload-bytes s h)
    where
      ack-holds :
          (payload : List ℕ) → Changed t (place_for slot_count t socket) (ack_change slot_count c t socket payload) j →
          holds (slot_at (assigned slot_count c t socket payload).table j) socket ≡ true
      ack-holds payload w =
          let e = ack-row c socket (row_of slot_count t socket) payload (uid_free slot_count t socket (uid_in payload)) (is_slot (free_of slot_count t)) w.row w.change in
          rw (w.result, e) (own-holds (ack_row socket payload) socket refl refl)

      data-holds :
          (payload : List ℕ) → Changed t (place_of slot_count t socket) (data_change c (row_of slot_count t socket) payload) j →
          holds (slot_at (data_applied slot_count c t socket payload).table j) socket ≡ true
      data-holds payload w =
          let o = holds_parts (slot_at t j) socket (place_found slot_count t socket j w.place).0 in
          let same = data-same-device c payload (slot_at t j) in
          let e = row-left (judged c (slot_at t j) payload) (stored c payload (slot_at t j)) w.row
          (ap (λ (p : Option ℕ). data_change c (row_at t p) payload) (sym w.place) ∙ w.change) in
          rw (w.result, ← e)
          (own-holds (stored c payload (slot_at t j)) socket (same.taken-same ∙ o.0) (same.socket-same ∙ o.1))

  -- LAW: a packet keeps the table's length
  pub received-length : (s : List ℕ) → length (received_of c t socket s).table ≡ length t
  received-length =
      by_cases c t socket
      (λ r. length r.table ≡ length t)
      (λ k. refl)
      (λ k. refl)
      (λ payload n. changed-length t (place_for slot_count t socket) (ack_change slot_count c t socket payload))
      (λ payload n. changed-length t (place_of slot_count t socket) (data_change c (row_of slot_count t socket) payload))

  -- LAW: and leaves bytes
  pub received-bytes : (s : List ℕ) → Bytes t → Bytes s → Bytes (received_of c t socket s).table
  received-bytes s b h =
      by-payload c t socket Bytes
      (λ r. Bytes r.table)
      (λ k. b)
      (λ k. b)
      (λ l payload g n. ack-bytes slot_count c t socket payload (omega arith) g b)
      (λ payload g n. data-bytes slot_count c t socket payload b g)
      s
      (payload-bytes s h)

  -- LAW: a lawful table stays lawful, whatever is received
  pub received-lawful :
      (s : List ℕ) → Bytes t → Bytes s → lawful slot_count socket_count c t ≡ true →
      lawful slot_count socket_count c (received_of c t socket s).table ≡ true
  received-lawful s b h w =
      by-payload c t socket Bytes
      (λ r. lawful slot_count socket_count c r.table ≡ true)
      (λ k. w)
      (λ k. w)
      (λ l payload g n. ack-lawful slot_count socket_count c t socket payload w l (omega arith) g)
      (λ payload g n. data-lawful slot_count c t socket payload socket_count w b g)
      s
      (payload-bytes s h)

  -- LAW: a refused leave leaves the table exactly as it was
  pub detached-keeps : (number : ℕ) → (detached c t socket).verdict ≡ change.refused number → (detached c t socket).table ≡ t
  detached-keeps number =
      by_leave c t socket (λ e. e.verdict ≡ change.refused number → e.table ≡ t) (λ k e. refl) (left-refused slot_count t socket number)

  -- LAW: every slot but the socket's is exactly as it was
  pub detached-slots : (j : ℕ) → place_of slot_count t socket ≢ Some j → slot_at (detached c t socket).table j ≡ slot_at t j
  detached-slots j ne =
      by_leave c t socket (λ e. slot_at e.table j ≡ slot_at t j) (λ k. refl) (left-others slot_count t socket j ne)

  -- LAW: the row of a device on another socket is exactly as it was
  pub detached-others : (j : ℕ) → (slot_at t j).socket ≢ socket → slot_at (detached c t socket).table j ≡ slot_at t j
  detached-others j ne =
      by_leave c t socket (λ e. slot_at e.table j ≡ slot_at t j) (λ k. refl) (left-other-devices slot_count t socket j ne)

  -- LAW: a leave keeps the table's length
  pub detached-length : length (detached c t socket).table ≡ length t
  detached-length =
      by_leave c t socket (λ e. length e.table ≡ length t) (λ k. refl)
      (changed-length t (place_of slot_count t socket) (leaving (row_of slot_count t socket)))

  -- LAW: and leaves bytes
  pub detached-bytes : Bytes t → Bytes (detached c t socket).table
  detached-bytes b = by_leave c t socket (λ e. Bytes e.table) (λ k. b) (left-bytes slot_count t socket b)

  -- LAW: a lawful table stays lawful, whoever leaves
  pub detached-lawful :
      lawful slot_count socket_count c t ≡ true → lawful slot_count socket_count c (detached c t socket).table ≡ true
  detached-lawful w =
      by_leave c t socket (λ e. lawful slot_count socket_count c e.table ≡ true) (λ k. w)
      (left-lawful slot_count socket_count c t socket w)
