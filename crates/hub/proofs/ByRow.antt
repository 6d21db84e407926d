-- The answer to a packet and the socket's row afterwards go by that row alone, whatever slots the rows stand in; for an ACK also by
-- two facts about the other rows. The same holds of leaving and of reading one parameter.
use Prim.Native.Nat.{ℕ, ◌<◌}
use mathlib.Core.Path.{◌≡◌, refl, sym, ap, ◌∙◌}
use mathlib.Core.Bool.{Bool, true, false, cond}
use mathlib.Core.List.{List, []}
use mathlib.Core.Option as option
use mathlib.Core.Option.{none, some}
use native.Mathlib.Omega.{arith}
use lib.Dec.{eqb}
use lib.ListN.{length}
use Rattle.std.specs.Prelude.{Option, Some, None}
use Rattle.wire.specs.Number.{Bytes}
use Rattle.packet.specs.TypeTable.{ACK, DEVICE_DATA, LOG}
use Rattle.packet.specs.Packet.{Judgement, Reading, decoded}
use Rattle.packet.specs.Packet as packet
use Rattle.slot.specs.Rows.{slot_at, with_slot}
use Rattle.slot.specs.declared.Slot.{Slot}
use Rattle.slot.proofs.Rows.{same-slot}
use Rattle.table.specs.Places.{slot_count, socket_count, table_size, place_of, free_of, is_slot, row_at, row_of}
use Rattle.table.specs.Change.{Verdict, accepted, refused, Change, becomes, denied, changed_at}
use Rattle.table.proofs.Tests.{never}
use Rattle.table.proofs.Searches.{holds_parts, place_found}
use Rattle.table.proofs.Changes.{FitsChange}
use Rattle.lawful.specs.Lawful.{lawful, admission}
use Rattle.lawful.proofs.Meaning.{lawful-means}
use Rattle.lawful.proofs.Admission.{admitted-means}
use Rattle.lawful.proofs.Keeps.{own-place}
use Rattle.attach.specs.Attach.{uid_in, acked, uid_free, place_for, ack_change, assigned, left}
use Rattle.attach.proofs.Acks.{ack-fits, ack-row, ack-place}
use Rattle.attach.proofs.Keeps.{ack-lawful, left-gone}
use Rattle.parameters.specs.Data.{judged, stored, becomes_if, data_change, data_applied}
use Rattle.parameters.specs.Read.{finding}
use Rattle.parameters.proofs.Values.{data-same-device}
use Rattle.parameters.proofs.Laws.{change-fits, data-lawful}
use Rattle.hub.specs.Receive.{Receiving, refusing, accepting, answered_by, answering, payload_in, by_type, by_judgement, received_of}
use Rattle.hub.specs.Receive as receive
use Rattle.hub.specs.Calls.{detached, read_of}
use Rattle.hub.specs.ByRow.{RowReceiving, row_answering, row_by_type, row_by_judgement, row_received}
use Rattle.hub.proofs.PayloadBytes.{payload-bytes}

-- WHAT IS SAID
-- the payload of the packet that was read, none where there is no packet
abbrev pub payload_by : Judgement → List ℕ → List ℕ
payload_by (packet.accepted type n consumed) message = payload_in message n
payload_by (packet.refused number) message = []

-- no device on another socket has the UID of the ACK that was read
abbrev pub is_uid_free : List ℕ → ℕ → Reading → Bool
is_uid_free t socket r = uid_free slot_count t socket (uid_in (payload_by r.judgement r.message))

-- a slot is free
abbrev pub is_any_free : List ℕ → Bool
is_any_free t = is_slot (free_of slot_count t)

-- the packet that was read is an ACK
abbrev pub is_ack_by : Judgement → Bool
is_ack_by (packet.accepted type n consumed) = eqb type ACK
is_ack_by (packet.refused number) = false

-- an answer beside the socket's row afterwards
abbrev pub row_after : ℕ → Receiving → RowReceiving
row_after socket r = record { outcome = r.outcome; row = row_of slot_count r.table socket }

-- what a leave answers to a socket with this row; 15 to one without
abbrev pub leave_answer : option.Option Slot → Verdict
leave_answer (some own) = accepted
leave_answer none = refused 15

-- CHANGES OF A SOCKET'S ROW
-- LAW: in a lawful table the row of a device is the row of its socket
pub own_row :
    (slots sockets : ℕ) (c t : List ℕ) (socket i : ℕ) (row : Slot) → lawful slots sockets c t ≡ true → i < slots → slot_at t i ≡ row →
    row.taken ≡ true → row.socket ≡ socket → row_of slots t socket ≡ some row
own_row slots sockets c t socket i row h l e u q =
    let own = own-place slots sockets c t i (lawful-means slots sockets c t h) l (ap (λ (s : Slot). s.taken) e ∙ u) in
    ap (row_at t) (ap (place_of slots t) (sym (ap (λ (s : Slot). s.socket) e ∙ q)) ∙ own) ∙ ap some e

-- the row that a change leaves; a refusal keeps the row
abbrev row_left : option.Option Slot → Change → option.Option Slot
row_left own (becomes row) = some row
row_left own (denied number) = own

abbrev is_denied : Change → Bool
is_denied (becomes row) = false
is_denied (denied number) = true

-- LAW: where the table is lawful afterwards, a row of the socket that a change leaves is the socket's row
pub changed_row :
    (slots sockets : ℕ) (c t : List ℕ) (socket : ℕ) (p : Option ℕ) (x : Change) → length t ≡ table_size slots → FitsChange x →
    lawful slots sockets c (changed_at t p x).table ≡ true →
    ((row : Slot) → x ≡ becomes row → (i : ℕ) × (p ≡ Some i) × (i < slots) × (row.taken ≡ true) × (row.socket ≡ socket)) →
    row_of slots (changed_at t p x).table socket ≡ row_left (row_of slots t socket) x
changed_row slots sockets c t socket (Some i) (becomes row) n f h k =
    let w = k row refl in
    let q : w.0 ≡ i = cc w.1 in
    let l : i < slots = rw q at w.2 in
    own_row slots sockets c (with_slot t i row) socket i row h l (same-slot t i row f (omega arith)) w.3 w.4
changed_row slots sockets c t socket None (becomes row) n f h k = never (sym (ap is_slot (k row refl).1))
changed_row slots sockets c t socket (Some i) (denied number) n f h k = refl
changed_row slots sockets c t socket None (denied number) n f h k = refl

-- what a change answers, by the row that it leaves
row-answer :
    (t : List ℕ) (p : Option ℕ) (x : Change) (own r : option.Option Slot) (consumed : ℕ) → r ≡ row_left own x →
    record { outcome = answered_by (changed_at t p x).verdict consumed; row = r } ≡ row_answering own x consumed
row-answer t (Some i) (becomes row) own r consumed e = ap (λ y. record { outcome = receive.accepted consumed; row = y }) e
row-answer t None (becomes row) own r consumed e = ap (λ y. record { outcome = receive.accepted consumed; row = y }) e
row-answer t (Some i) (denied number) own r consumed e = ap (λ y. record { outcome = receive.refused number; row = y }) e
row-answer t None (denied number) own r consumed e = ap (λ y. record { outcome = receive.refused number; row = y }) e

-- a row that DEVICE_DATA leaves is one of its socket, in the socket's slot
data-own :
    (c t : List ℕ) (socket : ℕ) (payload : List ℕ) (row : Slot) → data_change c (row_of slot_count t socket) payload ≡ becomes row →
    (i : ℕ) × (place_of slot_count t socket ≡ Some i) × (i < slot_count) × (row.taken ≡ true) × (row.socket ≡ socket)
data-own c t socket payload row = go (place_of slot_count t socket) refl
  where
    at :
        (v : Verdict) (i : ℕ) → place_of slot_count t socket ≡ Some i → becomes_if v (stored c payload (slot_at t i)) ≡ becomes row →
        (j : ℕ) × (Some i ≡ Some j) × (j < slot_count) × (row.taken ≡ true) × (row.socket ≡ socket)
    at accepted i e x =
        let f = place_found slot_count t socket i e in
        let o = holds_parts (slot_at t i) socket f.0 in
        let same = data-same-device c payload (slot_at t i) in
        let q : stored c payload (slot_at t i) ≡ row = cc x in
        (i, refl, f.1, rw (← q) (same.taken-same ∙ o.0), rw (← q) (same.socket-same ∙ o.1))
    at (refused number) i e x = never (ap is_denied x)

    go :
        (p : Option ℕ) → place_of slot_count t socket ≡ p → data_change c (row_at t p) payload ≡ becomes row →
        (i : ℕ) × (p ≡ Some i) × (i < slot_count) × (row.taken ≡ true) × (row.socket ≡ socket)
    go (Some i) e x = at (judged c (slot_at t i) payload) i e x
    go None e x = never (ap is_denied x)

-- a call where 11, 9 and 10 are ruled out
module _ (c t : List ℕ) (socket : ℕ) (a : admission slot_count socket_count c t socket ≡ accepted) where
  abbrev own : option.Option Slot
  own = row_of slot_count t socket

  lawful-before : lawful slot_count socket_count c t ≡ true
  lawful-before = (admitted-means slot_count socket_count c t socket a).1

  whole_before : length t ≡ table_size slot_count
  whole_before = (lawful-means slot_count socket_count c t lawful-before).whole

  small : socket < socket_count
  small = (admitted-means slot_count socket_count c t socket a).2

  module _ (b : Bytes t) (payload : List ℕ) (h : Bytes payload) (consumed : ℕ) where
    abbrev free : Bool
    free = uid_free slot_count t socket (uid_in payload)

    ack-by-row :
        row_after socket (answering (assigned slot_count c t socket payload) consumed) ≡
        row_answering own (acked c socket own payload free (is_any_free t)) consumed
    ack-by-row =
        let x = ack_change slot_count c t socket payload in
        row-answer t (place_for slot_count t socket) x own _ consumed
        (changed_row slot_count socket_count c t socket (place_for slot_count t socket) x whole_before
        (ack-fits slot_count c t socket payload (let l = small in omega arith) h)
        (ack-lawful slot_count socket_count c t socket payload lawful-before small (omega arith) h)
        (λ row e.
        let p = ack-place slot_count c t socket payload row e in
        let r = ack-row c socket own payload free (is_any_free t) row e in
        (p.0, p.1, p.2, ap (λ (s : Slot). s.taken) r, ap (λ (s : Slot). s.socket) r)))

    data-by-row :
        row_after socket (answering (data_applied slot_count c t socket payload) consumed) ≡ row_answering own (data_change c own payload) consumed
    data-by-row =
        let x = data_change c own payload in
        row-answer t (place_of slot_count t socket) x own _ consumed
        (changed_row slot_count socket_count c t socket (place_of slot_count t socket) x whole_before
        (change-fits slot_count c t socket payload b h)
        (data-lawful slot_count c t socket payload socket_count lawful-before b h)
        (data-own c t socket payload))

    type-by-row :
        (type : ℕ) → row_after socket (by_type c t socket type payload consumed) ≡ row_by_type c socket own type payload consumed free (is_any_free t)
    unfolding by_type row_by_type
    type-by-row type = go (eqb type ACK) (eqb type DEVICE_DATA) (eqb type LOG)
      where
        go :
            (d e f : Bool) →
            row_after socket
            (cond d (answering (assigned slot_count c t socket payload) consumed)
            (cond e (answering (data_applied slot_count c t socket payload) consumed) (cond f (accepting t consumed) (refusing t 19)))) ≡
            cond d (row_answering own (acked c socket own payload free (is_any_free t)) consumed)
            (cond e (row_answering own (data_change c own payload) consumed)
            (cond f (record { outcome = receive.accepted consumed; row = own }) (record { outcome = receive.refused 19; row = own })))
        go true e f = ack-by-row
        go false true f = data-by-row
        go false false true = refl
        go false false false = refl

  judgement-by-row :
      Bytes t → (j : Judgement) (message : List ℕ) → ((n : ℕ) → Bytes (payload_in message n)) →
      row_after socket (by_judgement c t socket j message) ≡
      row_by_judgement c socket own j message (uid_free slot_count t socket (uid_in (payload_by j message))) (is_any_free t)
  judgement-by-row b (packet.accepted type n consumed) message h = type-by-row b (payload_in message n) (h n) consumed type
  judgement-by-row b (packet.refused number) message h = refl

  -- LAW: the answer to a packet and the socket's row afterwards are made of the packet and the socket's row, and for an ACK of the two
  -- facts
  pub received-by-row :
      (s : List ℕ) → Bytes t → Bytes s →
      record { outcome = (received_of c t socket s).outcome; row = row_of slot_count (received_of c t socket s).table socket } ≡
      row_received c socket (row_of slot_count t socket) (decoded s) (is_uid_free t socket (decoded s)) (is_any_free t)
  unfolding received_of
  received-by-row s b h = rw a (judgement-by-row b (decoded s).judgement (decoded s).message (payload-bytes s h))

  -- LAW: a leave is answered by the socket's row, and afterwards the socket has none
  pub detached-by-row :
      ((detached c t socket).verdict ≡ leave_answer (row_of slot_count t socket)) × (row_of slot_count (detached c t socket).table socket ≡ none)
  unfolding detached
  detached-by-row = rw a (go (place_of slot_count t socket) refl, left-gone slot_count socket_count c t socket lawful-before)
    where
      go : (p : Option ℕ) → place_of slot_count t socket ≡ p → (left slot_count t socket).verdict ≡ leave_answer (row_at t p)
      go (Some i) e = rw e
      go None e = rw e

  -- LAW: one parameter is read by the socket's row
  pub read-by-row : (index : ℕ) → read_of c t socket index ≡ finding c (row_of slot_count t socket) index
  unfolding read_of
  read-by-row index = rw a

-- a packet that is no ACK is judged without the two facts
no-ack :
    (c : List ℕ) (socket : ℕ) (own : option.Option Slot) (j : Judgement) (message : List ℕ) (f g x y : Bool) → is_ack_by j ≡ false →
    row_by_judgement c socket own j message f x ≡ row_by_judgement c socket own j message g y
unfolding row_by_type
no-ack c socket own (packet.accepted type n consumed) message f g x y e = rw e
no-ack c socket own (packet.refused number) message f g x y e = refl

-- two tables in which the socket has the same row, and calls where 11, 9 and 10 are ruled out
module _
    (c t u : List ℕ) (socket : ℕ) (a : admission slot_count socket_count c t socket ≡ accepted)
    (b : admission slot_count socket_count c u socket ≡ accepted) (same : row_of slot_count t socket ≡ row_of slot_count u socket)
  where
    parts :
        (x y : Receiving) → row_after socket x ≡ row_after socket y →
        (x.outcome ≡ y.outcome) × (row_of slot_count x.table socket ≡ row_of slot_count y.table socket)
    parts x y e = (ap (λ (r : RowReceiving). r.outcome) e, ap (λ (r : RowReceiving). r.row) e)

    -- LAW: a packet is answered alike and leaves the same row where the two facts are alike
    pub same-row-same-answer :
        (s : List ℕ) → Bytes t → Bytes u → Bytes s → is_uid_free t socket (decoded s) ≡ is_uid_free u socket (decoded s) →
        is_any_free t ≡ is_any_free u →
        ((received_of c t socket s).outcome ≡ (received_of c u socket s).outcome) ×
        (row_of slot_count (received_of c t socket s).table socket ≡ row_of slot_count (received_of c u socket s).table socket)
    same-row-same-answer s bt bu h f g =
        parts (received_of c t socket s) (received_of c u socket s)
        (received-by-row c t socket a s bt h
        ∙ ap (λ own. row_received c socket own (decoded s) (is_uid_free t socket (decoded s)) (is_any_free t)) same
        ∙ ap (λ x. row_received c socket (row_of slot_count u socket) (decoded s) x (is_any_free t)) f
        ∙ ap (row_received c socket (row_of slot_count u socket) (decoded s) (is_uid_free u socket (decoded s))) g
        ∙ sym (received-by-row c u socket b s bu h))

    -- LAW: and a packet that is no ACK whatever the other rows are
    pub same-row-no-ack :
        (s : List ℕ) → Bytes t → Bytes u → Bytes s → is_ack_by (decoded s).judgement ≡ false →
        ((received_of c t socket s).outcome ≡ (received_of c u socket s).outcome) ×
        (row_of slot_count (received_of c t socket s).table socket ≡ row_of slot_count (received_of c u socket s).table socket)
    same-row-no-ack s bt bu h e =
        parts (received_of c t socket s) (received_of c u socket s)
        (received-by-row c t socket a s bt h
        ∙ ap (λ own. row_received c socket own (decoded s) (is_uid_free t socket (decoded s)) (is_any_free t)) same
        ∙ no-ack c socket (row_of slot_count u socket) (decoded s).judgement (decoded s).message _ _ _ _ e
        ∙ sym (received-by-row c u socket b s bu h))

    -- LAW: a leave is answered alike, and leaves the same row
    pub same-row-same-leave :
        ((detached c t socket).verdict ≡ (detached c u socket).verdict) ×
        (row_of slot_count (detached c t socket).table socket ≡ row_of slot_count (detached c u socket).table socket)
    same-row-same-leave =
        let x = detached-by-row c t socket a in
        let y = detached-by-row c u socket b in
        (x.0 ∙ ap leave_answer same ∙ sym y.0, x.1 ∙ sym y.1)

    -- LAW: one parameter is read alike
    pub same-row-same-reading : (index : ℕ) → read_of c t socket index ≡ read_of c u socket index
    same-row-same-reading index =
        read-by-row c t socket a index ∙ ap (λ own. finding c own index) same ∙ sym (read-by-row c u socket b index)
