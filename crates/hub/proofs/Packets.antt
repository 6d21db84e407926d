-- What is received, in terms of the packet at the front of the bytes.
use Prim.Native.Nat.{ℕ, ◌+◌, ◌≤◌, ◌<◌}
use mathlib.Core.Path.{◌≡◌, refl, sym, ap, ◌∙◌}
use mathlib.Core.Bool.{Bool, true, false, cond}
use mathlib.Core.List.{List, ◌∷◌, ◌++◌}
use mathlib.Core.Logic.{◌≢◌}
use native.Mathlib.Omega.{arith}
use lib.Dec.{eqb}
use lib.ListN.{length}
use Rattle.std.specs.Prelude.{Some, None}
use Rattle.std.specs.Option.{is_some}
use Rattle.wire.specs.Number.{Bytes}
use Rattle.packet.specs.TypeTable.{PING, ACK, DEVICE_WRITE, DEVICE_DATA, LOG}
use Rattle.packet.specs.Packet.{StartsWith, Judgement, Reading, length_byte, packet_error, refusal, decoded}
use Rattle.packet.specs.Packet as packet
use Rattle.packet.proofs.Accepted.{complete, sound}
use Rattle.packet.proofs.DecodeStages.{decoded-refused}
use Rattle.catalogue.specs.Lookup.{device_of}
use Rattle.slot.specs.Slot.{param_count, present_at, bits_at}
use Rattle.slot.specs.Rows.{slot_at, with_slot}
use Rattle.slot.specs.declared.Slot.{Slot}
use Rattle.slot.proofs.Rows.{slot-shaped}
use Rattle.table.specs.Places.{slot_count, socket_count, place_of}
use Rattle.table.specs.Change.{Verdict, Effect}
use Rattle.table.specs.Change as change
use Rattle.table.proofs.Tests.{never}
use Rattle.lawful.specs.Lawful.{admission}
use Rattle.lawful.proofs.Meaning.{lawful-means}
use Rattle.lawful.proofs.Admission.{admitted-means}
use Rattle.attach.specs.Attach.{device_in, uid_in, ack_row, uid_free, place_for, assigned}
use Rattle.attach.proofs.Facts.{Elsewhere}
use Rattle.attach.proofs.Acks.{assigned-accepted, ack-accepts, other-uid-ack, uid-taken-ack, full-ack}
use Rattle.attach.proofs.Acks as acks
use Rattle.attach.proofs.Keeps.{second-ack}
use Rattle.parameters.specs.Data.{map_of, named, value_in, stored, data_applied}
use Rattle.parameters.proofs.Values.{SameDevice, data-same-device, data-present, data-bits}
use Rattle.parameters.proofs.Judged.{Judged, means-judged}
use Rattle.parameters.proofs.Laws.{data-accepted, data-stores}
use Rattle.parameters.proofs.Laws as laws
use Rattle.hub.specs.Receive.{accepted, Receiving, refusing, accepting, answering, by_type, by_judgement, by_reading, received_if, received_of}
use Rattle.hub.proofs.PayloadBytes.{payload-in, starts-bytes}
use Rattle.hub.proofs.Keeps.{is_accepted, answered-accepted}
use Rattle.hub.proofs.Later.{later-read}

-- what a DEVICE_DATA payload does to a row: named values are the packet's, all else is as it was
pub record ValuesReplaced (c : List ℕ) (payload : List ℕ) (before after : Slot) : Type 0 where
  pub device-kept : SameDevice before after
  pub held : (p : ℕ) → p < param_count → present_at after p ≡ cond (named (map_of payload) p) true (present_at before p)
  pub words :
      (p : ℕ) → p < param_count →
      bits_at after p ≡ cond (named (map_of payload) p) (value_in c before (map_of payload) payload p) (bits_at before p)

-- an accepted packet stands at the front of the bytes and answers its size, L+2
pub record Consumed (s : List ℕ) (n : ℕ) : Type 0 where
  pub type : ℕ
  pub payload : List ℕ
  pub starts : StartsWith s type payload n
  pub size : n ≡ length_byte s + 2

by-type-consumed :
    (c t : List ℕ) (socket type : ℕ) (payload : List ℕ) (consumed n : ℕ) →
    (by_type c t socket type payload consumed).outcome ≡ accepted n → n ≡ consumed
unfolding by_type
by-type-consumed c t socket type payload consumed n = go (eqb type ACK) (eqb type DEVICE_DATA) (eqb type LOG)
  where
    go :
        (a b d : Bool) →
        (cond {A = Receiving} a (answering (assigned slot_count c t socket payload) consumed)
        (cond {A = Receiving} b (answering (data_applied slot_count c t socket payload) consumed)
        (cond {A = Receiving} d (accepting t consumed) (refusing t 19)))).outcome ≡ accepted n →
        n ≡ consumed
    go true b d e = (answered-accepted (assigned slot_count c t socket payload).verdict consumed n e).1
    go false true d e = (answered-accepted (data_applied slot_count c t socket payload).verdict consumed n e).1
    go false false true e = let q : consumed ≡ n = cc e in sym q
    go false false false e = never (sym (ap is_accepted e))

-- L+2 is the size of the packet
size_of : (s : List ℕ) (type : ℕ) (payload : List ℕ) (n : ℕ) → StartsWith s type payload n → n ≡ length_byte s + 2
size_of s type payload n w =
    let e : s ≡ 0 ∷ length w.packet.part ∷ (w.packet.part ++ w.later) = w.split ∙ ap (λ (l : List ℕ). l ++ w.later) w.packet.framed in
    omega (arith, w.size, ap length w.packet.framed, ap length_byte e)

-- LAW: what is accepted is a packet at the front of the bytes, and the answer is its size
pub accepted-consumes : (c t : List ℕ) (socket : ℕ) (s : List ℕ) (n : ℕ) → (received_of c t socket s).outcome ≡ accepted n → Consumed s n
unfolding received_of
accepted-consumes c t socket s n = admit (admission slot_count socket_count c t socket)
  where
    judge :
        (j : Judgement) → (decoded s).judgement ≡ j → (by_judgement c t socket j (decoded s).message).outcome ≡ accepted n → Consumed s n
    judge (packet.accepted type k consumed) e h =
        let q = by-type-consumed c t socket type _ consumed n h in
        let w = sound s type k consumed e in
        let st : StartsWith s type w.payload n = rw q w.starts in
        record { type = type; payload = w.payload; starts = st; size = size_of s type w.payload n st }
    judge (packet.refused number) e h = never (sym (ap is_accepted h))

    admit : (v : Verdict) → (received_if v t (by_reading c t socket (decoded s))).outcome ≡ accepted n → Consumed s n
    admit change.accepted h = judge (decoded s).judgement refl h
    admit (change.refused number) h = never (sym (ap is_accepted h))

-- LAW: 11, 9 or 10 comes before anything of the packet
pub not-admitted :
    (c t : List ℕ) (socket : ℕ) (s : List ℕ) (number : ℕ) → admission slot_count socket_count c t socket ≡ change.refused number →
    received_of c t socket s ≡ refusing t number
unfolding received_of
not-admitted c t socket s number e = rw e

-- LAW: what is accepted came to a legal catalogue, a lawful table and one of its sockets
pub accepted-admitted :
    (c t : List ℕ) (socket : ℕ) (s : List ℕ) (n : ℕ) → (received_of c t socket s).outcome ≡ accepted n →
    admission slot_count socket_count c t socket ≡ change.accepted
accepted-admitted c t socket s n h = go (admission slot_count socket_count c t socket) refl
  where
    go : (v : Verdict) → admission slot_count socket_count c t socket ≡ v → v ≡ change.accepted
    go change.accepted e = refl
    go (change.refused number) e =
        never (sym (ap is_accepted h) ∙ ap (λ (r : Receiving). is_accepted r.outcome) (not-admitted c t socket s number e))

-- LAW: a whole packet is answered, refusals among the answers, as it is without the bytes that follow it
pub later-bytes-ignored :
    (c t : List ℕ) (socket : ℕ) (s later : List ℕ) → length_byte s + 2 ≤ length s →
    received_of c t socket (s ++ later) ≡ received_of c t socket s
unfolding received_of
later-bytes-ignored c t socket s later h =
    ap (λ (r : Reading). received_if (admission slot_count socket_count c t socket) t (by_reading c t socket r)) (later-read s later h)

-- a legal catalogue, a lawful table and one of its sockets
module _ (c t : List ℕ) (socket : ℕ) (s : List ℕ) (a : admission slot_count socket_count c t socket ≡ change.accepted) where
  -- LAW: the packet reader's error is the answer
  pub error-received : (number : ℕ) → packet_error s ≡ number → number ≢ 0 → received_of c t socket s ≡ refusing t number
  unfolding received_of refusal
  error-received number e ne = rw a (ap (by_reading c t socket) (sym (decoded-refused s number e ne)))

  -- LAW: a packet at the front is judged by its type and its payload
  pub packet-received :
      (type : ℕ) (payload : List ℕ) (consumed : ℕ) → StartsWith s type payload consumed →
      received_of c t socket s ≡ by_type c t socket type payload consumed
  unfolding received_of
  packet-received type payload consumed w =
      rw a
      (ap (by_reading c t socket) (complete s type payload consumed w) ∙
      ap (λ (p : List ℕ). by_type c t socket type p consumed) (payload-in type payload))

  module _ (payload : List ℕ) (consumed : ℕ) where
    -- LAW: PING and DEVICE_WRITE are 19
    pub ping-received : StartsWith s PING payload consumed → received_of c t socket s ≡ refusing t 19
    unfolding by_type
    ping-received w = packet-received PING payload consumed w

    pub write-received : StartsWith s DEVICE_WRITE payload consumed → received_of c t socket s ≡ refusing t 19
    unfolding by_type
    write-received w = packet-received DEVICE_WRITE payload consumed w

    -- LAW: LOG is accepted and changes nothing
    pub log-received : StartsWith s LOG payload consumed → received_of c t socket s ≡ accepting t consumed
    unfolding by_type
    log-received w = packet-received LOG payload consumed w

    -- LAW: an ACK is answered as the socket's row and the other rows say
    pub ack-received :
        StartsWith s ACK payload consumed → received_of c t socket s ≡ answering (assigned slot_count c t socket payload) consumed
    unfolding by_type
    ack-received w = packet-received ACK payload consumed w

    -- LAW: DEVICE_DATA as the socket's row says
    pub data-received :
        StartsWith s DEVICE_DATA payload consumed → received_of c t socket s ≡ answering (data_applied slot_count c t socket payload) consumed
    unfolding by_type
    data-received w = packet-received DEVICE_DATA payload consumed w

    -- an ACK, by what it does to the table
    ack-as :
        (e : Effect) → StartsWith s ACK payload consumed → assigned slot_count c t socket payload ≡ e →
        received_of c t socket s ≡ answering e consumed
    ack-as e w q = ack-received w ∙ ap (λ (x : Effect). answering x consumed) q

    -- LAW: an ACK is accepted where its type is in the catalogue, its UID on no other socket, and there is a slot for it
    pub ack-placed :
        (i : ℕ) → StartsWith s ACK payload consumed → is_some (device_of c (device_in payload)) ≡ true →
        uid_free slot_count t socket (uid_in payload) ≡ true → place_for slot_count t socket ≡ Some i →
        received_of c t socket s ≡ accepting (with_slot t i (ack_row socket payload)) consumed
    ack-placed i w k f e = ack-as _ w (ack-accepts slot_count c t socket payload k i f e)

    -- LAW: a second ACK is accepted in the socket's own slot; the old row is no reason for 14
    pub second-ack-received :
        (i : ℕ) → StartsWith s ACK payload consumed → place_of slot_count t socket ≡ Some i →
        is_some (device_of c (device_in payload)) ≡ true → uid_in payload ≡ (slot_at t i).uid →
        received_of c t socket s ≡ accepting (with_slot t i (ack_row socket payload)) consumed
    second-ack-received i w e k own =
        ack-as _ w (second-ack slot_count socket_count c t socket payload (admitted-means slot_count socket_count c t socket a).1 k i e own)

    -- LAW: so is a second ACK with another UID that is on no other socket, also where all slots are taken
    pub other-uid-received :
        (i : ℕ) → StartsWith s ACK payload consumed → place_of slot_count t socket ≡ Some i →
        is_some (device_of c (device_in payload)) ≡ true → uid_free slot_count t socket (uid_in payload) ≡ true →
        received_of c t socket s ≡ accepting (with_slot t i (ack_row socket payload)) consumed
    other-uid-received i w e k f = ack-as _ w (other-uid-ack slot_count c t socket payload k i f e)

    -- LAW: 14 where a device on another socket has the UID
    pub uid-taken-received :
        StartsWith s ACK payload consumed → is_some (device_of c (device_in payload)) ≡ true →
        Elsewhere slot_count t socket (uid_in payload) → received_of c t socket s ≡ refusing t 14
    uid-taken-received w k x = ack-as _ w (uid-taken-ack slot_count c t socket payload k x)

    -- LAW: 13 where the socket has no slot and all are taken
    pub full-received :
        StartsWith s ACK payload consumed → is_some (device_of c (device_in payload)) ≡ true →
        uid_free slot_count t socket (uid_in payload) ≡ true → place_of slot_count t socket ≡ None →
        ((j : ℕ) → j < slot_count → (slot_at t j).taken ≡ true) → received_of c t socket s ≡ refusing t 13
    full-received w k f e all = ack-as _ w (full-ack slot_count c t socket payload k f e all)

    ack-judged :
        (n : ℕ) → StartsWith s ACK payload consumed → (received_of c t socket s).outcome ≡ accepted n →
        (assigned slot_count c t socket payload).verdict ≡ change.accepted
    ack-judged n w h =
        (answered-accepted (assigned slot_count c t socket payload).verdict consumed n
        (sym (ap (λ (r : Receiving). r.outcome) (ack-received w)) ∙ h)).0

    -- LAW: an accepted ACK puts the packet's device, with no values held, into the socket's own slot or else the lowest empty one
    pub ack-row :
        (n : ℕ) → StartsWith s ACK payload consumed → (received_of c t socket s).outcome ≡ accepted n →
        (i : ℕ) × (place_for slot_count t socket ≡ Some i) ×
        (received_of c t socket s ≡ accepting (with_slot t i (ack_row socket payload)) consumed)
    ack-row n w h =
        let g = (assigned-accepted slot_count c t socket payload).0 (ack-judged n w h) in
        let p = g.2 in
        (p.0, p.1, ack-placed p.0 w g.0 g.1 p.1)

    -- LAW: which then reads back as socket, type, year and UID of the packet, and no values
    pub ack-slot :
        (n : ℕ) → Bytes s → StartsWith s ACK payload consumed → (received_of c t socket s).outcome ≡ accepted n →
        (i : ℕ) × (place_for slot_count t socket ≡ Some i) × (i < slot_count) ×
        (slot_at (received_of c t socket s).table i ≡ ack_row socket payload)
    ack-slot n g w h =
        let m = admitted-means slot_count socket_count c t socket a in
        let whole = (lawful-means slot_count socket_count c t m.1).whole in
        let l : socket < 256 = omega (arith, m.2) in
        let x = acks.ack-placed slot_count c t socket payload l (starts-bytes s ACK payload consumed w g) whole (ack-judged n w h) in
        (x.0, x.1, x.2, ap (λ (r : Receiving). slot_at r.table x.0) (ack-received w) ∙ x.3)

    -- LAW: DEVICE_DATA that fits the device on the socket is accepted, and its values are in that device's row
    pub data-placed :
        (i : ℕ) → StartsWith s DEVICE_DATA payload consumed → place_of slot_count t socket ≡ Some i → Judged c (slot_at t i) payload →
        received_of c t socket s ≡ accepting (with_slot t i (stored c payload (slot_at t i))) consumed
    data-placed i w e j =
        data-received w ∙
        ap (λ (x : Effect). answering x consumed) (data-stores slot_count c t socket payload i e (means-judged c (slot_at t i) payload j))

    data-fitted :
        (n : ℕ) → StartsWith s DEVICE_DATA payload consumed → (received_of c t socket s).outcome ≡ accepted n →
        laws.Accepted slot_count c t socket payload
    data-fitted n w h =
        data-accepted slot_count c t socket payload
        (answered-accepted (data_applied slot_count c t socket payload).verdict consumed n
        (sym (ap (λ (r : Receiving). r.outcome) (data-received w)) ∙ h)).0

    -- LAW: accepted DEVICE_DATA replaces the row of the socket's own slot
    pub data-row :
        (n : ℕ) → StartsWith s DEVICE_DATA payload consumed → (received_of c t socket s).outcome ≡ accepted n →
        (i : ℕ) × (place_of slot_count t socket ≡ Some i) ×
        (received_of c t socket s ≡ accepting (with_slot t i (stored c payload (slot_at t i))) consumed)
    data-row n w h =
        let x = data-fitted n w h in (
          x.index,
          x.place,
          data-received w ∙
              ap (λ (y : Effect). answering y consumed) (data-stores slot_count c t socket payload x.index x.place x.fits),
        )

    -- LAW: which then reads back as the old row with the packet's values
    pub data-slot :
        (n i : ℕ) → Bytes t → Bytes s → StartsWith s DEVICE_DATA payload consumed → (received_of c t socket s).outcome ≡ accepted n →
        place_of slot_count t socket ≡ Some i → slot_at (received_of c t socket s).table i ≡ stored c payload (slot_at t i)
    data-slot n i b g w h e =
        let x = data-fitted n w h in
        let q : x.index ≡ i = cc (sym x.place ∙ e) in
        ap (λ (r : Receiving). slot_at r.table i) (data-received w) ∙
        laws.data-row slot_count c t socket payload b (starts-bytes s DEVICE_DATA payload consumed w g) i e (rw q at x.fits)

    -- LAW: each value is the packet's where the map names it, else the old one, and so is its presence
    pub data-values :
        (n i : ℕ) → Bytes t → Bytes s → StartsWith s DEVICE_DATA payload consumed → (received_of c t socket s).outcome ≡ accepted n →
        place_of slot_count t socket ≡ Some i → ValuesReplaced c payload (slot_at t i) (slot_at (received_of c t socket s).table i)
    data-values n i b g w h e =
        let z = slot-shaped t i in
        rw (data-slot n i b g w h e)
        (record {
          device-kept = data-same-device c payload (slot_at t i);
          held = data-present c payload (slot_at t i) z.0;
          words = data-bits c payload (slot_at t i) z.1;
        })
