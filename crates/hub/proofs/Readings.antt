-- One parameter, read or posted after a packet was received.
use Prim.Native.Nat.{ℕ, ◌≤◌, ◌<◌}
use mathlib.Core.Path.{◌≡◌, refl, sym, ap, ◌∙◌}
use mathlib.Core.Bool.{true, false}
use mathlib.Core.List.{List}
use Rattle.std.specs.Prelude.{Some}
use Rattle.wire.specs.Number.{number_at, Bytes}
use Rattle.list.specs.Tree.{int}
use Rattle.packet.specs.TypeTable.{ACK, DEVICE_DATA}
use Rattle.packet.specs.Packet.{StartsWith}
use Rattle.catalogue.specs.Format.{kind_int}
use Rattle.catalogue.specs.Lookup.{parameter_of, kind_in}
use Rattle.value.specs.Meaning.{whole, int_of, int_bits, short_of, extended, meant}
use Rattle.value.proofs.Shorts.{extended-small}
use Rattle.slot.specs.Slot.{param_count}
use Rattle.slot.specs.Rows.{slot_at}
use Rattle.slot.specs.declared.Slot.{Slot}
use Rattle.slot.proofs.Filling.{number_small}
use Rattle.slot.proofs.Rows.{slot-shaped}
use Rattle.table.specs.Places.{slot_count, socket_count, place_of}
use Rattle.table.specs.Change as change
use Rattle.table.proofs.Searches.{holds_parts, place_found}
use Rattle.lawful.specs.Lawful.{lawful, admission}
use Rattle.lawful.proofs.Meaning.{lawful-means}
use Rattle.lawful.proofs.Keeps.{own-place}
use Rattle.lawful.proofs.Admission.{admitted-means, means-admitted}
use Rattle.attach.specs.Attach.{device_in, year_in, uid_in, ack_row}
use Rattle.parameters.specs.Data.{map_of, named, long_int_year, short_width, long_width, offset_of, value_in, stored}
use Rattle.parameters.specs.Read.{held, absent, content_of}
use Rattle.parameters.proofs.Values.{data-same-device}
use Rattle.parameters.proofs.Contents.{named-reads, old-int-bits, old-int-reads, new-int-reads, unnamed-reads, fresh-reads, read_found}
use Rattle.publish.specs.Published.{element_of, held_value}
use Rattle.publish.proofs.Values.{int-published}
use Rattle.hub.specs.Receive.{accepted, received_of}
use Rattle.hub.specs.Calls.{read_of}
use Rattle.hub.proofs.PayloadBytes.{starts-bytes}
use Rattle.hub.proofs.Keeps.{received-lawful}
use Rattle.hub.proofs.Packets.{ack-slot, data-slot}

-- LAW: where 11, 9 and 10 are ruled out a parameter of a seated socket reads as its row holds it
pub row_read :
    (c t : List ℕ) (socket i p : ℕ) → admission slot_count socket_count c t socket ≡ change.accepted → place_of slot_count t socket ≡ Some i →
    read_of c t socket p ≡ content_of c (slot_at t i) p
unfolding read_of
row_read c t socket i p a e = rw a (read_found slot_count c t socket i p e)

module _
    (c t : List ℕ) (socket : ℕ) (s : List ℕ) (a : admission slot_count socket_count c t socket ≡ change.accepted) (b : Bytes t) (g : Bytes s)
    (payload : List ℕ) (consumed n : ℕ) (h : (received_of c t socket s).outcome ≡ accepted n)
  where
    abbrev after : List ℕ
    after = (received_of c t socket s).table

    after-lawful : lawful slot_count socket_count c after ≡ true
    after-lawful = received-lawful c t socket s b g (admitted-means slot_count socket_count c t socket a).1

    admitted-again : admission slot_count socket_count c after socket ≡ change.accepted
    admitted-again =
        let m = admitted-means slot_count socket_count c t socket a in
        means-admitted slot_count socket_count c after socket m.0 after-lawful m.2

    -- the row that is in slot i afterwards is the one that is read, where it is the socket's
    after_read :
        (i p : ℕ) (row : Slot) → slot_at after i ≡ row → i < slot_count → row.taken ≡ true → row.socket ≡ socket →
        read_of c after socket p ≡ content_of c row p
    after_read i p row e l u q =
        let own = own-place slot_count socket_count c after i (lawful-means slot_count socket_count c after after-lawful) l (ap (λ (x : Slot). x.taken) e ∙ u) in
        let place : place_of slot_count after socket ≡ Some i = sym (ap (place_of slot_count after) (ap (λ (x : Slot). x.socket) e ∙ q)) ∙ own in
        row_read c after socket i p admitted-again place ∙ ap (λ (x : Slot). content_of c x p) e

    module _ (i : ℕ) (w : StartsWith s DEVICE_DATA payload consumed) (e : place_of slot_count t socket ≡ Some i) (p : ℕ) where
      data-read : read_of c after socket p ≡ content_of c (stored c payload (slot_at t i)) p
      data-read =
          let f = place_found slot_count t socket i e in
          let o = holds_parts (slot_at t i) socket f.0 in
          let same = data-same-device c payload (slot_at t i) in
          after_read i p (stored c payload (slot_at t i)) (data-slot c t socket s a payload consumed n i b g w h e) f.1
          (same.taken-same ∙ o.0) (same.socket-same ∙ o.1)

      -- LAW: after accepted DEVICE_DATA a parameter that it names reads as its value, by the catalogue's kind of it
      pub named-read :
          p < param_count → named (map_of payload) p ≡ true →
          read_of c (received_of c t socket s).table socket p ≡
          held (meant (kind_in (parameter_of c (slot_at t i).device p)) (value_in c (slot_at t i) (map_of payload) payload p))
      named-read l m = data-read ∙ named-reads c payload (slot_at t i) (slot-shaped t i) p l m

      -- an INT that it names
      module _
          (l : p < param_count) (m : named (map_of payload) p ≡ true) (k : (kind_in (parameter_of c (slot_at t i).device p)) ≡ kind_int)
        where
          payload-bytes : Bytes payload
          payload-bytes = starts-bytes s DEVICE_DATA payload consumed w g

          -- LAW: it reads as the signed number of its two bytes where the device's year is below 6
          pub old-int-read :
              (slot_at t i).year < long_int_year →
              read_of c (received_of c t socket s).table socket p ≡
              held (whole (short_of (number_at short_width payload (offset_of c (slot_at t i) (map_of payload) p))))
          old-int-read y = data-read ∙ old-int-reads c payload (slot_at t i) (slot-shaped t i) p l m k payload-bytes y

          -- LAW: and is posted as that number
          pub old-int-posted :
              (slot_at t i).year < long_int_year →
              element_of (held_value c (slot_at (received_of c t socket s).table i) p) ≡
              int (int_bits (short_of (number_at short_width payload (offset_of c (slot_at t i) (map_of payload) p))))
          old-int-posted y =
              let at = offset_of c (slot_at t i) (map_of payload) p in
              let number = number_at short_width payload at in
              rw (
                data-slot c t socket s a payload consumed n i b g w h e,
                (data-same-device c payload (slot_at t i)).device-same,
                k,
                old-int-bits c payload (slot_at t i) (slot-shaped t i) p l m k y,
              ) (int-published (extended number) (extended-small number (number_small short_width payload at payload-bytes)))

          -- LAW: it reads as that of its four where the year is not below 6
          pub new-int-read :
              long_int_year ≤ (slot_at t i).year →
              read_of c (received_of c t socket s).table socket p ≡
              held (whole (int_of (number_at long_width payload (offset_of c (slot_at t i) (map_of payload) p))))
          new-int-read y = data-read ∙ new-int-reads c payload (slot_at t i) (slot-shaped t i) p l m k y

      -- LAW: any other parameter reads as before
      pub unnamed-read :
          named (map_of payload) p ≡ false → read_of c (received_of c t socket s).table socket p ≡ read_of c t socket p
      unnamed-read m =
          data-read ∙ unnamed-reads c payload (slot_at t i) (slot-shaped t i) p m ∙ sym (row_read c t socket i p a e)

    -- LAW: after an accepted ACK every parameter is absent
    pub ack-read : (p : ℕ) → StartsWith s ACK payload consumed → read_of c (received_of c t socket s).table socket p ≡ absent
    ack-read p w =
        let x = ack-slot c t socket s a payload consumed n g w h in
        after_read x.0 p (ack_row socket payload) x.3 x.2 refl refl ∙
        fresh-reads c true socket (device_in payload) (year_in payload) (uid_in payload) p
