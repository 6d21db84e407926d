-- "Width goes by the seated year": an accepted ACK brings the year, and whatever is called behind it, the widths of the device's packets
-- stay those of that year until the socket's next accepted ACK or its leaving.
use Prim.Native.Nat.{ℕ}
use mathlib.Core.Path.{◌≡◌, refl, sym, ap, subst, ◌∙◌}
use mathlib.Core.Bool.{Bool, true, false, cond}
use mathlib.Core.List.{List, [], ◌∷◌}
use mathlib.Core.Logic.{◌⊎◌, ⊎_elim, ◌≢◌}
use mathlib.Core.Option.{Option, some}
use lib.Dec.{eqb}
use borrow.Author.Tests.{eqb-true, eqb-false}
use Rattle.wire.specs.Number.{Bytes}
use Rattle.packet.specs.TypeTable.{ACK, DEVICE_DATA, LOG}
use Rattle.packet.specs.Packet.{StartsWith, Judgement, decoded}
use Rattle.packet.specs.Packet as packet
use Rattle.catalogue.specs.Lookup.{parameter_of, kind_in}
use Rattle.slot.specs.declared.Slot.{Slot}
use Rattle.table.specs.Places.{slot_count, socket_count, row_of}
use Rattle.table.specs.Change.{Verdict}
use Rattle.table.specs.Change as change
use Rattle.lawful.specs.Lawful.{admission}
use Rattle.attach.specs.Attach.{device_in, year_in, ack_row}
use Rattle.parameters.specs.Data.{width, width_of, judged, stored, becomes_if, data_change}
use Rattle.parameters.proofs.Values.{SameDevice, same_self, same-on, data-same-device}
use Rattle.parameters.proofs.Layouts.{same_width, same-judged}
use Rattle.hub.specs.Receive.{Receiving, accepted, payload_in, received_of}
use Rattle.hub.specs.Receive as answers
use Rattle.hub.specs.Events.{Event, receive, detach, read, publish, reply_to, after_one, after_all}
use Rattle.hub.specs.ByRow.{RowReceiving, row_answering, row_by_type, row_by_judgement, row_received}
use Rattle.hub.proofs.ByRow.{is_ack_by, is_uid_free, is_any_free, received-by-row, own_row}
use Rattle.hub.proofs.Packets.{not-admitted, accepted-admitted, ack-slot}
use Rattle.hub.proofs.Posted.{other_row, leave-other-row}
use Rattle.hub.proofs.Reached.{ByteEvent, ByteEvents, Reached, one_more, is_refusal, refusal-keeps}

-- a socket's row is there, of the same device as s
pub record OfDevice (own : Option Slot) (s : Slot) : Type 0 where
  pub row : Slot
  pub is-row : own ≡ some row
  pub same : SameDevice s row

-- the call is no accepted ACK from the socket and not its accepted leaving
abbrev pub Stays : List ℕ → List ℕ → ℕ → Event → Type 0
Stays c t socket (receive q bytes) =
    (q ≢ socket) ⊎ ((is_ack_by (decoded bytes).judgement ≡ false) ⊎ (is_refusal (reply_to c t (receive q bytes)) ≡ true))
Stays c t socket (detach q) = (q ≢ socket) ⊎ (is_refusal (reply_to c t (detach q)) ≡ true)
Stays c t socket (read q index) = Unit {0}
Stays c t socket (publish buffer) = Unit {0}

-- so is each of a series
abbrev pub StaysAll : List ℕ → List ℕ → ℕ → List Event → Type 0
StaysAll c t socket [] = Unit {0}
StaysAll c t socket (e ∷ es) = Stays c t socket e × StaysAll c (after_one c t e) socket es

kept : {own : Option Slot} {s : Slot} → own ≡ some s → OfDevice own s
kept {own} {s} e = record { row = s; is-row = e; same = same_self s }

-- A PACKET THAT IS NO ACK, FROM THE SOCKET
change-device : (v : Verdict) (s after : Slot) (consumed : ℕ) → SameDevice s after → OfDevice (row_answering (some s) (becomes_if v after) consumed).row s
change-device change.accepted s after consumed h = record { row = after; is-row = refl; same = h }
change-device (change.refused number) s after consumed h = kept refl

module _ (c : List ℕ) (socket : ℕ) (s : Slot) (f x : Bool) where
  judged-device : (j : Judgement) (message : List ℕ) → is_ack_by j ≡ false → OfDevice (row_by_judgement c socket (some s) j message f x).row s
  unfolding row_by_type
  judged-device (packet.accepted type n consumed) message e = rw e (go (eqb type DEVICE_DATA) (eqb type LOG))
    where
      go :
          (is_data is_log : Bool) →
          OfDevice
          (cond {A = RowReceiving} is_data (row_answering (some s) (data_change c (some s) (payload_in message n)) consumed)
          (cond {A = RowReceiving} is_log (record { outcome = answers.accepted consumed; row = some s })
          (record { outcome = answers.refused 19; row = some s }))).row s
      go true is_log =
          let payload = payload_in message n in
          change-device (judged c s payload) s (stored c payload s) consumed (data-same-device c payload s)
      go false true = kept refl
      go false false = kept refl
  judged-device (packet.refused number) message e = kept refl

module _ (c t : List ℕ) (socket : ℕ) (r : Reached c t) (s : Slot) (own : row_of slot_count t socket ≡ some s) where
  no-ack-device :
      (bytes : List ℕ) → Bytes bytes → is_ack_by (decoded bytes).judgement ≡ false →
      OfDevice (row_of slot_count (received_of c t socket bytes).table socket) s
  no-ack-device bytes h e = go (admission slot_count socket_count c t socket) refl
    where
      go : (v : Verdict) → admission slot_count socket_count c t socket ≡ v → OfDevice (row_of slot_count (received_of c t socket bytes).table socket) s
      go change.accepted a =
          let free = is_uid_free t socket (decoded bytes) in
          let by_Row =
          received-by-row c t socket a bytes r.is-bytes h ∙
          ap (λ (o : Option Slot). row_received c socket o (decoded bytes) free (is_any_free t)) own in
          rw (ap (λ (x : RowReceiving). x.row) by_Row)
          (judged-device c socket s free (is_any_free t) (decoded bytes).judgement (decoded bytes).message e)
      go (change.refused number) a =
          kept (ap (λ (x : Receiving). row_of slot_count x.table socket) (not-admitted c t socket bytes number a) ∙ own)

  other-device : (q : ℕ) (bytes : List ℕ) → Bytes bytes → q ≢ socket → OfDevice (row_of slot_count (received_of c t q bytes).table socket) s
  other-device q bytes h n = kept (other_row c t q bytes r.is-bytes h r.is_lawful socket (λ e. n (sym e)) ∙ own)

  refused-device : (e : Event) → is_refusal (reply_to c t e) ≡ true → OfDevice (row_of slot_count (after_one c t e) socket) s
  refused-device e z = kept (ap (λ (u : List ℕ). row_of slot_count u socket) (refusal-keeps c t e z) ∙ own)

  -- LAW: a call that is no accepted ACK from the socket and not its accepted leaving keeps the device's socket, type, year and UID
  pub device-kept : (e : Event) → ByteEvent e → Stays c t socket e → OfDevice (row_of slot_count (after_one c t e) socket) s
  device-kept (receive q bytes) h k =
      ⊎_elim
      (other-device q bytes h)
      (⊎_elim
      (go (eqb q socket) refl)
      (refused-device (receive q bytes)))
      k
    where
      go :
          (b : Bool) → eqb q socket ≡ b → is_ack_by (decoded bytes).judgement ≡ false →
          OfDevice (row_of slot_count (received_of c t q bytes).table socket) s
      go true b e =
          let same = eqb-true q socket b in
          subst (λ n. OfDevice (row_of slot_count (received_of c t n bytes).table socket) s) (sym same) (no-ack-device bytes h e)
      go false b e = other-device q bytes h (eqb-false q socket b)
  device-kept (detach q) h k =
      ⊎_elim
      (λ n. kept (leave-other-row c t q r.is_lawful socket (λ e. n (sym e)) ∙ own))
      (refused-device (detach q))
      k
  device-kept (read q index) h n = kept own
  device-kept (publish buffer) h n = kept own

-- LAW: and so does a series of them
pub devices-kept :
    (c t : List ℕ) (socket : ℕ) (s : Slot) (es : List Event) → Reached c t → ByteEvents es → row_of slot_count t socket ≡ some s →
    StaysAll c t socket es → OfDevice (row_of slot_count (after_all c t es) socket) s
devices-kept c t socket s [] r h own k = kept own
devices-kept c t socket s (e ∷ es) r h own k =
    let one = device-kept c t socket r s own e h.0 k.0 in
    let rest = devices-kept c (after_one c t e) socket one.row es (one_more c t e h.0 r) h.1 one.is-row k.1 in
    record { row = rest.row; is-row = rest.is-row; same = same-on one.same rest.same }

module _
    (c t : List ℕ) (socket : ℕ) (bytes payload : List ℕ) (consumed n : ℕ) (r : Reached c t) (h : Bytes bytes)
    (w : StartsWith bytes ACK payload consumed) (a : (received_of c t socket bytes).outcome ≡ accepted n)
  where
    -- LAW: behind an accepted ACK, a second one too, values have the widths of the year that it brings, and a payload is judged as
    -- by the row that the ACK made, whatever is called, until the socket's next accepted ACK or its leaving
    pub widths-behind-ack :
        (es : List Event) → ByteEvents es → StaysAll c (received_of c t socket bytes).table socket es →
        (u : Slot) × (row_of slot_count (after_all c (received_of c t socket bytes).table es) socket ≡ some u) ×
        ((p : ℕ) → width_of c u p ≡ width (year_in payload) (kind_in (parameter_of c (device_in payload) p))) ×
        ((later : List ℕ) → judged c u later ≡ judged c (ack_row socket payload) later)
    widths-behind-ack es g k =
        let ack = ack_row socket payload in
        let x = devices-kept c (received_of c t socket bytes).table socket ack es after g own-ack k in
        let type = x.same.device-same in
        let year = x.same.year-same in
        (x.row, x.is-row, same_width c ack x.row type year, same-judged c ack x.row type year)
      where
        after : Reached c (received_of c t socket bytes).table
        after = one_more c t (receive socket bytes) h r

        own-ack : row_of slot_count (received_of c t socket bytes).table socket ≡ some (ack_row socket payload)
        own-ack =
            let x = ack-slot c t socket bytes (accepted-admitted c t socket bytes n a) payload consumed n h w a in
            own_row slot_count socket_count c (received_of c t socket bytes).table socket x.0 (ack_row socket payload) after.is_lawful
            x.2 x.3 refl refl
