-- Which numbers each part of the hub refuses with: the packet reader with 8 at most, a message by its type with more than 11. So 11, 9
-- and 10 say that the catalogue, the table or the socket was refused.
use Prim.Native.Nat.{ℕ, ◌+◌, ◌-◌, ◌≤◌, ◌<◌}
use mathlib.Core.Path.{◌≡◌, refl, ◌∙◌}
use mathlib.Core.Bool.{Bool, true, false, not, cond}
use mathlib.Core.List.{List}
use mathlib.Core.Logic.{◌⊎◌, inl, inr}
use native.Mathlib.Omega.{arith}
use lib.Dec.{eqb, ltb}
use lib.ListN.{length, get_or, take}
use Rattle.std.specs.Prelude.{Option, Some, None}
use Rattle.std.specs.Option.{is_some}
use Rattle.wire.specs.Zero.{has_zero}
use Rattle.packet.specs.Cobs.{lacking, decoded_part}
use Rattle.packet.specs.TypeTable.{ACK, DEVICE_DATA, LOG, allowed}
use Rattle.packet.specs.Message.{xor_from, message_error}
use Rattle.packet.specs.Packet.{Judgement, Reading, length_byte, part_present, front_error, packet_error, refusal, acceptance, decoded}
use Rattle.packet.specs.Packet as packet
use Rattle.catalogue.specs.Lookup.{device_of}
use Rattle.slot.specs.Rows.{slot_at}
use Rattle.slot.specs.declared.Slot.{Slot}
use Rattle.table.specs.Places.{slot_count, place_of, free_of, is_slot, row_at, row_of}
use Rattle.table.specs.Change.{Verdict, accepted, refused, Change, becomes, denied, changed_at}
use Rattle.attach.specs.Attach.{device_in, uid_in, ack_row, has_slot, acked, uid_free, place_for, ack_change, assigned}
use Rattle.parameters.specs.Data.{map_of, all_readable, size_of, all_flags, judged, stored, becomes_if, data_change, data_applied}
use Rattle.hub.specs.Receive.{Outcome, Receiving, refusing, accepting, answered_by, answering, payload_in, by_type, by_judgement, by_reading}
use Rattle.hub.specs.Receive as receive

front-most : (s : List ℕ) → front_error s ≤ 8
unfolding front_error
front-most s =
    go (eqb (length s) 0) (not (eqb (get_or s 0 0) 0)) (eqb (length s) 1) (ltb (length_byte s) 4) (has_zero (part_present s))
    (ltb (length s) (length_byte s + 2))
  where
    go : (a b d e f g : Bool) → cond a 1 (cond b 2 (cond d 1 (cond e 3 (cond f 4 (cond g 1 0))))) ≤ 8
    go true b d e f g = omega arith
    go false true d e f g = omega arith
    go false false true e f g = omega arith
    go false false false true f g = omega arith
    go false false false false true g = omega arith
    go false false false false false true = omega arith
    go false false false false false false = omega arith

message-most : (m : List ℕ) → message_error m ≤ 8
unfolding message_error
message-most m =
    go (not (eqb (get_or m 1 0) (length m - 3))) (not (eqb (xor_from 0 (take (length m - 1) m)) (get_or m (length m - 1) 0)))
    (not (allowed (get_or m 0 0) (length m - 3)))
  where
    go : (a b d : Bool) → cond a 6 (cond b 7 (cond d 8 0)) ≤ 8
    go true b d = omega arith
    go false true d = omega arith
    go false false true = omega arith
    go false false false = omega arith

-- LAW: the packet reader's numbers are 8 at most
pub error-most : (s : List ℕ) → packet_error s ≤ 8
unfolding packet_error
error-most s = go (not (eqb (front_error s) 0)) (not (eqb (lacking 0 (part_present s)) 0))
  where
    go : (a b : Bool) → cond a (front_error s) (cond b 5 (message_error (decoded_part (part_present s)))) ≤ 8
    go true b = front-most s
    go false true = omega arith
    go false false = message-most (decoded_part (part_present s))

-- a refusal with a number above 11, or none
abbrev Above : Verdict → Type 0
Above accepted = Unit {0}
Above (refused n) = 11 < n

abbrev AboveChange : Change → Type 0
AboveChange (becomes row) = Unit {0}
AboveChange (denied n) = 11 < n

abbrev pub AboveOutcome : Outcome → Type 0
AboveOutcome (receive.accepted consumed) = Unit {0}
AboveOutcome (receive.refused n) = 11 < n

above-change : (t : List ℕ) (p : Option ℕ) (x : Change) → AboveChange x → Above (changed_at t p x).verdict
above-change t (Some i) (becomes row) h = tt
above-change t None (becomes row) h = tt
above-change t (Some i) (denied n) h = h
above-change t None (denied n) h = h

above-answer : (v : Verdict) (consumed : ℕ) → Above v → AboveOutcome (answered_by v consumed)
above-answer accepted consumed h = tt
above-answer (refused n) consumed h = h

above-leaves : (v : Verdict) (s : Slot) → Above v → AboveChange (becomes_if v s)
above-leaves accepted s h = tt
above-leaves (refused n) s h = h

judged-above : (c : List ℕ) (s : Slot) (payload : List ℕ) → Above (judged c s payload)
unfolding judged
judged-above c s payload =
    go (all_readable c s (map_of payload)) (eqb (size_of c s (map_of payload)) (length payload)) (all_flags c s (map_of payload) payload)
  where
    go : (a b d : Bool) → Above (cond a (cond b (cond d accepted (refused 18)) (refused 17)) (refused 16))
    go true true true = tt
    go true true false = omega arith
    go true false d = omega arith
    go false b d = omega arith

module _ (c t : List ℕ) (socket : ℕ) (payload : List ℕ) where
  ack-above : AboveChange (ack_change slot_count c t socket payload)
  unfolding acked
  ack-above =
      go (is_some (device_of c (device_in payload))) (uid_free slot_count t socket (uid_in payload))
      (has_slot (row_of slot_count t socket) (is_slot (free_of slot_count t)))
    where
      go : (k f s : Bool) → AboveChange (cond k (cond f (cond s (becomes (ack_row socket payload)) (denied 13)) (denied 14)) (denied 12))
      go false f s = omega arith
      go true false s = omega arith
      go true true false = omega arith
      go true true true = tt

  data-above : AboveChange (data_change c (row_of slot_count t socket) payload)
  data-above = go (place_of slot_count t socket)
    where
      go : (p : Option ℕ) → AboveChange (data_change c (row_at t p) payload)
      go (Some i) = above-leaves (judged c (slot_at t i) payload) (stored c payload (slot_at t i)) (judged-above c (slot_at t i) payload)
      go None = omega arith

  -- LAW: a message is refused, by its type, with a number above 11
  pub type-above : (type consumed : ℕ) → AboveOutcome (by_type c t socket type payload consumed).outcome
  unfolding by_type
  type-above type consumed = go (eqb type ACK) (eqb type DEVICE_DATA) (eqb type LOG)
    where
      go :
          (a b d : Bool) →
          AboveOutcome (cond {A = Receiving} a (answering (assigned slot_count c t socket payload) consumed)
          (cond {A = Receiving} b (answering (data_applied slot_count c t socket payload) consumed)
          (cond {A = Receiving} d (accepting t consumed) (refusing t 19)))).outcome
      go true b d =
          above-answer (assigned slot_count c t socket payload).verdict consumed
          (above-change t (place_for slot_count t socket) (ack_change slot_count c t socket payload) ack-above)
      go false true d =
          above-answer (data_applied slot_count c t socket payload).verdict consumed
          (above-change t (place_of slot_count t socket) (data_change c (row_of slot_count t socket) payload) data-above)
      go false false true = tt
      go false false false = omega arith

-- the reader's refusal is its error
refused-is : (s : List ℕ) (number : ℕ) → (decoded s).judgement ≡ packet.refused number → packet_error s ≡ number
unfolding decoded refusal acceptance
refused-is s number = go (eqb (packet_error s) 0)
  where
    go : (b : Bool) → (cond {A = Reading} b (acceptance s) (refusal (packet_error s))).judgement ≡ packet.refused number → packet_error s ≡ number
    go true e = let z : ◌≡◌ {A = ℕ} 0 1 = cc e in absurd (omega arith)
    go false e = let q : packet_error s ≡ number = cc e in q

-- LAW: what a reading is refused with is the packet's error or above 11
pub reading-number :
    (c t : List ℕ) (socket : ℕ) (s : List ℕ) (n : ℕ) → (by_reading c t socket (decoded s)).outcome ≡ receive.refused n →
    (packet_error s ≡ n) ⊎ (11 < n)
reading-number c t socket s n = judge (decoded s).judgement refl
  where
    judge :
        (j : Judgement) → (decoded s).judgement ≡ j → (by_judgement c t socket j (decoded s).message).outcome ≡ receive.refused n →
        (packet_error s ≡ n) ⊎ (11 < n)
    judge (packet.accepted type k consumed) e h =
        inr (rw h at (type-above c t socket (payload_in (decoded s).message k) type consumed))
    judge (packet.refused number) e h = let q : number ≡ n = cc h in inl (refused-is s number e ∙ q)
