-- `take_in` is `by_reading` of the packet, by the cases of the packet reader's answer.
use Prim.Native.Nat.{ℕ, ◌+◌, ◌-◌, ◌≤◌}
use mathlib.Core.Path.{◌≡◌, refl, sym, ap, ◌∙◌}
use mathlib.Core.List.{List}
use native.Mathlib.Omega.{arith}
use Rattle.std.proofs.Common.{rules}
use mathlib.Core.Logic.{⊎_elim}
use Rattle.std.specs.Prelude.{Result, Ok}
use Rattle.errors.specs.declared.Error.{Error}
use lib.ListN.{length, take, drop, replicate}
use Rattle.packet.specs.declared.Packet.{Packet}
use Rattle.packet.specs.TypeTable.{type_number}
use Rattle.packet.specs.Packet.{PACKET_ROOM, judgement_of, decoded, filled}
use Rattle.packet.proofs.DecodeStages.{fill-means}
use Rattle.table.specs.Change.{verdict_of}
use Rattle.hub.specs.Receive.{Outcome, answered_by, by_type, by_reading}
use Rattle.hub.proofs.Judgements.{payload-bound, as_read, ack-answers, data-answers}
use Rattle.hub.proofs.inbound.take_in.Goals as goal

-- zeros, filled: what was decoded, in terms of the case that the answer is; `copy` is the lent array as the packet reader left it
answered :
    (s copy : List ℕ) {a b : Result Packet Error} → record { judgement = judgement_of a; buffer = copy } ≡ filled s (replicate PACKET_ROOM 0) → a ≡ b →
    record { judgement = judgement_of b; message = copy } ≡ decoded s
answered s copy e told = ap (λ (x : Result Packet Error). record { judgement = judgement_of x; message = copy }) (sym told) ∙ fill-means s _ copy e

module _ (s copy : List ℕ) {a : Result Packet Error} {p : Packet}
    (e : record { judgement = judgement_of a; buffer = copy } ≡ filled s (replicate PACKET_ROOM 0)) (told : a ≡ Ok p) where
  -- the payload and the two bytes before it are in the working copy
  bound : (p.payload_len + 2 ≤ 253) × (p.payload_len + 2 ≤ length copy)
  bound = payload-bound s _ copy (answered s copy e told) (type_number p.kind) p.payload_len p.consumed refl

  -- what the packet's type asks is what the reading leads to
  arm :
      (c t : List ℕ) (socket : ℕ) {type : ℕ} → type_number p.kind ≡ type →
      by_type c t socket type (take (2 + p.payload_len - 2) (drop 2 copy)) p.consumed ≡ by_reading c t socket (decoded s)
  arm c t socket f =
      let size : 2 + p.payload_len - 2 ≡ p.payload_len = omega arith in
      ap (λ (x : ℕ). by_type c t socket x (take (2 + p.payload_len - 2) (drop 2 copy)) p.consumed) (sym f) ∙
      ap (λ (m : ℕ). by_type c t socket (type_number p.kind) (take m (drop 2 copy)) p.consumed) size ∙
      as_read s _ copy (answered s copy e told) c t socket

pub returns-in_default : goal.returns-in_default
returns-in_default c =
    let a = c.args in
    as_read _ _ _ (answered a.bytes.now _ c.decode_into-a.ensures (c.in_default.is ∙ c.in-Err.is)) a.catalogue.now a.table.now a.socket

pub overflow_add-payload : goal.overflow_add-payload
overflow_add-payload c = omega (arith, (bound c.args.bytes.now _ c.decode_into-a.ensures c.in-Ok.is).0)

pub slice_bounds-payload-end : goal.slice_bounds-payload-end
slice_bounds-payload-end c = omega (arith, (bound c.args.bytes.now _ c.decode_into-a.ensures c.in-Ok.is).1)

-- what a change of the table answers
abbrev answer : ℕ → Result (Unit {0}) Error → Outcome
answer consumed x = answered_by (verdict_of x) consumed

pub returns-in_ok-assign-in-Ack : goal.returns-in_ok-assign-in-Ack
returns-in_ok-assign-in-Ack c =
    let a = c.args in
    let told = c.in_ok-assign-in-Ack.was in
    ack-answers _ _ _ _ c.in-Ok.packet.consumed _ _ _ (ap (answer c.in-Ok.packet.consumed) (sym told)) c.assign.ensures
    ∙ arm a.bytes.now _ c.decode_into-a.ensures c.in-Ok.is a.catalogue.now a.table.now a.socket (ap type_number c.in-Ack.is)

pub returns-in_err-assign-in-Ack : goal.returns-in_err-assign-in-Ack
returns-in_err-assign-in-Ack c =
    let a = c.args in
    let told = c.in_err-assign-in-Ack.was in
    ack-answers _ _ _ _ c.in-Ok.packet.consumed _ _ _ (rw told (search rules)) c.assign.ensures
    ∙ arm a.bytes.now _ c.decode_into-a.ensures c.in-Ok.is a.catalogue.now a.table.now a.socket (ap type_number c.in-Ack.is)

pub returns-in_ok-apply_data-in-DeviceData : goal.returns-in_ok-apply_data-in-DeviceData
returns-in_ok-apply_data-in-DeviceData c =
    let a = c.args in
    let told = c.in_ok-apply_data-in-DeviceData.was in
    data-answers _ _ _ _ c.in-Ok.packet.consumed _ _ _ (ap (answer c.in-Ok.packet.consumed) (sym told)) c.requires c.apply_data.ensures
    ∙ arm a.bytes.now _ c.decode_into-a.ensures c.in-Ok.is a.catalogue.now a.table.now a.socket (ap type_number c.in-DeviceData.is)

pub returns-in_err-apply_data-in-DeviceData : goal.returns-in_err-apply_data-in-DeviceData
returns-in_err-apply_data-in-DeviceData c =
    let a = c.args in
    let told = c.in_err-apply_data-in-DeviceData.was in
    data-answers _ _ _ _ c.in-Ok.packet.consumed _ _ _ (rw told (search rules)) c.requires c.apply_data.ensures
    ∙ arm a.bytes.now _ c.decode_into-a.ensures c.in-Ok.is a.catalogue.now a.table.now a.socket (ap type_number c.in-DeviceData.is)

pub returns-in-Log : goal.returns-in-Log
unfolding by_type
returns-in-Log c =
    let a = c.args in
    arm a.bytes.now _ c.decode_into-a.ensures c.in-Ok.is a.catalogue.now a.table.now a.socket (ap type_number c.in-Log.is)

pub returns-in-Ping : goal.returns-in-Ping
unfolding by_type
returns-in-Ping c =
    let a = c.args in
    ⊎_elim
    (λ e. arm a.bytes.now _ c.decode_into-a.ensures c.in-Ok.is a.catalogue.now a.table.now a.socket (ap type_number e))
    (λ e. arm a.bytes.now _ c.decode_into-a.ensures c.in-Ok.is a.catalogue.now a.table.now a.socket (ap type_number e))
    c.in-Ping.is
