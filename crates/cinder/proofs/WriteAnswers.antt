-- The answers of the writing calls in numbers; and that a number above a byte is no message type.
use Prim.Native.Nat.{ℕ, ◌≤◌}
use mathlib.Core.Path.{◌≡◌, refl, sym, ap, ◌∙◌}
use mathlib.Core.Bool.{Bool, true, false, cond}
use mathlib.Core.List.{List}
use native.Mathlib.Omega.{arith}
use lib.Dec.{ltb}
use lib.ListN.{length}
use borrow.Author.Tests.{ne_eqb, ltb-true, ltb-false}
use Rattle.std.specs.Prelude as prelude
use Rattle.std.specs.Prelude.{Ok, Err}
use Rattle.errors.specs.declared.Error.{Error}
use Rattle.packet.specs.TypeTable.{PING, ACK, DEVICE_WRITE, DEVICE_DATA, LOG, allows, allowed}
use Rattle.packet.specs.Packet.{PACKET_ROOM}
use Rattle.packet.proofs.Lengths.{zero-none}
use Rattle.packet_encode.specs.Encode as packet
use Rattle.packet_encode.specs.Encode.{Writing, encoded}
use Rattle.packet_encode.proofs.EncodeStages.{encoded-small, encoded-unknown}
use Rattle.list_encode.specs.Encode as list
use Rattle.cinder.specs.declared.write_call.WriteResult.{WriteResult}
use Rattle.cinder.specs.WriteCall.{WriteOutcome, writing_result, packet_numbers, list_numbers, packet_write_call}

-- numbers beside the area
abbrev pub beside : WriteResult → List ℕ → WriteOutcome
beside r area = record { answer = r; area = area }

-- no type is above a byte
above-none : (number n : ℕ) → 256 ≤ number → allowed number n ≡ false
unfolding allowed allows
above-none number n h =
    rw (
      ne_eqb number PING (λ e. omega arith),
      ne_eqb number ACK (λ e. omega arith),
      ne_eqb number DEVICE_WRITE (λ e. omega arith),
      ne_eqb number DEVICE_DATA (λ e. omega arith),
      ne_eqb number LOG (λ e. omega arith),
    )

-- what is answered to a type that is none
unknown : (type : ℕ) (payload area : List ℕ) → allowed type (length payload) ≡ false
    → encoded type payload area ≡ record { result = packet.refused (cond (ltb (length area) PACKET_ROOM) 20 8); buffer = area }
unknown type payload area e = go (ltb (length area) PACKET_ROOM) refl
  where
    go : (small : Bool) → ltb (length area) PACKET_ROOM ≡ small → encoded type payload area ≡ record { result = packet.refused (cond small 20 8); buffer = area }
    go true p = sym (encoded-small type payload area (ltb-true _ _ p))
    go false p = sym (encoded-unknown type payload area (ltb-false _ _ p) e)

-- LAW: a number above a byte is answered as 0 is, which is no type either
pub byte-type : (number : ℕ) (payload area : List ℕ) → encoded (cond (ltb number 256) number 0) payload area ≡ encoded number payload area
byte-type number payload area = go (ltb number 256) refl
  where
    go : (small : Bool) → ltb number 256 ≡ small → encoded (cond small number 0) payload area ≡ encoded number payload area
    go true e = refl
    go false e =
        unknown 0 payload area (zero-none (length payload))
        ∙ sym (unknown number payload area (above-none number (length payload) (ltb-false number 256 e)))

-- packet writing's answer is in numbers what its result is
packet_result : (a : prelude.Result ℕ Error) → writing_result a ≡ packet_numbers (packet.result_of a)
packet_result (Ok count) = refl
packet_result (Err e) = refl

-- likewise list writing's
list_result : (a : prelude.Result ℕ Error) → writing_result a ≡ list_numbers (list.result_of a)
list_result (Ok count) = refl
list_result (Err e) = refl

-- what packet writing is answered by, from the answer a to the type k
pub packet-written :
    (number k : ℕ) (payload area area' : List ℕ) (a : prelude.Result ℕ Error) (r : WriteResult) → k ≡ cond (ltb number 256) number 0
    → r ≡ writing_result a → record { result = packet.result_of a; buffer = area' } ≡ encoded k payload area
    → beside r area' ≡ packet_write_call number payload area
unfolding packet_write_call
packet-written number k payload area area' a r t e h =
    ap (λ (z : WriteResult). beside z area') (e ∙ packet_result a)
    ∙ ap (λ (w : Writing). beside (packet_numbers w.result) w.buffer)
    (h ∙ ap (λ (z : ℕ). encoded z payload area) t ∙ byte-type number payload area)

-- what list writing, in bytes or as text, is answered by
pub rows_written :
    (area' : List ℕ) (w : list.Outcome) (a : prelude.Result ℕ Error) (r : WriteResult) → r ≡ writing_result a
    → list.outcome (list.result_of a) area' ≡ w → beside r area' ≡ beside (list_numbers w.result) w.buffer
rows_written area' w a r e h =
    ap (λ (z : WriteResult). beside z area') (e ∙ list_result a)
    ∙ ap (λ (w : list.Outcome). beside (list_numbers w.result) w.buffer) h
