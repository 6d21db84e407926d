-- The answers of the packet call, one for each outcome of reading; and what it answers to a packet.
use Prim.Native.Nat.{ℕ, ◌+◌, ◌-◌, ◌≤◌, ◌<◌}
use mathlib.Core.Path.{◌≡◌, refl, sym, ap, ◌∙◌}
use mathlib.Core.Bool.{Bool, true, false}
use mathlib.Core.List.{List, []}
use native.Mathlib.Omega.{arith}
use lib.Dec.{eqb, ltb}
use lib.ListN.{length, replicate}
use lib.Seq.{take_at}
use borrow.Author.Tests.{lt-ltb, le-ltb, ltb-true, ltb-false, eqb-true, eqb-false}
use Rattle.wire.specs.Area.{over}
use Rattle.packet.specs.Cobs.{decoded_part}
use Rattle.packet.specs.Message.{message_of}
use Rattle.packet.specs.Packet.{StartsWith, Reading, Filling, Judgement, accepted, refused, PACKET_ROOM, copy_of, length_byte, part_present, packet_error, refusal, answered, acceptance, decoded, filled}
use Rattle.packet.proofs.DecodeStages.{good-front, length-message, decoded-refused, decoded-good, filled-small, filled-refused, filled-good}
use Rattle.packet.proofs.Lengths.{length-message_of}
use Rattle.packet.proofs.Accepted.{complete}
use Rattle.cinder.specs.PacketCall.{PacketOutcome, in_numbers, packet_call}

pub call-small : (s buffer : List ℕ) → length buffer < PACKET_ROOM → record { error = 20; consumed = 0; message = buffer } ≡ packet_call s buffer
unfolding packet_call
call-small s buffer h = simp (lt-ltb _ _ h)

module _ (s buffer : List ℕ) (h : PACKET_ROOM ≤ length buffer) (j : Judgement) (copy : List ℕ) (e : record { judgement = j; message = copy } ≡ decoded s) where
  pub call-judged : in_numbers j copy buffer ≡ packet_call s buffer
  unfolding packet_call
  call-judged = simp (le-ltb _ _ h) (ap (λ (r : Reading). in_numbers r.judgement r.message buffer) e)

-- a judgement in numbers, beside the buffer as it was left
abbrev pub in_buffer : Judgement → List ℕ → PacketOutcome
in_buffer (accepted type n consumed) out = record { error = 0; consumed = consumed; message = out }
in_buffer (refused number) out = record { error = number; consumed = 0; message = out }

-- filling the buffer answers what the call has to answer
pub call-filled : (s buffer : List ℕ) (j : Judgement) (out : List ℕ) → record { judgement = j; buffer = out } ≡ filled s buffer → in_buffer j out ≡ packet_call s buffer
unfolding refusal acceptance
call-filled s buffer j out e = by (ltb (length buffer) PACKET_ROOM) (eqb (packet_error s) 0) refl refl
  where
    at : (f : Filling) → f ≡ filled s buffer → in_buffer j out ≡ in_buffer f.judgement f.buffer
    at f g = ap (λ (x : Filling). in_buffer x.judgement x.buffer) (e ∙ sym g)

    by : (small none : Bool) → ltb (length buffer) PACKET_ROOM ≡ small → eqb (packet_error s) 0 ≡ none → in_buffer j out ≡ packet_call s buffer
    by true none p q = at _ (filled-small s buffer (ltb-true _ _ p)) ∙ call-small s buffer (ltb-true _ _ p)
    by false false p q =
        at _ (filled-refused s buffer (ltb-false _ _ p) (packet_error s) refl (eqb-false _ _ q))
        ∙ call-judged s buffer (ltb-false _ _ p) (refused (packet_error s)) (copy_of []) (decoded-refused s (packet_error s) refl (eqb-false _ _ q))
    by false true p q =
        let g = eqb-true _ _ q in
        let f = good-front s g in
        let m = decoded_part (part_present s) in
        at _ (filled-good s buffer (ltb-false _ _ p) g)
        ∙ ap (λ (l : List ℕ). record { error = 0; consumed = length_byte s + 2; message = over l buffer })
        (sym (take_at m (replicate (PACKET_ROOM - length m) 0) (length_byte s - 4 + 3) (omega (arith, length-message s f, f.least))))
        ∙ call-judged s buffer (ltb-false _ _ p) (answered s) (copy_of m) (decoded-good s g)

-- a packet, with anything behind it, is answered by its size, and its message stands at the front of the buffer
pub call-complete : (s buffer : List ℕ) (type : ℕ) (payload : List ℕ) (consumed : ℕ) → PACKET_ROOM ≤ length buffer → StartsWith s type payload consumed
    → packet_call s buffer ≡ record { error = 0; consumed = consumed; message = over (message_of type payload) buffer }
call-complete s buffer type payload consumed h w =
    sym (call-judged s buffer h (accepted type (length payload) consumed) (copy_of (message_of type payload)) (sym (complete s type payload consumed w)))
    ∙ ap (λ (l : List ℕ). record { error = 0; consumed = consumed; message = over l buffer }) (take_at (message_of type payload) _ (length payload + 3) (length-message_of type payload))

module _ (s buffer : List ℕ) (e : (packet_call s buffer).error ≡ 0) where
  -- packet reading gives no error only where there is room and the packet is not refused
  pub passed : (PACKET_ROOM ≤ length buffer) × (packet_error s ≡ 0)
  unfolding refusal
  passed = by (ltb (length buffer) PACKET_ROOM) (eqb (packet_error s) 0) refl refl
    where
      none : (o : PacketOutcome) → o ≡ packet_call s buffer → o.error ≡ 0
      none o g = ap (λ (x : PacketOutcome). x.error) g ∙ e

      by : (less fine : Bool) → ltb (length buffer) PACKET_ROOM ≡ less → eqb (packet_error s) 0 ≡ fine → (PACKET_ROOM ≤ length buffer) × (packet_error s ≡ 0)
      by true fine p q = absurd (omega (arith, none _ (call-small s buffer (ltb-true _ _ p))))
      by false false p q =
          let z = eqb-false _ _ q in
          absurd (z (none _ (call-judged s buffer (ltb-false _ _ p) (refused (packet_error s)) (copy_of []) (decoded-refused s (packet_error s) refl z))))
      by false true p q = (ltb-false _ _ p, eqb-true _ _ q)
