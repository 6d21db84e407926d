-- Packets through the two packet calls: what is written is read back, and what is read is written again; and what packet writing writes and refuses.
use Prim.Native.Nat.{ℕ, ◌≤◌, ◌<◌}
use mathlib.Core.Path.{◌≡◌, refl, sym, ap, ◌∙◌}
use mathlib.Core.Bool.{Bool, true, false, cond}
use mathlib.Core.Logic.{◌↔◌}
use mathlib.Core.List.{List, ◌++◌}
use native.Mathlib.Omega.{arith}
use lib.Dec.{ltb}
use lib.ListN.{length, get_or, take, drop}
use lib.Seq.{take_at}
use borrow.Author.Tests.{lt-ltb, le-ltb, ltb-true, ltb-false}
use Rattle.wire.specs.Area.{over}
use Rattle.packet.specs.TypeTable.{allowed}
use Rattle.packet.specs.Message.{message_of}
use Rattle.packet.specs.Packet.{Reading, PACKET_ROOM, acceptance}
use Rattle.packet.proofs.DecodeStages.{decoded-good}
use Rattle.packet.proofs.Accepted.{sound}
use Rattle.packet_encode.specs.Encode.{packet_of, Writing, encoded}
use Rattle.packet_encode.proofs.EncodeStages.{encoded-small, encoded-unknown, encoded-good}
use Rattle.packet_encode.proofs.RoundTrips.{writes-packet, payload-in, packet-encodes}
use Rattle.cinder.specs.PacketCall.{packet_call}
use Rattle.cinder.specs.WriteCall.{WriteOutcome, wrote, not_written, packet_numbers, packet_write_call}
use Rattle.cinder.proofs.PacketAnswers.{call-complete, passed}
use Rattle.cinder.proofs.WriteAnswers.{beside}

-- what the call answers and leaves in the area, by what packet writing answers and leaves there
writing-numbers : (number : ℕ) (payload area : List ℕ) (w : Writing) → encoded number payload area ≡ w
    → packet_write_call number payload area ≡ beside (packet_numbers w.result) w.buffer
unfolding packet_write_call
writing-numbers number payload area w e = ap (λ (w : Writing). beside (packet_numbers w.result) w.buffer) e

module _ (number : ℕ) (payload area : List ℕ) where
  -- the three outcomes
  small : length area < PACKET_ROOM → packet_write_call number payload area ≡ beside (not_written 20) area
  small h = writing-numbers number payload area _ (sym (encoded-small number payload area h))

  unknown : PACKET_ROOM ≤ length area → allowed number (length payload) ≡ false → packet_write_call number payload area ≡ beside (not_written 8) area
  unknown h a = writing-numbers number payload area _ (sym (encoded-unknown number payload area h a))

  good : PACKET_ROOM ≤ length area → allowed number (length payload) ≡ true
      → packet_write_call number payload area ≡ beside (wrote (length (packet_of number payload))) (over (packet_of number payload) area)
  good h a = writing-numbers number payload area _ (sym (encoded-good number payload area h a))

  -- one of the three is given
  outcomes : {P : Type 0} → (length area < PACKET_ROOM → P) → (PACKET_ROOM ≤ length area → allowed number (length payload) ≡ false → P)
      → (PACKET_ROOM ≤ length area → allowed number (length payload) ≡ true → P) → P
  outcomes {P} f g k = by (ltb (length area) PACKET_ROOM) (allowed number (length payload)) refl refl
    where
      by : (less allows : Bool) → ltb (length area) PACKET_ROOM ≡ less → allowed number (length payload) ≡ allows → P
      by true allows p q = f (ltb-true _ _ p)
      by false false p q = g (ltb-false _ _ p) q
      by false true p q = k (ltb-false _ _ p) q

  error-of : (w : WriteOutcome) → packet_write_call number payload area ≡ w → (packet_write_call number payload area).answer.error ≡ w.answer.error
  error-of w e = ap (λ (w : WriteOutcome). w.answer.error) e

  -- LAW: packet writing gives no error exactly where the area has room for a packet and the type allows the payload's length
  pub written-exactly : ((packet_write_call number payload area).answer.error ≡ 0) ↔ ((PACKET_ROOM ≤ length area) × (allowed number (length payload) ≡ true))
  written-exactly = (to, λ x. error-of _ (good x.0 x.1))
    where
      to : (packet_write_call number payload area).answer.error ≡ 0 → (PACKET_ROOM ≤ length area) × (allowed number (length payload) ≡ true)
      to e = outcomes (λ h. absurd (omega (arith, error-of _ (small h), e))) (λ h a. absurd (omega (arith, error-of _ (unknown h a), e))) (λ h a. (h, a))

  -- LAW: packet writing that gives an error writes nothing and leaves the area as it was; the error is 20 where the area is too small, else 8
  pub write-refused : ((packet_write_call number payload area).answer.error ≡ 0 → ⊥)
      → packet_write_call number payload area ≡ record { answer = not_written (cond (ltb (length area) PACKET_ROOM) 20 8); area = area }
  write-refused e = outcomes (λ h. small h ∙ simp (lt-ltb _ _ h)) (λ h a. unknown h a ∙ simp (le-ltb _ _ h)) (λ h a. absurd (e (error-of _ (good h a))))

  -- LAW: the bytes that packet writing writes with no error, with anything behind them, packet reading takes whole, as that type and payload
  pub written_read : (later buffer : List ℕ) → (packet_write_call number payload area).answer.error ≡ 0 → PACKET_ROOM ≤ length buffer
      → let w = packet_write_call number payload area in
      packet_call (take w.answer.written w.area ++ later) buffer
      ≡ record { error = 0; consumed = w.answer.written; message = over (message_of number payload) buffer }
  written_read later buffer e room =
      let x = written-exactly.0 e in
      let p = packet_of number payload in
      let whole : take (length p) (over p area) ≡ p = take_at p (drop (length p) area) (length p) refl in
      rw (good x.0 x.1) (ap (λ (l : List ℕ). packet_call (l ++ later) buffer) whole ∙ call-complete (p ++ later) buffer number payload (length p) room
      record { bytes = p; later = later; split = refl; packet = writes-packet number payload x.1; size = refl })

module _ (type : ℕ) (payload buffer : List ℕ) where
  -- LAW: the message area's first byte is the type
  pub message-type : get_or (over (message_of type payload) buffer) 0 0 ≡ type
  message-type = refl

  -- LAW: the message area's second byte is the payload's length
  pub message-length : get_or (over (message_of type payload) buffer) 1 0 ≡ length payload
  message-length = refl

  -- LAW: the payload stands in the message area behind the first two bytes
  pub message-payload : take (length payload) (drop 2 (over (message_of type payload) buffer)) ≡ payload
  message-payload = payload-in type payload _

module _ (s buffer : List ℕ) (e : (packet_call s buffer).error ≡ 0) where
  -- LAW: what packet reading accepts, written again with the type, payload length and payload in the message area, gives the same bytes
  pub read-written : (area : List ℕ) → PACKET_ROOM ≤ length area
      → let m = (packet_call s buffer).message in
      packet_write_call (get_or m 0 0) (take (get_or m 1 0) (drop 2 m)) area
      ≡ record { answer = wrote (packet_call s buffer).consumed; area = over (take (packet_call s buffer).consumed s) area }
  unfolding acceptance
  read-written area room =
      let w = sound s _ _ _ (ap (λ (r : Reading). r.judgement) (sym (decoded-good s (passed s buffer e).1))) in
      rw (call-complete s buffer _ w.payload _ (passed s buffer e).0 w.starts, message-payload _ w.payload buffer)
      (writing-numbers _ w.payload area _ (packet-encodes s _ w.payload _ w.starts area room))
