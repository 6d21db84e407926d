-- What is written is read back, and what is read is written again.
use Prim.Native.Nat.{ℕ, ◌≤◌}
use mathlib.Core.Path.{◌≡◌, refl, sym, ap, ap₂, ◌∙◌}
use mathlib.Core.Bool.{Bool, true, false, not}
use mathlib.Core.List.{List, [], ◌∷◌, ◌++◌, append_assoc}
use native.Mathlib.Omega.{arith}
use lib.Dec.{eqb, ltb}
use lib.ListN.{length, take, drop}
use lib.Seq.{take_at}
use borrow.Author.Tests.{eqb-true, not-false}
use Rattle.wire.specs.Area.{over}
use Rattle.packet.specs.Cobs.{encoded_part}
use Rattle.packet.specs.TypeTable.{allowed}
use Rattle.packet.specs.Message.{message_of}
use Rattle.packet.specs.Packet.{PACKET_ROOM, IsPacket, StartsWith, accepted, copy_of, decoded}
use Rattle.packet_encode.specs.Encode.{Writing, written, packet_of, encode_error, encoded}
use Rattle.packet.proofs.CobsBlocks.{encodes, encodes-only}
use Rattle.packet.proofs.FrontTests.{pass}
use Rattle.packet_encode.proofs.EncodeStages.{encoded-good}
use Rattle.packet.proofs.Accepted.{part_length, complete, sound}

-- what is written for an allowed type and payload is a packet
pub writes-packet : (kind : ℕ) (payload : List ℕ) → allowed kind (length payload) ≡ true → IsPacket (packet_of kind payload) kind payload
writes-packet kind payload a = record { part = encoded_part (message_of kind payload); framed = refl; coded = encodes (message_of kind payload); allows = a }

-- and it is the only packet of that type and payload
pub only-packet : (bytes : List ℕ) (kind : ℕ) (payload : List ℕ) → IsPacket bytes kind payload → bytes ≡ packet_of kind payload
only-packet bytes kind payload p =
    p.framed ∙ ap (λ (part : List ℕ). 0 ∷ length part ∷ part)
    (encodes-only p.part (message_of kind payload) (omega (arith, part_length bytes kind payload p [])) p.coded)

-- a result that has written was given for no error
module _ (kind : ℕ) (payload buffer : List ℕ) (count : ℕ) (h : (encoded kind payload buffer).result ≡ written count) where
  no-refusal : encode_error kind payload buffer ≡ 0
  unfolding encoded
  no-refusal = by (eqb (encode_error kind payload buffer) 0) refl
    where
      by : (b : Bool) → eqb (encode_error kind payload buffer) 0 ≡ b → encode_error kind payload buffer ≡ 0
      by true e = eqb-true _ _ e
      by false e = let z : ◌≡◌ {A = ℕ} 0 1 = cc (rw e at h) in absurd (omega arith)

  allows : allowed kind (length payload) ≡ true
  unfolding encode_error
  allows =
      let p = pass (ltb (length buffer) PACKET_ROOM) 19 _ no-refusal in
      not-false (allowed kind (length payload)) (pass (not (allowed kind (length payload))) 7 _ p.1).0

  wrote : encoded kind payload buffer ≡ record { result = written (length (packet_of kind payload)); buffer = over (packet_of kind payload) buffer }
  unfolding encoded
  wrote = simp no-refusal

  -- encoded, decodes back: the buffer is read as the type and payload that were written, with the same size
  pub encoded-decodes : decoded (encoded kind payload buffer).buffer ≡ record { judgement = accepted kind (length payload) count; message = copy_of (message_of kind payload) }
  encoded-decodes =
      complete _ kind payload count record {
        bytes = packet_of kind payload;
        later = drop (length (packet_of kind payload)) buffer;
        split = ap (λ (w : Writing). w.buffer) wrote;
        packet = writes-packet kind payload allows;
        size = let q = sym h ∙ ap (λ (w : Writing). w.result) wrote in cc q;
      }

-- the payload in a message, with anything behind it
pub payload-in : (kind : ℕ) (payload rest : List ℕ) → take (length payload) (drop 2 (message_of kind payload ++ rest)) ≡ payload
payload-in kind payload rest = ap (take (length payload)) (append_assoc payload _ rest) ∙ take_at payload _ (length payload) refl

-- the type and payload of a packet at the front, written into any buffer with room, give the packet's bytes
pub packet-encodes : (s : List ℕ) (kind : ℕ) (payload : List ℕ) (consumed : ℕ) → StartsWith s kind payload consumed → (buffer : List ℕ) → PACKET_ROOM ≤ length buffer
    → encoded kind payload buffer ≡ record { result = written consumed; buffer = over (take consumed s) buffer }
packet-encodes s kind payload consumed w buffer room =
    let b = w.bytes in
    let o : b ≡ packet_of kind payload = only-packet b kind payload w.packet in
    let t : take consumed s ≡ b = ap (take consumed) w.split ∙ take_at b w.later consumed (sym w.size) in
    sym (encoded-good kind payload buffer room w.packet.allows)
    ∙ ap₂ (λ (c : ℕ) (l : List ℕ). record { result = written c; buffer = over l buffer }) (ap length (sym o) ∙ sym w.size) (sym (t ∙ o))

-- decoded, encodes back: what is accepted and written again, into any buffer with room, gives the same bytes
pub decoded-encodes : (s : List ℕ) (kind n consumed : ℕ) → (decoded s).judgement ≡ accepted kind n consumed → (buffer : List ℕ) → PACKET_ROOM ≤ length buffer
    → encoded kind (take n (drop 2 (decoded s).message)) buffer ≡ record { result = written consumed; buffer = over (take consumed s) buffer }
decoded-encodes s kind n consumed h buffer room =
    let w = sound s kind n consumed h in
    let p = w.payload in
    let e : take n (drop 2 (decoded s).message) ≡ p = ap (λ (l : List ℕ). take n (drop 2 l)) w.held
    ∙ ap (λ (k : ℕ). take k (drop 2 (copy_of (message_of kind p)))) (sym w.sized) ∙ payload-in kind p _ in
    ap (λ (q : List ℕ). encoded kind q buffer) e ∙ packet-encodes s kind p consumed w.starts buffer room
