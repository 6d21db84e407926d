-- The payload of a packet of bytes is bytes.
use Prim.Native.Nat.{ℕ, zero, suc, ◌-◌}
use mathlib.Core.Path.{◌≡◌, refl, ap, ◌∙◌}
use mathlib.Core.Bool.{Bool, true, false, cond}
use mathlib.Core.List.{List, [], ◌∷◌, append_assoc}
use native.Mathlib.Omega.{arith}
use lib.Dec.{eqb}
use lib.ListN.{length, take, drop, replicate}
use lib.Seq.{take_at}
use Rattle.wire.specs.Number.{Bytes}
use Rattle.wire.proofs.ByteLists.{drop-bytes, take-bytes, append-bytes, zero-bytes}
use Rattle.packet.specs.Cobs.{plain, decoded_part}
use Rattle.packet.specs.Message.{message_of}
use Rattle.packet.specs.Packet.{StartsWith, Reading, PACKET_ROOM, copy_of, length_byte, part_present, packet_error, refusal, acceptance, decoded}
use Rattle.packet.proofs.Accepted.{complete}
use Rattle.hub.specs.Receive.{payload_in}

plain-bytes : (left : ℕ) (part : List ℕ) → Bytes part → Bytes (plain left part)
unfolding plain
plain-bytes left [] h = tt
plain-bytes zero (code ∷ part) h = (omega arith, plain-bytes _ part h.1)
plain-bytes (suc left) (b ∷ part) h = (h.0, plain-bytes left part h.1)

copy-bytes : (s : List ℕ) → Bytes s → Bytes (copy_of s)
copy-bytes s h = append-bytes s (replicate (PACKET_ROOM - length s) 0) h (zero-bytes (PACKET_ROOM - length s))

message-bytes : (s : List ℕ) → Bytes s → Bytes (decoded s).message
unfolding decoded refusal acceptance
message-bytes s h = go (eqb (packet_error s) 0)
  where
    go : (b : Bool) → Bytes (cond {A = Reading} b (acceptance s) (refusal (packet_error s))).message
    go true =
        copy-bytes (decoded_part (part_present s))
        (drop-bytes 1 (plain 0 (part_present s)) (plain-bytes 0 (part_present s) (take-bytes (length_byte s) (drop 2 s) (drop-bytes 2 s h))))
    go false = copy-bytes [] tt

-- any length of payload in the working copy
pub payload-bytes : (s : List ℕ) → Bytes s → (n : ℕ) → Bytes (payload_in (decoded s).message n)
payload-bytes s h n = take-bytes n (drop 2 (decoded s).message) (drop-bytes 2 (decoded s).message (message-bytes s h))

-- the payload is found in the working copy of its message
pub payload-in : (type : ℕ) (payload : List ℕ) → payload_in (copy_of (message_of type payload)) (length payload) ≡ payload
payload-in type payload = ap (take (length payload)) (append_assoc payload _ _) ∙ take_at payload _ (length payload) refl

-- LAW: the payload of a packet at the front of bytes is bytes
pub starts-bytes : (s : List ℕ) (type : ℕ) (payload : List ℕ) (consumed : ℕ) → StartsWith s type payload consumed → Bytes s → Bytes payload
starts-bytes s type payload consumed w h =
    let e : payload_in (decoded s).message (length payload) ≡ payload =
    ap (λ (r : Reading). payload_in r.message (length payload)) (complete s type payload consumed w) ∙ payload-in type payload in
    rw e at (payload-bytes s h (length payload))
