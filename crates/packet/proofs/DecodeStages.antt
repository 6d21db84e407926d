-- The stages of reading: where each refusal ends it, and what a buffer holds of an accepted packet.
use Prim.Native.Nat.{ℕ, zero, suc, ◌-◌, ◌≤◌, ◌<◌}
use mathlib.Core.Path.{◌≡◌, refl, sym, ap, ◌∙◌}
use mathlib.Core.Bool.{Bool, true, false}
use mathlib.Core.List.{List, ◌++◌}
use native.Mathlib.Nat.{suc-sub-suc, sub-zero, zero-sub}
use native.Mathlib.Omega.{arith}
use lib.Dec.{eqb}
use lib.ListN.{length, get_or, drop, replicate, length-drop, length-replicate, get_or-append}
use lib.Seq.{length-take-le}
use borrow.Author.Tests.{ne_eqb, lt-ltb, le-ltb, eqb-true, eqb-false}
use Rattle.wire.specs.Area.{over}
use Rattle.packet.specs.Cobs.{lacking, decoded_part}
use Rattle.packet.specs.Message.{message_error}
use Rattle.packet.specs.Packet.{PACKET_ROOM, Judgement, refused, Reading, Filling, front_error, packet_error, length_byte, part_present, copy_of, refusal, answered, acceptance, decoded, fill_error, filled}
use Rattle.packet.proofs.Walks.{length-plain}
use Rattle.packet.proofs.FrontTests.{Front, front-passed, pass_on}

pub length-decoded_part : (e : List ℕ) → length (decoded_part e) ≡ length e - 1
length-decoded_part e = simp (length-drop, length-plain)

drop-replicate : (k n : ℕ) → drop k (replicate {A = ℕ} n 0) ≡ replicate (n - k) 0
drop-replicate zero n = rw sub-zero
drop-replicate (suc k) zero = rw zero-sub
drop-replicate (suc k) (suc n) = rw suc-sub-suc (drop-replicate k n)

module _ (s : List ℕ) where
  pub decoded-refused : (n : ℕ) → packet_error s ≡ n → (n ≡ 0 → ⊥) → refusal n ≡ decoded s
  unfolding decoded
  decoded-refused n e z = simp (e, ne_eqb _ _ z)

  pub decoded-good : packet_error s ≡ 0 → acceptance s ≡ decoded s
  unfolding decoded
  decoded-good e = simp e

  pub error-front : (n : ℕ) → n ≡ front_error s → (n ≡ 0 → ⊥) → packet_error s ≡ n
  unfolding packet_error
  error-front n e z = simp (← e, ne_eqb _ _ z)

  pub good-front : packet_error s ≡ 0 → Front s
  unfolding packet_error
  good-front e = front-passed s (pass_on (front_error s) _ e).0

  module _ (f : front_error s ≡ 0) where
    pub error-lack : (lacking 0 (part_present s) ≡ 0 → ⊥) → packet_error s ≡ 5
    unfolding packet_error
    error-lack z = simp (f, ne_eqb _ _ z)

    pub error-message : lacking 0 (part_present s) ≡ 0 → packet_error s ≡ message_error (decoded_part (part_present s))
    unfolding packet_error
    error-message z = simp (f, z)

  module _ (h : Front s) where
    pub length_part : length (part_present s) ≡ length_byte s
    length_part = length-take-le (length_byte s) (drop 2 s) (omega (arith, length-drop 2 s, h.whole))

    pub length-message : length (decoded_part (part_present s)) ≡ length_byte s - 1
    length-message = length-decoded_part (part_present s) ∙ ap (λ (n : ℕ). n - 1) length_part

    -- the buffer behind a message that goes to its front
    pub over-message : (buffer out : List ℕ) → out ≡ decoded_part (part_present s) ++ drop (length (part_present s) - 1) buffer → out ≡ over (decoded_part (part_present s)) buffer
    over-message buffer out e = e ∙ ap (λ (n : ℕ). decoded_part (part_present s) ++ drop n buffer) (sym (length-decoded_part (part_present s)))

    pub first-over : (buffer : List ℕ) → get_or (over (decoded_part (part_present s)) buffer) 0 0 ≡ get_or (decoded_part (part_present s)) 0 0
    first-over buffer = get_or-append (decoded_part (part_present s)) _ 0 0 (omega (arith, length-message, h.least))

-- the outcomes of filling a buffer
module _ (s buffer : List ℕ) where
  pub filled-small : length buffer < PACKET_ROOM → record { judgement = refused 20; buffer = buffer } ≡ filled s buffer
  unfolding filled fill_error
  filled-small h = simp (lt-ltb _ _ h)

  module _ (h : PACKET_ROOM ≤ length buffer) where
    error-room : fill_error s buffer ≡ packet_error s
    unfolding fill_error
    error-room = simp (le-ltb _ _ h)

    pub filled-refused : (n : ℕ) → packet_error s ≡ n → (n ≡ 0 → ⊥) → record { judgement = refused n; buffer = buffer } ≡ filled s buffer
    unfolding filled
    filled-refused n e z = simp (error-room, e, ne_eqb _ _ z)

    pub filled-good : packet_error s ≡ 0 → record { judgement = answered s; buffer = over (decoded_part (part_present s)) buffer } ≡ filled s buffer
    unfolding filled
    filled-good e = simp (error-room, e)

-- a buffer of zeros is the working copy
pub over_zeros : (message : List ℕ) → over message (replicate PACKET_ROOM 0) ≡ copy_of message
over_zeros message = ap (λ (l : List ℕ). message ++ l) (drop-replicate (length message) PACKET_ROOM)

-- filling a buffer and reading beside a working copy judge alike
pub fill-means : (s : List ℕ) (j : Judgement) (out : List ℕ) → record { judgement = j; buffer = out } ≡ filled s (replicate PACKET_ROOM 0) → record { judgement = j; message = out } ≡ decoded s
unfolding refusal acceptance
fill-means s j out e = by (eqb (packet_error s) 0) refl
  where
    room : PACKET_ROOM ≤ length (replicate {A = ℕ} PACKET_ROOM 0)
    room = omega (arith, length-replicate {A = ℕ} PACKET_ROOM 0)

    reading : Filling → Reading
    reading f = record { judgement = f.judgement; message = f.buffer }

    by : (b : Bool) → eqb (packet_error s) 0 ≡ b → record { judgement = j; message = out } ≡ decoded s
    by true t =
        ap reading (e ∙ sym (filled-good s (replicate PACKET_ROOM 0) room (eqb-true _ _ t)))
        ∙ ap (λ (l : List ℕ). record { judgement = answered s; message = l }) (over_zeros (decoded_part (part_present s))) ∙ decoded-good s (eqb-true _ _ t)
    by false t =
        ap reading (e ∙ sym (filled-refused s (replicate PACKET_ROOM 0) room (packet_error s) refl (eqb-false _ _ t)))
        ∙ decoded-refused s (packet_error s) refl (eqb-false _ _ t)
