-- What a line area and a packet area hold behind the moves that the functions make.
use Rattle.std.proofs.Common.{◌≡◌, ℕ, zero, suc, ◌+◌, ◌-◌, ◌≤◌, Bool, true, false, eqb, List, [], ◌∷◌, ◌++◌, length, get_or, take, drop, set, replicate, refl, ap, ◌∙◌, arith, length-append, length-take-le, take_all, eq-eqb, ne_eqb}
use native.Mathlib.Nat.{suc-sub-suc, sub-zero, zero-sub}
use lib.ListN.{length-replicate}
use lib.Seq.{take-append_seam, drop-append-add, sets-eq}
use Rattle.wire.specs.Area.{put_at}
use Rattle.wire.proofs.Buffers.{put-fits, sets-front}
use Rattle.packet.specs.Packet.{PACKET_ROOM, PART_MOST, length_byte, packet_error}
use Rattle.packet.proofs.FrontTests.{Front}
use Rattle.packet_line.specs.State.{inside, LINE_ROOM, INSIDE, line_of, begun, size_in, held_in, state_bytes}
use Rattle.packet_line.specs.Turn.{judged_turn}
use Rattle.packet_line.specs.Push.{outcome, outcome_of}
use Rattle.packet_line.specs.Steps.{IsClean, IsInside, delivered, turned, settled_answer, settled_state}
use Rattle.packet_line.proofs.States.{Begun, inside-means, length-state}

drop-replicate : (k n : ℕ) → drop k (replicate {A = ℕ} n 0) ≡ replicate (n - k) 0
drop-replicate zero n = rw sub-zero
drop-replicate (suc k) zero = rw zero-sub
drop-replicate (suc k) (suc n) = rw suc-sub-suc (drop-replicate k n)

pub length-line : (front : List ℕ) → length front ≤ LINE_ROOM → length (line_of front) ≡ LINE_ROOM
length-line front h =
    let n = LINE_ROOM - length front in
    omega (arith, length-append front (replicate {A = ℕ} n 0), length-replicate {A = ℕ} n 0)

-- bytes put behind the front of an area
pub line-put : (front xs : List ℕ) → length front + length xs ≤ LINE_ROOM → put_at (line_of front) (length front) xs ≡ line_of (front ++ xs)
line-put front xs h =
    let n = LINE_ROOM - length front in
    let zeros = replicate {A = ℕ} n 0 in
    let room : length front + length xs ≤ length (front ++ zeros) = omega (arith, length-append front zeros, length-replicate {A = ℕ} n 0) in
    let left : n - length xs ≡ LINE_ROOM - length (front ++ xs) = omega (arith, length-append front xs) in
    put-fits (front ++ zeros) (length front) xs room ∙ sets-eq xs (front ++ zeros) (length front) room
    ∙ rw (take-append_seam front zeros, drop-append-add front zeros (length xs), drop-replicate (length xs) n, left) refl

-- an area inside a part
pub record Inside (line : List ℕ) : Type 0 where
  pub part : Begun (size_in line) (held_in line)
  pub long : length line ≡ LINE_ROOM
  pub count : get_or line 1 0 ≡ length (held_in line)
  pub is : line ≡ line_of (INSIDE ∷ length (held_in line) ∷ begun (size_in line) (held_in line))

pub inside-area : (line : List ℕ) → IsInside line → Inside line
unfolding state_bytes
inside-area line i =
    let s = i.spelled in
    record {
      part = inside-means (size_in line) (held_in line) i.good;
      long = ap length s ∙ length-state (inside (size_in line) (held_in line)) i.good;
      count = ap (λ (l : List ℕ). get_or l 1 0) s;
      is = s;
    }

-- more bytes behind those held
pub held-put : (line xs : List ℕ) → Inside line → length (held_in line) + length xs ≤ size_in line
    → put_at line (4 + get_or line 1 0) xs ≡ line_of (INSIDE ∷ length (held_in line) ∷ begun (size_in line) (held_in line ++ xs))
held-put line xs i h =
    let front = INSIDE ∷ length (held_in line) ∷ begun (size_in line) (held_in line) in
    let e : 4 + get_or line 1 0 ≡ length front = omega (arith, i.count) in
    ap (λ (n : ℕ). put_at line n xs) e ∙ ap (λ (l : List ℕ). put_at l (length front) xs) i.is ∙ line-put front xs (omega (arith, i.part.most))

-- a packet that is all there stands in the area behind its phase and count
pub packet-held : (count size : ℕ) (part : List ℕ) → length part ≡ size → take (4 + size - 2) (drop 2 (line_of (INSIDE ∷ count ∷ begun size part))) ≡ begun size part
packet-held count size part h =
    let e : 4 + size - 2 ≡ length (begun size part) = omega arith in
    ap (λ (n : ℕ). take n (drop 2 (line_of (INSIDE ∷ count ∷ begun size part)))) e ∙ take-append_seam (begun size part) _

-- the judging of a packet
pub delivered-good : (bytes area : List ℕ) → PACKET_ROOM ≤ length area → Front bytes → packet_error bytes ≡ 0 → length_byte bytes ≤ PART_MOST
    → put_at area 0 (take (length_byte bytes + 2 - 0) (drop 0 bytes)) ≡ delivered bytes area
delivered-good bytes area room f e top =
    let z : length_byte bytes + 2 - 0 ≡ length_byte bytes + 2 = omega arith in
    let p = take (length_byte bytes + 2) bytes in
    let l : length p ≡ length_byte bytes + 2 = length-take-le _ bytes f.whole in
    rw (z, eq-eqb _ _ e) (put-fits area 0 p (omega arith) ∙ sets-front area p (omega arith))

pub delivered-none : (bytes area : List ℕ) → (packet_error bytes ≡ 0 → ⊥) → area ≡ delivered bytes area
delivered-none bytes area e = rw (ne_eqb _ _ e)

pub judged : (size n error : ℕ) (part area out : List ℕ) → length part ≡ size → error ≡ packet_error (begun size part) → out ≡ delivered (begun size part) area
    → outcome (settled_answer error) n (state_bytes (settled_state error)) out ≡ outcome_of (turned n (judged_turn (begun size part))) area
unfolding judged_turn
judged size n error part area out l e h = rw (h, e) (by (eqb (packet_error (begun size part)) 0) refl)
  where
    by : (b : Bool) → eqb (packet_error (begun size part)) 0 ≡ b
        → outcome (settled_answer (packet_error (begun size part))) n (state_bytes (settled_state (packet_error (begun size part)))) (delivered (begun size part) area)
        ≡ outcome_of (turned n (judged_turn (begun size part))) area
    by true t = rw (t, take_all (size + 2) (begun size part) (omega arith))
    by false t = rw t

-- a phase set where nothing is held
pub set-phase : (line : List ℕ) (phase : ℕ) → IsClean line → set line 0 phase ≡ line_of (phase ∷ [])
set-phase line phase c = ap (λ (l : List ℕ). set l 0 phase) c.zeros

pub clean-long : (line : List ℕ) → IsClean line → length line ≡ LINE_ROOM
clean-long line c = ap length c.zeros

pub clean-zeros : (line : List ℕ) (n : ℕ) → line ≡ replicate n 0 → n ≡ LINE_ROOM → IsClean line
clean-zeros line n e l = record { phase = 0; zeros = e ∙ ap (λ (k : ℕ). replicate k 0) l }
