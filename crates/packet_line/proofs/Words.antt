-- The ticket's sentences on stretches of bytes and whole packets; Turns.antt has those on single bytes.
use Rattle.std.proofs.Common.{◌≡◌, ℕ, zero, suc, ◌+◌, ◌-◌, ◌<◌, false, List, [], ◌∷◌, take, sym, refl, ap, ◌∙◌, arith}
use Rattle.wire.specs.Zero.{has_zero}
use Rattle.packet.specs.Packet.{length_byte, packet_error}
use Rattle.packet_line.specs.State.{State, fresh, skipping, opened, inside}
use Rattle.packet_line.specs.Turn.{Finding, nothing, good, refused, Turn, turn, turn_of}
use Rattle.packet_line.specs.Findings.{Found, found, noted, findings, state_after}
use Rattle.packet_line.specs.Push.{Taken, taken, taken_from}
use Rattle.packet_line.proofs.Turns.{fresh-00, skipping-00, opened-00, inside-00, fresh-byte, skipping-byte, after-step, found-step}
use Rattle.packet_line.proofs.Taking.{whole-good, whole-bad}
use Rattle.packet_line.proofs.Calls.{call-finds, call-leaves}

-- what bytes find from a state on, and the state behind them
pub record Gives (place : ℕ) (st : State) (bytes : List ℕ) (fs : List Found) (next : State) : Type 0 where
  pub finds : findings place st bytes ≡ fs
  pub leaves : state_after st bytes ≡ next

-- "A 00 always starts a packet anew"
pub anew : (st : State) → (turn_of st 0).next ≡ opened
anew fresh = ap (λ (t : Turn). t.next) fresh-00
anew skipping = ap (λ (t : Turn). t.next) skipping-00
anew opened = ap (λ (t : Turn). t.next) opened-00
anew (inside size held) = ap (λ (t : Turn). t.next) (inside-00 size held)

-- so what stands behind a 00 is found as at the start of a line, whatever came before it
pub behind-00 : (place : ℕ) (st next : State) (bytes : List ℕ) (fs : List Found) → Gives place fresh (0 ∷ bytes) fs next
    → Gives place st (0 ∷ bytes) (noted place (turn_of st 0).finding fs) next
behind-00 place st next bytes fs w =
    let t : turn_of st 0 ≡ turn (turn_of st 0).finding opened = ap (turn (turn_of st 0).finding) (anew st) in
    record {
      finds = found-step st opened (turn_of st 0).finding 0 bytes t place
          ∙ ap (noted place (turn_of st 0).finding) (sym (found-step fresh opened nothing 0 bytes fresh-00 place) ∙ w.finds);
      leaves = after-step st opened (turn_of st 0).finding 0 bytes t ∙ sym (after-step fresh opened nothing 0 bytes fresh-00) ∙ w.leaves;
    }

-- "a stretch after any other refusal gives nothing"
pub stretch-skipped : (place : ℕ) (xs : List ℕ) → has_zero xs ≡ false → Gives place skipping xs [] skipping
unfolding has_zero findings state_after
stretch-skipped place [] h = record { finds = refl; leaves = refl }
stretch-skipped place (zero ∷ xs) h = absurd (let e : ◌≡◌ {A = ℕ} 0 1 = cc in omega arith)
stretch-skipped place (suc b ∷ xs) h =
    let t = skipping-byte (suc b) (λ e. omega arith) in
    let w = stretch-skipped (suc place) xs h in
    record { finds = found-step skipping skipping nothing (suc b) xs t place ∙ w.finds; leaves = after-step skipping skipping nothing (suc b) xs t ∙ w.leaves }

-- "Non-00 bytes at the start of a line or straight after a good packet give one 2 for the whole stretch, at its first byte"
pub stretch-refused : (place b : ℕ) (xs : List ℕ) → (b ≡ 0 → ⊥) → has_zero xs ≡ false → Gives place fresh (b ∷ xs) (found place (refused 2) ∷ []) skipping
stretch-refused place b xs n h =
    let t = fresh-byte b n in
    let w = stretch-skipped (suc place) xs h in
    record {
      finds = found-step fresh skipping (refused 2) b xs t place ∙ ap (noted place (refused 2)) w.finds;
      leaves = after-step fresh skipping (refused 2) b xs t ∙ w.leaves;
    }

-- what a call takes and finds
taken-gives : (place : ℕ) (st next : State) (s : List ℕ) (f : Finding) (n : ℕ) → taken_from st s ≡ taken f n next → Gives place st (take n s) (noted (place + n - 1) f []) next
taken-gives place st next s f n e =
    let c : (taken_from st s).consumed ≡ n = ap (λ (t : Taken). t.consumed) e in
    record {
      finds = ap (λ (k : ℕ). findings place st (take k s)) (sym c) ∙ call-finds place st s
          ∙ ap (λ (t : Taken). noted (place + t.consumed - 1) t.finding []) e;
      leaves = ap (λ (k : ℕ). state_after st (take k s)) (sym c) ∙ call-leaves st s ∙ ap (λ (t : Taken). t.state) e;
    }

-- a packet that the packet reader accepts, at its last byte; behind it the line is as at its start. By behind-00 the same in every state
pub packet-given : (place : ℕ) (s : List ℕ) → packet_error s ≡ 0
    → Gives place fresh (take (length_byte s + 2) s) (found (place + length_byte s + 1) (good (take (length_byte s + 2) s)) ∷ []) fresh
packet-given place s e =
    let at : place + (length_byte s + 2) - 1 ≡ place + length_byte s + 1 = omega arith in
    rw at at (taken-gives place fresh fresh s (good (take (length_byte s + 2) s)) (length_byte s + 2) (whole-good s e))

-- "5 to 8 come once all L bytes are in"
pub packet-refused : (place : ℕ) (s : List ℕ) (number : ℕ) → packet_error s ≡ number → 4 < number
    → Gives place fresh (take (length_byte s + 2) s) (found (place + length_byte s + 1) (refused number) ∷ []) skipping
packet-refused place s number e l =
    let at : place + (length_byte s + 2) - 1 ≡ place + length_byte s + 1 = omega arith in
    rw at at (taken-gives place fresh skipping s (refused number) (length_byte s + 2) (whole-bad s number e l))
