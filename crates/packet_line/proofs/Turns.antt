-- The ticket's sentences on single bytes: what each byte decides in each state, and the state behind it.
use Rattle.std.proofs.Common.{◌≡◌, ℕ, suc, ◌+◌, ◌<◌, ◌≤◌, List, [], ◌∷◌, ◌++◌, length, refl, ap, le-ltb, lt-ltb, eq-eqb, ne_eqb}
use Rattle.packet.specs.Packet.{PART_LEAST, packet_error}
use Rattle.packet_line.specs.State.{State, fresh, skipping, opened, inside, begun}
use Rattle.packet_line.specs.Turn.{Finding, nothing, good, refused, Turn, turn, length_turn, judged_turn, part_turn, turn_of}
use Rattle.packet_line.specs.Findings.{noted, findings, state_after}

-- "A 00 always starts a packet anew"
pub fresh-00 : turn_of fresh 0 ≡ turn nothing opened
unfolding turn_of
fresh-00 = refl

pub skipping-00 : turn_of skipping 0 ≡ turn nothing opened
unfolding turn_of
skipping-00 = refl

-- "as length byte it is 3"
pub opened-00 : turn_of opened 0 ≡ turn (refused 3) opened
unfolding turn_of length_turn
opened-00 = refl

-- "inside an encoded part it is 4"
pub inside-00 : (size : ℕ) (held : List ℕ) → turn_of (inside size held) 0 ≡ turn (refused 4) opened
unfolding turn_of part_turn
inside-00 size held = refl

-- any other byte
module _ (b : ℕ) (n : b ≡ 0 → ⊥) where
  -- "Non-00 bytes at the start of a line or straight after a good packet give one 2 for the whole stretch, at its first byte"
  pub fresh-byte : turn_of fresh b ≡ turn (refused 2) skipping
  unfolding turn_of
  fresh-byte = rw (ne_eqb b 0 n)

  -- "a stretch after any other refusal gives nothing"
  pub skipping-byte : turn_of skipping b ≡ turn nothing skipping
  unfolding turn_of
  skipping-byte = rw (ne_eqb b 0 n)

  -- "Length 1 to 3 is 3; then bytes are skipped to the next 00."
  pub opened-small : b < PART_LEAST → turn_of opened b ≡ turn (refused 3) skipping
  unfolding turn_of length_turn
  opened-small l = rw (ne_eqb b 0 n, lt-ltb b PART_LEAST l)

  -- a length byte that is none of these
  pub opened-length : PART_LEAST ≤ b → turn_of opened b ≡ turn nothing (inside b [])
  unfolding turn_of length_turn
  opened-length l = rw (ne_eqb b 0 n, le-ltb b PART_LEAST l)

  -- an encoded byte that is not the last, and the last
  pub inside-held : (size : ℕ) (held : List ℕ) → length held + 1 < size → turn_of (inside size held) b ≡ turn nothing (inside size (held ++ b ∷ []))
  unfolding turn_of part_turn
  inside-held size held l = rw (ne_eqb b 0 n, lt-ltb (length held + 1) size l)

  pub inside-last : (size : ℕ) (held : List ℕ) → size ≤ length held + 1 → turn_of (inside size held) b ≡ judged_turn (begun size (held ++ b ∷ []))
  unfolding turn_of part_turn
  inside-last size held l = rw (ne_eqb b 0 n, le-ltb (length held + 1) size l)

-- "5 to 8 come once all L bytes are in", and a good packet
pub judged-good : (s : List ℕ) → packet_error s ≡ 0 → judged_turn s ≡ turn (good s) fresh
unfolding judged_turn
judged-good s e = rw (eq-eqb (packet_error s) 0 e)

pub judged-refused : (s : List ℕ) (number : ℕ) → packet_error s ≡ number → (number ≡ 0 → ⊥) → judged_turn s ≡ turn (refused number) skipping
unfolding judged_turn
judged-refused s number e n = rw (e, ne_eqb number 0 n)

-- one byte, and the rest
module _ (st next : State) (finding : Finding) (b : ℕ) (bytes : List ℕ) (e : turn_of st b ≡ turn finding next) where
  pub after-step : state_after st (b ∷ bytes) ≡ state_after next bytes
  unfolding state_after
  after-step = ap (λ (t : Turn). state_after t.next bytes) e

  pub found-step : (place : ℕ) → findings place st (b ∷ bytes) ≡ noted place finding (findings (suc place) next bytes)
  unfolding findings
  found-step place = ap (λ (t : Turn). noted place t.finding (findings (suc place) t.next bytes)) e
