-- What a line state's bytes spell, and which states a line reaches.
use Rattle.std.proofs.Common.{◌≡◌, ℕ, zero, suc, ◌+◌, ◌-◌, ◌<◌, ◌≤◌, true, false, ◌&&◌, ltb, leb, ◌↔◌, List, [], ◌∷◌, ◌++◌, length, replicate, sym, refl, ap, ◌∙◌, append-nil, arith, length-append, ltb-true, lt-ltb, le-leb, leb-true}
use native.Mathlib.Decide.{dec_le}
use lib.ListN.{length-replicate}
use lib.Seq.{take-append_seam, append_snoc}
use borrow.Author.Tests.{not-true}
use Rattle.wire.specs.Zero.{has_zero}
use Rattle.wire.specs.Number.{Bytes}
use Rattle.wire.proofs.Zeros.{zero-append}
use Rattle.wire.proofs.ByteLists.{take-bytes}
use Rattle.wire.proofs.Chains.{and_left, and_right}
use Rattle.wire.proofs.Equal.{same_refl, same-equal}
use Rattle.packet.specs.Packet.{PART_LEAST, PART_MOST, packet_error}
use Rattle.packet_line.specs.State.{State, fresh, skipping, opened, inside, LINE_ROOM, begun, state_bytes, is_state, state_in, is_line}
use Rattle.packet_line.specs.Turn.{nothing, refused, turn_of, judged_turn}
use Rattle.packet_line.specs.Findings.{state_after, line_state, Reached}
use Rattle.packet_line.proofs.Turns.{after-step, fresh-00, skipping-00, opened-00, inside-00, fresh-byte, skipping-byte}
use Rattle.packet_line.proofs.Turns.{opened-small, opened-length, inside-held, inside-last, judged-good, judged-refused}

-- inside a part L is 4 to 255, fewer than L bytes are held, and none of them is 00
pub record Begun (size : ℕ) (held : List ℕ) : Type 0 where
  pub least : PART_LEAST ≤ size
  pub most : size ≤ PART_MOST
  pub fewer : length held < size
  pub zeroless : has_zero held ≡ false

pub inside-means : (size : ℕ) (held : List ℕ) → is_state (inside size held) ≡ true → Begun size held
unfolding is_state
inside-means size held h =
    let abc = and_left _ _ h in
    let ab = and_left _ _ abc in
    record {
      least = leb-true _ _ (and_left _ _ ab);
      most = leb-true _ _ (and_right (leb PART_LEAST size) _ ab);
      fewer = ltb-true _ _ (and_right (leb PART_LEAST size && leb size PART_MOST) _ abc);
      zeroless = not-true _ (and_right (leb PART_LEAST size && leb size PART_MOST && ltb (length held) size) _ h);
    }

pub inside-state : (size : ℕ) (held : List ℕ) → Begun size held → is_state (inside size held) ≡ true
unfolding is_state
inside-state size held b = rw (le-leb _ _ b.least, le-leb _ _ b.most, lt-ltb _ _ b.fewer, b.zeroless)

-- the bytes of a state spell it
pub state-back : (st : State) → state_in (state_bytes st) ≡ st
unfolding state_bytes state_in
state-back fresh = refl
state-back skipping = refl
state-back opened = refl
state-back (inside size held) = ap (inside size) (take-append_seam held _)

-- they are a line state of their own length
pub line-of-state : (st : State) → is_state st ≡ true → is_line (state_bytes st) ≡ true
unfolding is_line
line-of-state st h = rw (state-back st, h, same_refl (state_bytes st))

pub state-of-line : (line : List ℕ) → is_line line ≡ true → (is_state (state_in line) ≡ true) × (line ≡ state_bytes (state_in line))
unfolding is_line
state-of-line line h = (and_left _ _ h, same-equal line (state_bytes (state_in line)) (and_right (is_state (state_in line)) _ h))

pub length-state : (st : State) → is_state st ≡ true → length (state_bytes st) ≡ LINE_ROOM
unfolding state_bytes
length-state fresh h = refl
length-state skipping h = refl
length-state opened h = refl
length-state (inside size held) h =
    let b = inside-means size held h in
    let n : ℕ = LINE_ROOM - suc (suc (suc (suc (length held)))) in
    omega (arith, length-append held (replicate n 0), length-replicate {A = ℕ} n 0)

-- one more encoded byte, not the last
pub zeroless-more : (held : List ℕ) (b : ℕ) → has_zero held ≡ false → (b ≡ 0 → ⊥) → has_zero (held ++ b ∷ []) ≡ false
unfolding has_zero
zeroless-more held zero z n = absurd (n refl)
zeroless-more held (suc b) z n = zero-append held (suc b ∷ []) ∙ rw z

pub begun_more : (size : ℕ) (held : List ℕ) (b : ℕ) → Begun size held → (b ≡ 0 → ⊥) → length held + 1 < size → Begun size (held ++ b ∷ [])
begun_more size held b g n l = record {
  least = g.least;
  most = g.most;
  fewer = omega (arith, length-append held (b ∷ []));
  zeroless = zeroless-more held b g.zeroless n;
}

-- the first state of a part
pub begun_first : (size : ℕ) → PART_LEAST ≤ size → size < 256 → Begun size []
unfolding has_zero
begun_first size l m = record { least = l; most = omega arith; fewer = omega arith; zeroless = refl }

judged-state : (s : List ℕ) → is_state (judged_turn s).next ≡ true
unfolding is_state
judged-state s = by (packet_error s) refl
  where
    by : (k : ℕ) → packet_error s ≡ k → is_state (judged_turn s).next ≡ true
    by zero e = rw (judged-good s e)
    by (suc k) e = rw (judged-refused s (suc k) e (λ z. omega arith))

-- every byte leaves a state that an area can spell
pub turn-state : (st : State) (b : ℕ) → is_state st ≡ true → b < 256 → is_state (turn_of st b).next ≡ true
unfolding is_state
turn-state fresh zero h l = rw fresh-00
turn-state fresh (suc b) h l = rw (fresh-byte (suc b) (λ e. omega arith))
turn-state skipping zero h l = rw skipping-00
turn-state skipping (suc b) h l = rw (skipping-byte (suc b) (λ e. omega arith))
turn-state opened zero h l = rw opened-00
turn-state opened (suc b) h l = by (dec_le PART_LEAST (suc b))
  where
    by : Dec (PART_LEAST ≤ suc b) → is_state (turn_of opened (suc b)).next ≡ true
    by (yes s) = rw (opened-length (suc b) (λ e. omega arith) s) (inside-state (suc b) [] (begun_first (suc b) s l))
    by (no s) = rw (opened-small (suc b) (λ e. omega arith) (omega arith))
turn-state (inside size held) zero h l = rw (inside-00 size held)
turn-state (inside size held) (suc b) h l = by (dec_le size (length held + 1))
  where
    g : Begun size held
    g = inside-means size held h

    by : Dec (size ≤ length held + 1) → is_state (turn_of (inside size held) (suc b)).next ≡ true
    by (yes s) = rw (inside-last (suc b) (λ e. omega arith) size held s) (judged-state (begun size (held ++ suc b ∷ [])))
    by (no s) =
        let more : length held + 1 < size = omega arith in
        rw (inside-held (suc b) (λ e. omega arith) size held more) (inside-state size (held ++ suc b ∷ []) (begun_more size held (suc b) g (λ e. omega arith) more))

pub after-state : (st : State) (bytes : List ℕ) → is_state st ≡ true → Bytes bytes → is_state (state_after st bytes) ≡ true
unfolding state_after
after-state st [] h k = h
after-state st (b ∷ bytes) h k = after-state (turn_of st b).next bytes (turn-state st b h k.0) k.1

pub line-good : (line : List ℕ) → Bytes line → is_state (line_state line) ≡ true
unfolding is_state
line-good line k = after-state fresh line refl k

-- a part as far as it has come
held_after : (size : ℕ) (held xs : List ℕ) → has_zero xs ≡ false → length held + length xs < size → state_after (inside size held) xs ≡ inside size (held ++ xs)
unfolding state_after has_zero
held_after size held [] h l = ap (inside size) (sym (append-nil held))
held_after size held (zero ∷ xs) h l = absurd (let e : ◌≡◌ {A = ℕ} 0 1 = cc in omega arith)
held_after size held (suc b ∷ xs) h l =
    let more : length held + 1 < size = omega arith in
    after-step (inside size held) (inside size (held ++ suc b ∷ [])) nothing (suc b) xs (inside-held (suc b) (λ e. omega arith) size held more)
    ∙ held_after size (held ++ suc b ∷ []) xs h (omega (arith, length-append held (suc b ∷ []))) ∙ ap (inside size) (append_snoc held (suc b) xs)

part-after : (size : ℕ) (held : List ℕ) → Begun size held → line_state (begun size held) ≡ inside size held
part-after size held g =
    let l = g.least in
    after-step fresh opened nothing 0 (size ∷ held) fresh-00
    ∙ after-step opened (inside size []) nothing size held (opened-length size (λ e. omega arith) l)
    ∙ held_after size [] held g.zeroless (omega (arith, g.fewer))

-- a line that leaves a state: nothing, a byte that is no 00, a 00, or the part as far as it has come
line-to : (st : State) → is_state st ≡ true → Bytes (state_bytes st) → Reached (state_bytes st)
unfolding state_after state_bytes
line-to fresh h k = record { line = []; bytes = tt; left = refl }
line-to skipping h k =
    let e = after-step fresh skipping (refused 2) 1 [] (fresh-byte 1 (λ e. omega arith)) in
    record { line = 1 ∷ []; bytes = (omega arith, tt); left = ap state_bytes (sym e) }
line-to opened h k = record { line = 0 ∷ []; bytes = (omega arith, tt); left = ap state_bytes (sym (after-step fresh opened nothing 0 [] fresh-00)) }
line-to (inside size held) h k =
    let zeros : List ℕ = replicate (LINE_ROOM - suc (suc (suc (suc (length held))))) 0 in
    let g = inside-means size held h in
    record {
      line = begun size held;
      bytes = (omega arith, (omega (arith, g.most), rw (take-append_seam held zeros) at (take-bytes (length held) (held ++ zeros) k.1.1.1.1)));
      left = ap state_bytes (sym (part-after size held g));
    }

-- "a line state that no line can reach is 9": an area is a line state exactly where a line leaves it
pub reached : (area : List ℕ) → Bytes area → (is_line area ≡ true) ↔ Reached area
reached area k = (to, from)
  where
    to : is_line area ≡ true → Reached area
    to h = let w = state-of-line area h in rw w.1 (line-to (state_in area) w.0 (rw w.1 at k))

    from : Reached area → is_line area ≡ true
    from r = rw r.left (line-of-state (line_state r.line) (line-good r.line r.bytes))
