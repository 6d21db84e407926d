-- What the packet reader says of a packet as far as it has come; each finding is that.
use Rattle.std.proofs.Common.{◌≡◌, ℕ, zero, suc, ◌+◌, ◌-◌, ◌<◌, ◌≤◌, Bool, true, false, ◌||◌, List, [], ◌∷◌, ◌++◌, length, take, sym, refl, ap, ◌∙◌, ⊎_elim, arith, length-append, take_all, eq-eqb, ne_eqb}
use native.Mathlib.Decide.{dec_le}
use lib.Seq.{take-append-add}
use Rattle.wire.specs.Zero.{has_zero}
use Rattle.wire.proofs.Zeros.{zero-append}
use Rattle.packet.specs.Packet.{PART_LEAST, length_byte, packet_error}
use Rattle.packet.proofs.FrontTests.{Front, front-none, front-mark, front-one, front-size, front-zero, front-short}
use Rattle.packet.proofs.DecodeStages.{error-front, good-front}
use Rattle.packet.proofs.Stands.{error-most, late}
use Rattle.packet_line.specs.State.{State, fresh, skipping, opened, inside, begun, is_state}
use Rattle.packet_line.specs.Turn.{Finding, nothing, good, refused, Turn, turn, turn_of, judged_turn}
use Rattle.packet_line.specs.Verdict.{so_far, verdict}
use Rattle.packet_line.proofs.Turns.{fresh-00, skipping-00, opened-00, inside-00, fresh-byte, skipping-byte}
use Rattle.packet_line.proofs.Turns.{opened-small, opened-length, inside-held, inside-last, judged-good, judged-refused}
use Rattle.packet_line.proofs.States.{Begun, inside-means, zeroless-more, begun_more}

-- none of a packet's bytes, and its 00 alone
pub error-none : packet_error [] ≡ 1
error-none = error-front [] 1 (sym (front-none [] refl)) (λ e. omega arith)

pub error-one : packet_error (0 ∷ []) ≡ 1
error-one = error-front (0 ∷ []) 1 (sym (front-one (0 ∷ []) (λ e. omega arith) refl refl)) (λ e. omega arith)

-- a first byte that is no 00
pub error-mark : (b : ℕ) (bytes : List ℕ) → (b ≡ 0 → ⊥) → packet_error (b ∷ bytes) ≡ 2
error-mark b bytes n = error-front (b ∷ bytes) 2 (sym (front-mark (b ∷ bytes) (λ e. omega arith) n)) (λ e. omega arith)

zeroless-none : has_zero [] ≡ false
unfolding has_zero
zeroless-none = refl

or-true : (b : Bool) → (b || true) ≡ true
or-true true = refl
or-true false = refl

module _ (size : ℕ) where
  two : (bytes : List ℕ) → length (0 ∷ size ∷ bytes) ≡ 1 → ⊥
  two bytes e = omega arith

  -- a length byte below 4
  pub error-size : (bytes : List ℕ) → size < PART_LEAST → packet_error (0 ∷ size ∷ bytes) ≡ 3
  error-size bytes l =
      error-front (0 ∷ size ∷ bytes) 3 (sym (front-size (0 ∷ size ∷ bytes) (λ e. omega arith) refl (two bytes) l)) (λ e. omega arith)

  -- a 00 among the encoded bytes
  pub error-zero : (held bytes : List ℕ) → PART_LEAST ≤ size → length held < size → packet_error (begun size (held ++ 0 ∷ bytes)) ≡ 4
  unfolding has_zero
  error-zero held bytes l m =
      let s : List ℕ = begun size (held ++ 0 ∷ bytes) in
      let k = size - length held - 1 in
      let n : size ≡ length held + suc k = omega arith in
      let z : has_zero (take size (held ++ 0 ∷ bytes)) ≡ true =
      ap (λ (n : ℕ). has_zero (take n (held ++ 0 ∷ bytes))) n ∙ ap has_zero (take-append-add held (0 ∷ bytes) (suc k))
      ∙ zero-append held (0 ∷ take k bytes) ∙ or-true (has_zero held) in
      error-front s 4 (sym (front-zero s (λ e. omega arith) refl (two (held ++ 0 ∷ bytes)) l z)) (λ e. omega arith)

  -- fewer encoded bytes than the length byte says
  error-begun : (held : List ℕ) → PART_LEAST ≤ size → length held < size → has_zero held ≡ false → packet_error (begun size held) ≡ 1
  error-begun held l m z =
      let s : List ℕ = begun size held in
      let none : has_zero (take size held) ≡ false = ap has_zero (take_all size held (omega arith)) ∙ z in
      error-front s 1 (sym (front-short s (λ e. omega arith) refl (two held) l none (omega arith))) (λ e. omega arith)

  pub error-short : (held : List ℕ) → Begun size held → packet_error (begun size held) ≡ 1
  error-short held g = error-begun held g.least g.fewer g.zeroless

  -- all of them
  pub front-whole : (part : List ℕ) → PART_LEAST ≤ size → length part ≡ size → has_zero part ≡ false → Front (begun size part)
  front-whole part l e z = record {
    mark = refl;
    least = l;
    whole = omega arith;
    zeroless = ap has_zero (take_all size part (omega arith)) ∙ z;
  }

-- the verdict for each number
verdict-good : (s : List ℕ) → packet_error s ≡ 0 → verdict s ≡ good s
unfolding verdict
verdict-good s e = rw (eq-eqb (packet_error s) 0 e)

verdict-more : (s : List ℕ) → packet_error s ≡ 1 → verdict s ≡ nothing
unfolding verdict
verdict-more s e = rw e

verdict-refused : (s : List ℕ) (number : ℕ) → packet_error s ≡ number → 2 ≤ number → verdict s ≡ refused number
unfolding verdict
verdict-refused s number e l = rw (e, ne_eqb number 0 (λ z. omega arith), ne_eqb number 1 (λ z. omega arith))

-- a turn whose finding is known
says : (st next : State) (b : ℕ) (f : Finding) (s : List ℕ) → turn_of st b ≡ turn f next → verdict s ≡ f → (turn_of st b).finding ≡ verdict s
says st next b f s e v = ap (λ (t : Turn). t.finding) e ∙ sym v

says-judged : (st : State) (b : ℕ) (s : List ℕ) → turn_of st b ≡ judged_turn s → Front s → (turn_of st b).finding ≡ verdict s
says-judged st b s e f = by (packet_error s) refl
  where
    by : (k : ℕ) → packet_error s ≡ k → (turn_of st b).finding ≡ verdict s
    by zero z = says st fresh b (good s) s (e ∙ judged-good s z) (verdict-good s z)
    by (suc k) z =
        let l : 5 ≤ suc k = ⊎_elim (λ (q : packet_error s ≡ 0). absurd (omega arith)) (λ (q : 5 ≤ packet_error s). omega arith) (late s f) in
        says st skipping b (refused (suc k)) s (e ∙ judged-refused s (suc k) z (λ q. omega arith)) (verdict-refused s (suc k) z (omega arith))

-- where bytes are not skipped, a byte's finding is what the packet reader says of the packet up to that byte
pub reader-says : (st : State) (b : ℕ) → is_state st ≡ true → (st ≡ skipping → ⊥) → (turn_of st b).finding ≡ verdict (so_far st ++ b ∷ [])
reader-says fresh zero h n = says fresh opened 0 nothing (0 ∷ []) fresh-00 (verdict-more (0 ∷ []) error-one)
reader-says fresh (suc b) h n =
    let z : suc b ≡ 0 → ⊥ = λ e. omega arith in
    says fresh skipping (suc b) (refused 2) (suc b ∷ []) (fresh-byte (suc b) z) (verdict-refused (suc b ∷ []) 2 (error-mark (suc b) [] z) (omega arith))
reader-says skipping b h n = absurd (n refl)
reader-says opened zero h n = says opened opened 0 (refused 3) (0 ∷ 0 ∷ []) opened-00 (verdict-refused (0 ∷ 0 ∷ []) 3 (error-size 0 [] (omega arith)) (omega arith))
reader-says opened (suc b) h n = by (dec_le PART_LEAST (suc b))
  where
    z : suc b ≡ 0 → ⊥
    z e = omega arith

    by : Dec (PART_LEAST ≤ suc b) → (turn_of opened (suc b)).finding ≡ verdict (0 ∷ suc b ∷ [])
    by (yes l) =
        says opened (inside (suc b) []) (suc b) nothing (0 ∷ suc b ∷ []) (opened-length (suc b) z l)
        (verdict-more (0 ∷ suc b ∷ []) (error-begun (suc b) [] l (omega arith) zeroless-none))
    by (no l) =
        let m : suc b < PART_LEAST = omega arith in
        says opened skipping (suc b) (refused 3) (0 ∷ suc b ∷ []) (opened-small (suc b) z m) (verdict-refused (0 ∷ suc b ∷ []) 3 (error-size (suc b) [] m) (omega arith))
reader-says (inside size held) zero h n =
    let g = inside-means size held h in
    let s : List ℕ = begun size (held ++ 0 ∷ []) in
    says (inside size held) opened 0 (refused 4) s (inside-00 size held) (verdict-refused s 4 (error-zero size held [] g.least g.fewer) (omega arith))
reader-says (inside size held) (suc b) h n = by (dec_le size (length held + 1))
  where
    z : suc b ≡ 0 → ⊥
    z e = omega arith

    part : List ℕ
    part = held ++ suc b ∷ []

    g : Begun size held
    g = inside-means size held h

    by : Dec (size ≤ length held + 1) → (turn_of (inside size held) (suc b)).finding ≡ verdict (begun size part)
    by (yes l) =
        says-judged (inside size held) (suc b) (begun size part) (inside-last (suc b) z size held l)
        (front-whole size part g.least (omega (arith, length-append held (suc b ∷ []), g.fewer)) (zeroless-more held (suc b) g.zeroless z))
    by (no l) =
        let m : length held + 1 < size = omega arith in
        says (inside size held) (inside size part) (suc b) nothing (begun size part) (inside-held (suc b) z size held m)
        (verdict-more (begun size part) (error-short size part (begun_more size held (suc b) g z m)))

-- what a verdict says of its bytes
verdict-number : (s : List ℕ) (number : ℕ) → verdict s ≡ refused number → (2 ≤ number) × (number ≤ 8)
verdict-number s number h = by (packet_error s) refl
  where
    by : (k : ℕ) → packet_error s ≡ k → (2 ≤ number) × (number ≤ 8)
    by zero e = absurd (let z : ◌≡◌ {A = ℕ} 0 1 = cc (verdict-good s e) in omega arith)
    by (suc zero) e = absurd (let z : ◌≡◌ {A = ℕ} 0 1 = cc (verdict-more s e) in omega arith)
    by (suc (suc k)) e =
        let q : number ≡ suc (suc k) = cc (verdict-refused s (suc (suc k)) e (omega arith)) in
        (omega arith, omega (arith, error-most s))

verdict-packet : (s packet : List ℕ) → verdict s ≡ good packet → (packet ≡ s) × Front s
verdict-packet s packet h = by (packet_error s) refl
  where
    by : (k : ℕ) → packet_error s ≡ k → (packet ≡ s) × Front s
    by zero e = (cc (verdict-good s e), good-front s e)
    by (suc zero) e = absurd (let z : ◌≡◌ {A = ℕ} 0 1 = cc (verdict-more s e) in omega arith)
    by (suc (suc k)) e = absurd (let z : ◌≡◌ {A = ℕ} 0 1 = cc (verdict-refused s (suc (suc k)) e (omega arith)) in omega arith)

skipping-nothing : (b : ℕ) → (turn_of skipping b).finding ≡ nothing
skipping-nothing zero = ap (λ (t : Turn). t.finding) skipping-00
skipping-nothing (suc b) = ap (λ (t : Turn). t.finding) (skipping-byte (suc b) (λ e. omega arith))

-- where a byte finds something, the packet reader says it
found-says : (st : State) (b : ℕ) (f : Finding) → is_state st ≡ true → (turn_of st b).finding ≡ f → (f ≡ nothing → ⊥) → verdict (so_far st ++ b ∷ []) ≡ f
found-says fresh b f h e n = sym (reader-says fresh b h (λ q. let z : ◌≡◌ {A = ℕ} 0 1 = cc in omega arith)) ∙ e
found-says skipping b f h e n = absurd (n (sym e ∙ skipping-nothing b))
found-says opened b f h e n = sym (reader-says opened b h (λ q. let z : ◌≡◌ {A = ℕ} 0 1 = cc in omega arith)) ∙ e
found-says (inside size held) b f h e n = sym (reader-says (inside size held) b h (λ q. let z : ◌≡◌ {A = ℕ} 0 1 = cc in omega arith)) ∙ e

-- the numbers of refusals: 2 to 8
pub turn-number : (st : State) (b number : ℕ) → is_state st ≡ true → (turn_of st b).finding ≡ refused number → (2 ≤ number) × (number ≤ 8)
turn-number st b number h e =
    verdict-number (so_far st ++ b ∷ []) number (found-says st b (refused number) h e (λ q. let z : ◌≡◌ {A = ℕ} 0 1 = cc in omega arith))

-- no packet has more than L and 2 bytes when it is judged
up_to : (st : State) (b : ℕ) → is_state st ≡ true → length (so_far st ++ b ∷ []) ≤ length_byte (so_far st ++ b ∷ []) + 2
up_to fresh b h = omega arith
up_to skipping b h = omega arith
up_to opened b h = omega arith
up_to (inside size held) b h = omega (arith, length-append held (b ∷ []), (inside-means size held h).fewer)

-- the bytes of a good packet: its 00, its length byte, and L more
pub turn-sized : (st : State) (b : ℕ) (packet : List ℕ) → is_state st ≡ true → (turn_of st b).finding ≡ good packet → length packet ≡ length_byte packet + 2
turn-sized st b packet h e =
    let w = verdict-packet (so_far st ++ b ∷ []) packet (found-says st b (good packet) h e (λ q. let z : ◌≡◌ {A = ℕ} 0 1 = cc in omega arith)) in
    rw w.0 (omega (arith, w.1.whole, up_to st b h))
