-- What a call takes: runs of bytes with no 00, a 00, a whole packet.
use Rattle.std.proofs.Common.{◌≡◌, ℕ, zero, suc, ◌+◌, ◌<◌, ◌≤◌, false, List, [], ◌∷◌, ◌++◌, length, take, drop, sym, refl, ap, ◌∙◌, append-nil, add-zero, zero-add, arith, length-append}
use lib.Seq.{append_snoc}
use Rattle.wire.specs.Zero.{has_zero}
use Rattle.packet.specs.Packet.{PART_LEAST, length_byte, part_present, packet_error}
use Rattle.packet.proofs.FrontTests.{Front}
use Rattle.packet.proofs.DecodeStages.{good-front, length_part}
use Rattle.packet.proofs.Accepted.{framed-again}
use Rattle.packet.proofs.Stands.{late-front, packet-bytes, packet-alone}
use Rattle.packet_line.specs.State.{State, fresh, skipping, opened, inside, begun}
use Rattle.packet_line.specs.Turn.{Finding, nothing, good, refused, turn, turn_of, judged_turn}
use Rattle.packet_line.specs.Push.{Taken, taken, or_rest, taken_from}
use Rattle.packet_line.specs.Steps.{turned, later}
use Rattle.packet_line.proofs.Turns.{fresh-00, skipping-00, opened-00, inside-00, fresh-byte, skipping-byte}
use Rattle.packet_line.proofs.Turns.{opened-small, opened-length, inside-held, inside-last, judged-good, judged-refused}

later-none : (t : Taken) → later 0 t ≡ t
later-none t = rw (zero-add t.consumed)

later-one : (t : Taken) → taken t.finding (suc t.consumed) t.state ≡ later 1 t
later-one t = let e : suc t.consumed ≡ 1 + t.consumed = omega arith in rw e

later_more : (n : ℕ) (t : Taken) → later 1 (later n t) ≡ later (suc n) t
later_more n t = let e : 1 + (n + t.consumed) ≡ suc n + t.consumed = omega arith in rw e

-- A byte behind which nothing is found yet, and one that decides a finding.
module _ (st next : State) (b : ℕ) (bytes : List ℕ) where
  pub step-on : turn_of st b ≡ turn nothing next → taken_from st (b ∷ bytes) ≡ later 1 (taken_from next bytes)
  unfolding taken_from
  step-on e = rw e (later-one (taken_from next bytes))

  pub step-good : (packet : List ℕ) → turn_of st b ≡ turn (good packet) next → taken_from st (b ∷ bytes) ≡ taken (good packet) 1 next
  unfolding taken_from
  step-good packet e = rw e

  pub step-refused : (number : ℕ) → turn_of st b ≡ turn (refused number) next → taken_from st (b ∷ bytes) ≡ taken (refused number) 1 next
  unfolding taken_from
  step-refused number e = rw e

-- "A 00 always starts a packet anew"
pub fresh-zero : (bytes : List ℕ) → taken_from fresh (0 ∷ bytes) ≡ later 1 (taken_from opened bytes)
fresh-zero bytes = step-on fresh opened 0 bytes fresh-00

pub skip-zero : (bytes : List ℕ) → taken_from skipping (0 ∷ bytes) ≡ later 1 (taken_from opened bytes)
skip-zero bytes = step-on skipping opened 0 bytes skipping-00

-- "give one 2 for the whole stretch, at its first byte"
pub fresh-other : (b : ℕ) (bytes : List ℕ) → (b ≡ 0 → ⊥) → taken_from fresh (b ∷ bytes) ≡ taken (refused 2) 1 skipping
fresh-other b bytes n = step-refused fresh skipping b bytes 2 (fresh-byte b n)

-- "bytes are skipped to the next 00"
pub skip-run : (xs ys : List ℕ) → has_zero xs ≡ false → taken_from skipping (xs ++ ys) ≡ later (length xs) (taken_from skipping ys)
unfolding has_zero
skip-run [] ys h = sym (later-none _)
skip-run (zero ∷ xs) ys h = absurd (let e : ◌≡◌ {A = ℕ} 0 1 = cc in omega arith)
skip-run (suc b ∷ xs) ys h =
    step-on skipping skipping (suc b) (xs ++ ys) (skipping-byte (suc b) (λ e. omega arith)) ∙ ap (later 1) (skip-run xs ys h) ∙ later_more (length xs) (taken_from skipping ys)

-- "as length byte it is 3. Length 1 to 3 is 3; then bytes are skipped"
pub length-zero : (bytes : List ℕ) → taken_from opened (0 ∷ bytes) ≡ taken (refused 3) 1 opened
length-zero bytes = step-refused opened opened 0 bytes 3 opened-00

pub length-small : (size : ℕ) (bytes : List ℕ) → 1 ≤ size → size < PART_LEAST → taken_from opened (size ∷ bytes) ≡ taken (refused 3) 1 skipping
length-small size bytes h l = step-refused opened skipping size bytes 3 (opened-small size (λ e. omega arith) l)

pub length_taken : (size : ℕ) (bytes : List ℕ) → PART_LEAST ≤ size → taken_from opened (size ∷ bytes) ≡ later 1 (taken_from (inside size []) bytes)
length_taken size bytes l = step-on opened (inside size []) size bytes (opened-length size (λ e. omega arith) l)

-- inside a part
pub inside-run : (size : ℕ) (held xs ys : List ℕ) → has_zero xs ≡ false → length held + length xs < size
    → taken_from (inside size held) (xs ++ ys) ≡ later (length xs) (taken_from (inside size (held ++ xs)) ys)
unfolding has_zero
inside-run size held [] ys h l = rw (append-nil held) (sym (later-none _))
inside-run size held (zero ∷ xs) ys h l = absurd (let e : ◌≡◌ {A = ℕ} 0 1 = cc in omega arith)
inside-run size held (suc b ∷ xs) ys h l =
    let more : length held + 1 < size = omega arith in
    let fits : length (held ++ suc b ∷ []) + length xs < size = omega (arith, length-append held (suc b ∷ [])) in
    step-on (inside size held) (inside size (held ++ suc b ∷ [])) (suc b) (xs ++ ys) (inside-held (suc b) (λ e. omega arith) size held more)
    ∙ ap (later 1) (inside-run size (held ++ suc b ∷ []) xs ys h fits)
    ∙ later_more (length xs) (taken_from (inside size ((held ++ suc b ∷ []) ++ xs)) ys)
    ∙ ap (λ (l : List ℕ). later (suc (length xs)) (taken_from (inside size l) ys)) (append_snoc held (suc b) xs)

-- "inside an encoded part it is 4"
pub inside-zero : (size : ℕ) (held xs ys : List ℕ) → has_zero xs ≡ false → length held + length xs < size
    → taken_from (inside size held) (xs ++ 0 ∷ ys) ≡ taken (refused 4) (length xs + 1) opened
inside-zero size held xs ys h l =
    inside-run size held xs (0 ∷ ys) h l ∙ ap (later (length xs)) (step-refused (inside size (held ++ xs)) opened 0 ys 4 (inside-00 size (held ++ xs)))

-- "more wanted .. takes the whole scrap"
pub inside-more : (size : ℕ) (held xs : List ℕ) → has_zero xs ≡ false → length held + length xs < size
    → taken_from (inside size held) xs ≡ taken nothing (length xs) (inside size (held ++ xs))
unfolding taken_from
inside-more size held xs h l =
    ap (taken_from (inside size held)) (sym (append-nil xs)) ∙ inside-run size held xs [] h l
    ∙ ap (λ (n : ℕ). taken nothing n (inside size (held ++ xs))) (add-zero (length xs))

pub skip-more : (xs : List ℕ) → has_zero xs ≡ false → taken_from skipping xs ≡ taken nothing (length xs) skipping
unfolding taken_from
skip-more xs h =
    ap (taken_from skipping) (sym (append-nil xs)) ∙ skip-run xs [] h ∙ ap (λ (n : ℕ). taken nothing n skipping) (add-zero (length xs))

-- "5 to 8 come once all L bytes are in": the judgement always is a finding
judged-ends : (st : State) (b : ℕ) (bytes s : List ℕ) → turn_of st b ≡ judged_turn s → taken_from st (b ∷ bytes) ≡ turned 1 (judged_turn s)
judged-ends st b bytes s e = by (packet_error s) refl
  where
    by : (k : ℕ) → packet_error s ≡ k → taken_from st (b ∷ bytes) ≡ turned 1 (judged_turn s)
    by zero z = let j = judged-good s z in step-good st fresh b bytes s (e ∙ j) ∙ ap (turned 1) (sym j)
    by (suc k) z = let j = judged-refused s (suc k) z (λ q. omega arith) in step-refused st skipping b bytes (suc k) (e ∙ j) ∙ ap (turned 1) (sym j)

pub inside-all : (size : ℕ) (held xs ys : List ℕ) → has_zero xs ≡ false → length held + length xs ≡ size → 1 ≤ length xs
    → taken_from (inside size held) (xs ++ ys) ≡ turned (length xs) (judged_turn (begun size (held ++ xs)))
unfolding has_zero
inside-all size held [] ys h e l = absurd (omega arith)
inside-all size held (zero ∷ xs) ys h e l = absurd (let e : ◌≡◌ {A = ℕ} 0 1 = cc in omega arith)
inside-all size held (suc b ∷ []) ys h e l =
    judged-ends (inside size held) (suc b) ys (begun size (held ++ suc b ∷ [])) (inside-last (suc b) (λ e. omega arith) size held (omega arith))
inside-all size held (suc b ∷ c ∷ xs) ys h e l =
    let more : length held + 1 < size = omega arith in
    let all : length (held ++ suc b ∷ []) + length (c ∷ xs) ≡ size = omega (arith, length-append held (suc b ∷ [])) in
    let n : 1 + length (c ∷ xs) ≡ suc (length (c ∷ xs)) = omega arith in
    step-on (inside size held) (inside size (held ++ suc b ∷ [])) (suc b) ((c ∷ xs) ++ ys) (inside-held (suc b) (λ e. omega arith) size held more)
    ∙ ap (later 1) (inside-all size (held ++ suc b ∷ []) (c ∷ xs) ys h all (omega arith))
    ∙ ap (λ (k : ℕ). turned k (judged_turn (begun size ((held ++ suc b ∷ []) ++ (c ∷ xs))))) n
    ∙ ap (λ (l : List ℕ). turned (suc (length (c ∷ xs))) (judged_turn (begun size l))) (append_snoc held (suc b) (c ∷ xs))

-- a call takes no more than it is given
pub taken-within : (st : State) (bytes : List ℕ) → (taken_from st bytes).consumed ≤ length bytes
unfolding taken_from
taken-within st [] = omega arith
taken-within st (b ∷ bytes) = by (turn_of st b).finding (taken-within (turn_of st b).next bytes)
  where
    by : (f : Finding) → (taken_from (turn_of st b).next bytes).consumed ≤ length bytes
        → (or_rest f (turn_of st b).next (taken_from (turn_of st b).next bytes)).consumed ≤ suc (length bytes)
    by nothing h = omega arith
    by (good packet) h = omega arith
    by (refused number) h = omega arith

-- a line that begins with a packet that is all there
pub whole-judged : (s : List ℕ) → Front s → taken_from fresh s ≡ turned (length_byte s + 2) (judged_turn (take (length_byte s + 2) s))
whole-judged s f =
    let size = length_byte s in
    let part = part_present s in
    let rest = drop (size + 2) s in
    let n = length_part s f in
    let least = f.least in
    let count : 1 + (1 + length part) ≡ size + 2 = omega arith in
    ap (taken_from fresh) (packet-bytes s f)
    ∙ fresh-zero (size ∷ (part ++ rest))
    ∙ ap (later 1) (length_taken size (part ++ rest) least ∙ ap (later 1) (inside-all size [] part rest f.zeroless (omega arith) (omega arith)))
    ∙ ap (λ (k : ℕ). turned k (judged_turn (begun size part))) count
    ∙ ap (λ (l : List ℕ). turned (size + 2) (judged_turn l)) (framed-again s f)

pub whole-good : (s : List ℕ) → packet_error s ≡ 0 → taken_from fresh s ≡ taken (good (take (length_byte s + 2) s)) (length_byte s + 2) fresh
whole-good s e =
    let f = good-front s e in
    whole-judged s f ∙ ap (turned (length_byte s + 2)) (judged-good (take (length_byte s + 2) s) (packet-alone s f ∙ e))

pub whole-bad : (s : List ℕ) (number : ℕ) → packet_error s ≡ number → 4 < number → taken_from fresh s ≡ taken (refused number) (length_byte s + 2) skipping
whole-bad s number e l =
    let f = late-front s (omega arith) in
    whole-judged s f ∙ ap (turned (length_byte s + 2)) (judged-refused (take (length_byte s + 2) s) number (packet-alone s f ∙ e) (λ z. omega arith))
