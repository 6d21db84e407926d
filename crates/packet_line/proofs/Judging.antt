-- Which areas are line states, by the tests that the code makes.
use Rattle.std.proofs.Common.{◌≡◌, ℕ, zero, suc, ◌+◌, ◌-◌, ◌<◌, ◌≤◌, Bool, true, false, List, [], ◌∷◌, ◌++◌, length, get_or, take, drop, replicate, sym, refl, ap, ◌∙◌, arith, length-drop, take-append-drop, length-take-le, drop-cons, drop-drop, le-ltb, ne_eqb}
use lib.Seq.{drop-append_seam}
use Rattle.wire.specs.Zero.{has_zero, all_zero}
use Rattle.wire.specs.Every.{every}
use Rattle.wire.proofs.Zeros.{zeros-alone, alone-zeros}
use Rattle.packet.proofs.Zeros.{clash}
use Rattle.packet.specs.Packet.{PACKET_ROOM, PART_LEAST, PART_MOST}
use Rattle.packet_line.specs.State.{State, fresh, skipping, opened, inside, LINE_ROOM, INSIDE, line_of, begun, size_in, held_in, state_bytes, is_state, state_in, is_line}
use Rattle.packet_line.specs.Push.{taken_from, outcome_of, pushed}
use Rattle.packet_line.specs.Steps.{IsInside, is_mark}
use Rattle.packet_line.proofs.States.{Begun, inside-state, line-of-state, state-of-line, length-state}
use Rattle.packet_line.proofs.Areas.{Inside, inside-area}
use Rattle.packet_line.proofs.Starts.{rest_of}
use Rattle.packet_line.proofs.Marks.{marks-held, marks-free, marks-all}

pub same_test : (a b : Bool) → (a ≡ true → b ≡ true) → (b ≡ true → a ≡ true) → a ≡ b
same_test true true f g = refl
same_test true false f g = sym (f refl)
same_test false true f g = g refl
same_test false false f g = refl

-- what no line state is
pub no_line : (line : List ℕ) → (is_line line ≡ true → ⊥) → false ≡ is_line line
no_line line n = same_test false (is_line line) (λ e. absurd (let z : ◌≡◌ {A = ℕ} 0 1 = cc in omega arith)) (λ e. absurd (n e))

-- its length
pub line-long : (line : List ℕ) → is_line line ≡ true → length line ≡ LINE_ROOM
line-long line h = let s = state-of-line line h in ap length s.1 ∙ length-state (state_in line) s.0

-- the phases in which nothing is held
pub fresh_in : (line : List ℕ) → get_or line 0 0 ≡ 0 → state_in line ≡ fresh
unfolding state_in
fresh_in line e = rw e

pub skipping-in : (line : List ℕ) → get_or line 0 0 ≡ 1 → state_in line ≡ skipping
unfolding state_in
skipping-in line e = rw e

pub opened_in : (line : List ℕ) → get_or line 0 0 ≡ 2 → state_in line ≡ opened
unfolding state_in
opened_in line e = rw e

pub inside-in : (line : List ℕ) → 3 ≤ get_or line 0 0 → state_in line ≡ inside (size_in line) (held_in line)
unfolding state_in
inside-in line h = rw (ne_eqb (get_or line 0 0) 0 (λ e. omega arith), ne_eqb (get_or line 0 0) 1 (λ e. omega arith), ne_eqb (get_or line 0 0) 2 (λ e. omega arith))

-- a state with nothing held is its phase and zeros
clean-state : (k : ℕ) (line : List ℕ) → get_or line 0 0 ≡ k → k < 3 → (is_state (state_in line) ≡ true) × (state_bytes (state_in line) ≡ line_of (k ∷ []))
unfolding is_state state_bytes
clean-state zero line e h = rw (fresh_in line e) (refl, refl)
clean-state (suc zero) line e h = rw (skipping-in line e) (refl, refl)
clean-state (suc (suc zero)) line e h = rw (opened_in line e) (refl, refl)
clean-state (suc (suc (suc k))) line e h = absurd (omega arith)

tail-zeros : (line : List ℕ) → length line ≡ LINE_ROOM → all_zero (drop 1 line) ≡ true → line ≡ line_of (get_or line 0 0 ∷ [])
tail-zeros [] l z = absurd (omega arith)
tail-zeros (b ∷ line) l z =
    let n : length line ≡ LINE_ROOM - 1 = omega arith in
    ap (λ (t : List ℕ). b ∷ t) (zeros-alone line z ∙ ap (λ (k : ℕ). replicate k 0) n)

pub clean-test : (line : List ℕ) → length line ≡ LINE_ROOM → get_or line 0 0 < 3 → all_zero (take (length line - 1) (drop 1 line)) ≡ is_line line
unfolding is_line
clean-test line l h = ap all_zero (rest_of line 1) ∙ same_test (all_zero (drop 1 line)) (is_line line) there back
  where
    c : (is_state (state_in line) ≡ true) × (state_bytes (state_in line) ≡ line_of (get_or line 0 0 ∷ []))
    c = clean-state (get_or line 0 0) line refl h

    there : all_zero (drop 1 line) ≡ true → is_line line ≡ true
    there z =
        let e : line ≡ state_bytes (state_in line) = tail-zeros line l z ∙ sym c.1 in
        ap is_line e ∙ line-of-state (state_in line) c.0

    back : is_line line ≡ true → all_zero (drop 1 line) ≡ true
    back i = ap (λ (s : List ℕ). all_zero (drop 1 s)) ((state-of-line line i).1 ∙ c.1) ∙ alone-zeros (LINE_ROOM - 1)

-- a state inside a part
pub inside-line : (line : List ℕ) → 3 ≤ get_or line 0 0 → is_line line ≡ true → IsInside line
inside-line line h i =
    let s = state-of-line line i in
    let e = inside-in line h in
    record { spelled = s.1 ∙ ap state_bytes e; good = sym (ap is_state e) ∙ s.0 }

pub phase-line : (line : List ℕ) → 3 ≤ get_or line 0 0 → is_line line ≡ true → get_or line 0 0 ≡ INSIDE
phase-line line h i = ap (λ (s : List ℕ). get_or s 0 0) (inside-area line (inside-line line h i)).is

pub mark-line : (line : List ℕ) → 3 ≤ get_or line 0 0 → is_line line ≡ true → get_or line 2 0 ≡ 0
mark-line line h i = ap (λ (s : List ℕ). get_or s 2 0) (inside-area line (inside-line line h i)).is

behind-zeros : (line : List ℕ) → Inside line → all_zero (drop (4 + get_or line 1 0) line) ≡ true
behind-zeros line i =
    let held = held_in line in
    let front = INSIDE ∷ length held ∷ begun (size_in line) held in
    let n : 4 + get_or line 1 0 ≡ length front = omega (arith, i.count) in
    ap (λ (s : List ℕ). all_zero (drop (4 + get_or line 1 0) s)) i.is ∙ ap (λ (k : ℕ). all_zero (drop k (line_of front))) n
    ∙ ap all_zero (drop-append_seam front _) ∙ alone-zeros (LINE_ROOM - length front)

spells : (line : List ℕ) → length line ≡ LINE_ROOM → get_or line 0 0 ≡ INSIDE → get_or line 2 0 ≡ 0 → get_or line 1 0 < 255
    → all_zero (drop (4 + get_or line 1 0) line) ≡ true → (length (held_in line) ≡ get_or line 1 0) × (line ≡ state_bytes (inside (size_in line) (held_in line)))
unfolding state_bytes
spells [] l p m c z = absurd (omega arith)
spells (a ∷ []) l p m c z = absurd (omega arith)
spells (a ∷ b ∷ []) l p m c z = absurd (omega arith)
spells (a ∷ b ∷ d ∷ []) l p m c z = absurd (omega arith)
spells (a ∷ b ∷ d ∷ e ∷ rest) l p m c z =
    let held = take b rest in
    let n : length held ≡ b = length-take-le b rest (omega arith) in
    let four : 4 + b ≡ suc (suc (suc (suc b))) = omega arith in
    let y : all_zero (drop b rest) ≡ true = sym (ap (λ (x : ℕ). all_zero (drop x (a ∷ b ∷ d ∷ e ∷ rest))) four) ∙ z in
    let tail : drop b rest ≡ replicate (length (drop b rest)) 0 = zeros-alone (drop b rest) y in
    let k : length (drop b rest) ≡ LINE_ROOM - suc (suc (suc (suc (length held)))) = omega (arith, length-drop b rest) in
    let zeros : drop b rest ≡ replicate (LINE_ROOM - suc (suc (suc (suc (length held))))) 0 = tail ∙ ap (λ (x : ℕ). replicate x 0) k in
    let whole : rest ≡ held ++ replicate (LINE_ROOM - suc (suc (suc (suc (length held))))) 0 = sym (take-append-drop b rest) ∙ ap (λ (t : List ℕ). held ++ t) zeros in
    (n, ap (λ (t : List ℕ). a ∷ b ∷ d ∷ e ∷ t) whole ∙ rw (p, m, n))

-- the length byte before the bytes held
with_size : (size : ℕ) (held : List ℕ) → 1 ≤ size → has_zero held ≡ false → has_zero (size ∷ held) ≡ false
unfolding has_zero
with_size zero held l h = absurd (omega arith)
with_size (suc size) held l h = h

without-size : (size : ℕ) (held : List ℕ) → has_zero (size ∷ held) ≡ false → has_zero held ≡ false
unfolding has_zero
without-size zero held h = clash h
without-size (suc size) held h = h

pub inside-test : (line : List ℕ) → length line ≡ LINE_ROOM → get_or line 0 0 ≡ INSIDE → get_or line 2 0 ≡ 0 → PART_LEAST ≤ size_in line → size_in line ≤ PART_MOST
    → get_or line 1 0 < size_in line
    → every (length (take (length line - 3) (drop 3 line))) (is_mark (take (length line - 3) (drop 3 line)) (get_or line 1 0)) ≡ is_line line
inside-test line l p m least most fewer =
    ap (λ (r : List ℕ). every (length r) (is_mark r k)) (rest_of line 3) ∙ same_test (every (length room) (is_mark room k)) (is_line line) there back
  where
    room : List ℕ
    room = drop 3 line

    k : ℕ
    k = get_or line 1 0

    fits : suc k ≤ length room
    fits = omega (arith, length-drop 3 line)

    behind : drop (suc k) room ≡ drop (4 + k) line
    behind = let e : 3 + suc k ≡ 4 + k = omega arith in drop-drop (suc k) 3 line ∙ ap (λ (n : ℕ). drop n line) e

    front : take (suc k) room ≡ size_in line ∷ held_in line
    front = ap (take (suc k)) (drop-cons line 3 0 (omega arith))

    there : every (length room) (is_mark room k) ≡ true → is_line line ≡ true
    there e =
        let s = spells line l p m (omega arith) (sym (ap all_zero behind) ∙ marks-free room k fits e) in
        let none = without-size (size_in line) (held_in line) (sym (ap has_zero front) ∙ marks-held room k fits e) in
        let b : Begun (size_in line) (held_in line) = record { least = least; most = most; fewer = omega (arith, s.0); zeroless = none } in
        ap is_line s.1 ∙ line-of-state (inside (size_in line) (held_in line)) (inside-state (size_in line) (held_in line) b)

    back : is_line line ≡ true → every (length room) (is_mark room k) ≡ true
    back i =
        let a = inside-area line (inside-line line (omega arith) i) in
        let none = ap has_zero front ∙ with_size (size_in line) (held_in line) (omega arith) a.part.zeroless in
        marks-all room k fits none (ap all_zero behind ∙ behind-zeros line a) (length room) (omega arith)

-- a call on a line state
pub pushed-line : (line bytes area : List ℕ) (st : State) → PACKET_ROOM ≤ length area → is_line line ≡ true → state_in line ≡ st
    → outcome_of (taken_from st bytes) area ≡ pushed line bytes area
unfolding pushed
pushed-line line bytes area st room i e = rw (le-ltb (length area) PACKET_ROOM room, i, e)
