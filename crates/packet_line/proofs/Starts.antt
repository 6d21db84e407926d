-- What a call finds in each phase, by the bytes that it is given, and what the functions of the phases answer.
use Rattle.std.proofs.Common.{◌≡◌, ℕ, zero, suc, ◌+◌, ◌-◌, ◌<◌, ◌≤◌, Bool, true, false, ◌||◌, eqb, ltb, List, [], ◌∷◌, length, get_or, take, drop, set, replicate, sym, refl, ap, ◌∙◌, zero-add, arith, length-drop, take-append-drop, length-take-le, take_all, drop-cons, drop-drop, ltb-true, eq-eqb, ne_eqb, eqb-true}
use lib.Seq.{take-append_seam}
use borrow.Author.Tests.{eqb-false}
use Rattle.wire.specs.Zero.{has_zero, zero_at}
use Rattle.wire.proofs.Zeros.{zero-before, zero-there}
use Rattle.packet.specs.Packet.{PART_LEAST, PART_MOST, length_byte, packet_error}
use Rattle.packet.proofs.Zeros.{clash}
use Rattle.packet.proofs.FrontTests.{Front}
use Rattle.packet.proofs.DecodeStages.{good-front}
use Rattle.packet.proofs.Stands.{late-front}
use Rattle.std.specs.Prelude.{Option, Some, None}
use Rattle.packet_line.specs.declared.Finding.{Finding as Declared}
use Rattle.packet_line.specs.State.{State, fresh, skipping, opened, inside, LINE_ROOM, INSIDE, size_in, held_in, state_bytes, state_in, is_state}
use Rattle.packet_line.specs.Turn.{Finding, nothing, good, refused}
use Rattle.packet_line.specs.Push.{Answer, Outcome, outcome, Taken, taken, taken_from, in_areas, outcome_of}
use Rattle.packet_line.specs.Steps.{IsInside, IsJudged, Ended, Begun, Entered, delivered, later, settled_answer, settled_state}
use Rattle.packet_line.proofs.States.{inside-state}
use Rattle.packet_line.proofs.Taking.{fresh-zero, skip-zero, fresh-other, skip-run, skip-more, length-zero, length-small, length_taken, taken-within, whole-good, whole-bad}

-- what is left of bytes behind the first k
pub rest_of : (s : List ℕ) (k : ℕ) → take (length s - k) (drop k s) ≡ drop k s
rest_of s k = take_all (length s - k) (drop k s) (omega (arith, length-drop k s))

-- no bytes
pub none-taken : (st : State) (s : List ℕ) → length s ≡ 0 → taken_from st s ≡ taken nothing 0 st
unfolding taken_from
none-taken st [] h = refl
none-taken st (b ∷ s) h = absurd (omega arith)

-- the first byte, in each phase
pub fresh_start : (s : List ℕ) → 1 ≤ length s → get_or s 0 0 ≡ 0 → taken_from fresh s ≡ later 1 (taken_from opened (drop 1 s))
fresh_start [] h z = absurd (omega arith)
fresh_start (b ∷ s) h z = ap (λ (x : ℕ). taken_from fresh (x ∷ s)) z ∙ fresh-zero s

skip-start : (s : List ℕ) → 1 ≤ length s → get_or s 0 0 ≡ 0 → taken_from skipping s ≡ taken_from fresh s
skip-start [] h z = absurd (omega arith)
skip-start (b ∷ s) h z = ap (λ (x : ℕ). taken_from skipping (x ∷ s)) z ∙ skip-zero s ∙ sym (fresh_start (b ∷ s) h z)

pub fresh-some : (s : List ℕ) → 1 ≤ length s → (get_or s 0 0 ≡ 0 → ⊥) → taken_from fresh s ≡ taken (refused 2) 1 skipping
fresh-some [] h z = absurd (omega arith)
fresh-some (b ∷ s) h z = fresh-other b s z

pub opened-zero : (s : List ℕ) → 1 ≤ length s → get_or s 0 0 ≡ 0 → taken_from opened s ≡ taken (refused 3) 1 opened
opened-zero [] h z = absurd (omega arith)
opened-zero (b ∷ s) h z = ap (λ (x : ℕ). taken_from opened (x ∷ s)) z ∙ length-zero s

pub opened-small : (s : List ℕ) → 1 ≤ length s → (get_or s 0 0 ≡ 0 → ⊥) → get_or s 0 0 < PART_LEAST → taken_from opened s ≡ taken (refused 3) 1 skipping
opened-small [] h z l = absurd (omega arith)
opened-small (zero ∷ s) h z l = absurd (z refl)
opened-small (suc b ∷ s) h z l = length-small (suc b) s (omega arith) l

pub opened-size : (s : List ℕ) → 1 ≤ length s → PART_LEAST ≤ get_or s 0 0 → taken_from opened s ≡ later 1 (taken_from (inside (get_or s 0 0) []) (drop 1 s))
opened-size [] h l = absurd (omega arith)
opened-size (b ∷ s) h l = length_taken b s l

-- up to the next 00
pub skip-found : (s : List ℕ) → zero_at s < length s → taken_from skipping s ≡ later (zero_at s) (taken_from fresh (drop (zero_at s) s))
skip-found s h =
    let k = zero_at s in
    let xs = take k s in
    let ys = drop k s in
    let n : length xs ≡ k = length-take-le k s (omega arith) in
    let c : ys ≡ get_or s k 0 ∷ drop (suc k) s = drop-cons s k 0 h in
    let z : get_or ys 0 0 ≡ 0 = ap (λ (l : List ℕ). get_or l 0 0) c ∙ zero-there s h in
    ap (taken_from skipping) (sym (take-append-drop k s)) ∙ skip-run xs ys (zero-before s)
    ∙ ap (λ (m : ℕ). later m (taken_from skipping ys)) n ∙ ap (later k) (skip-start ys (omega (arith, length-drop k s)) z)

pub skip-none : (s : List ℕ) → zero_at s ≡ length s → taken_from skipping s ≡ taken nothing (zero_at s) skipping
skip-none s h =
    let none = ap has_zero (sym (take_all (zero_at s) s (omega arith))) ∙ zero-before s in
    skip-more s none ∙ ap (λ (n : ℕ). taken nothing n skipping) (sym h)

-- the bytes from the first 00 on
pub first-there : (s : List ℕ) (k : ℕ) → k ≡ zero_at s → k < length s → (1 ≤ length (take (length s - k) (drop k s))) × (get_or (take (length s - k) (drop k s)) 0 0 ≡ 0)
first-there s k e h =
    let l : zero_at s < length s = omega arith in
    rw (rest_of s k) (
      omega (arith, length-drop k s),
      ap (λ (r : List ℕ). get_or r 0 0) (drop-cons s k 0 h) ∙ ap (λ (n : ℕ). get_or s n 0) e ∙ zero-there s l,
    )

-- an outcome behind so many more bytes
pub further : {a : Answer} {n : ℕ} {line out : List ℕ} (k : ℕ) (area : List ℕ) (t : Taken) → outcome a n line out ≡ outcome_of t area
    → outcome a (k + n) line out ≡ outcome_of (later k t) area
further k area t e = ap moved e ∙ by t.finding t.consumed (state_bytes t.state)
  where
    moved : Outcome → Outcome
    moved o = outcome o.answer (k + o.consumed) o.line o.packet

    by : (f : Finding) (n : ℕ) (line : List ℕ) → moved (in_areas f n line area) ≡ in_areas f (k + n) line area
    by nothing n line = refl
    by (good bytes) n line = refl
    by (refused number) n line = refl

-- the bytes that an outcome took
pub took-within : {a : Answer} {n : ℕ} {line out : List ℕ} (area : List ℕ) (st : State) (s : List ℕ) → outcome a n line out ≡ outcome_of (taken_from st s) area → n ≤ length s
took-within area st s e =
    let t = taken_from st s in
    let c = ap (λ (o : Outcome). o.consumed) e ∙ by t.finding t.consumed (state_bytes t.state) in
    omega (arith, taken-within st s)
  where
    by : (f : Finding) (n : ℕ) (line : List ℕ) → (in_areas f n line area).consumed ≡ n
    by nothing n line = refl
    by (good bytes) n line = refl
    by (refused number) n line = refl

-- a part that begins
pub inside-bytes : (size : ℕ) (held : List ℕ) → is_state (inside size held) ≡ true
    → (IsInside (state_bytes (inside size held))) × (size_in (state_bytes (inside size held)) ≡ size) × (held_in (state_bytes (inside size held)) ≡ held)
unfolding state_bytes
inside-bytes size held h =
    let e : held_in (state_bytes (inside size held)) ≡ held = take-append_seam held (replicate (LINE_ROOM - suc (suc (suc (suc (length held))))) 0) in
    (record { spelled = rw e; good = rw e h }, refl, e)

pub part-begins : (line : List ℕ) (size : ℕ) → line ≡ state_bytes opened → set (set line 0 INSIDE) 3 size ≡ state_bytes (inside size [])
unfolding state_bytes
part-begins line size e = ap (λ (l : List ℕ). set (set l 0 INSIDE) 3 size) e

pub begins-good : (size : ℕ) → PART_LEAST ≤ size → size ≤ PART_MOST → is_state (inside size []) ≡ true
unfolding has_zero
begins-good size a b = inside-state size [] (record { least = a; most = b; fewer = omega arith; zeroless = refl })

-- a packet that is judged where it stands
pub whole-front : (s : List ℕ) (error : ℕ) → error ≡ packet_error s → (eqb error 0 || ltb 4 error) ≡ true → Front s
whole-front s error e w = by (eqb error 0) refl w
  where
    by : (b : Bool) → eqb error 0 ≡ b → (b || ltb 4 error) ≡ true → Front s
    by true t q = good-front s (sym e ∙ eqb-true _ _ t)
    by false t q = let l : 4 < error = ltb-true _ _ q in late-front s (omega arith)

pub whole-found : (s area out : List ℕ) (error : ℕ) → error ≡ packet_error s → (eqb error 0 || ltb 4 error) ≡ true → out ≡ delivered s area
    → outcome (settled_answer error) (length_byte s + 2) (state_bytes (settled_state error)) out ≡ outcome_of (taken_from fresh s) area
whole-found s area out error e w h = rw h (by (eqb error 0) refl w)
  where
    by : (b : Bool) → eqb error 0 ≡ b → (b || ltb 4 error) ≡ true
        → outcome (settled_answer error) (length_byte s + 2) (state_bytes (settled_state error)) (delivered s area) ≡ outcome_of (taken_from fresh s) area
    by true t q =
        let z = sym e ∙ eqb-true _ _ t in
        rw (t, eq-eqb _ _ z, whole-good s z)
    by false t q =
        let n : packet_error s ≡ 0 → ⊥ = λ z. eqb-false _ _ t (e ∙ z) in
        rw (t, ne_eqb _ _ n, whole-bad s error (sym e) (ltb-true _ _ q))

pub not-whole : (s area : List ℕ) (error : ℕ) → error ≡ packet_error s → (eqb error 0 || ltb 4 error) ≡ false → delivered s area ≡ area
not-whole s area error e w = by (eqb error 0) refl w
  where
    by : (b : Bool) → eqb error 0 ≡ b → (b || ltb 4 error) ≡ false → delivered s area ≡ area
    by true t q = absurd (let z : ◌≡◌ {A = ℕ} 0 1 = cc in omega arith)
    by false t q = let n : packet_error s ≡ 0 → ⊥ = λ z. eqb-false _ _ t (e ∙ z) in rw (ne_eqb _ _ n)

-- a packet that is not all there is not judged
pub unjudged : (bytes area : List ℕ) → IsJudged 1 area bytes area
unjudged bytes area = record { whole = λ q. clash (sym q); kept = λ q. refl }

pub judged-here : (error : ℕ) (out bytes area : List ℕ) → error ≡ packet_error bytes → out ≡ delivered bytes area → IsJudged error out bytes area
judged-here error out bytes area e o = record { whole = λ q. (e, o); kept = λ q. o ∙ not-whole bytes area error e q }

-- the way's end: a finding, a part that begins, a part that has begun before
pub reached-found : {a : Answer} {n : ℕ} {line out : List ℕ} (st : State) (bytes area : List ℕ) → outcome a n line out ≡ outcome_of (taken_from st bytes) area
    → Ended a n line out st bytes area
reached-found st bytes area e = record { fits = took-within area st bytes e; found = e }

pub reached-part : (line bytes area : List ℕ) (size : ℕ) → line ≡ state_bytes (inside size []) → is_state (inside size []) ≡ true → 1 ≤ length bytes
    → taken_from opened bytes ≡ later 1 (taken_from (inside size []) (drop 1 bytes)) → Begun 1 line area opened bytes area
reached-part line bytes area size e h l t =
    let b = inside-bytes size [] h in
    rw e (record { fits = l; within = b.0; kept = refl; rest = rw (b.1, b.2) t })

later-none : (t : Taken) → later 0 t ≡ t
later-none t = rw (zero-add t.consumed)

pub reached-inside : (line bytes area : List ℕ) → IsInside line → state_in line ≡ inside (size_in line) (held_in line) → Begun 0 line area (state_in line) bytes area
reached-inside line bytes area i e = rw e (record { fits = omega arith; within = i; kept = refl; rest = sym (later-none _) })

-- the same behind so many more bytes
later-sum : (k n : ℕ) (t : Taken) → later k (later n t) ≡ later (k + n) t
later-sum k n t = let e : k + (n + t.consumed) ≡ k + n + t.consumed = omega arith in rw e

pub entered-fits : (finding : Option Declared) (at : ℕ) (line out : List ℕ) (st : State) (bytes area : List ℕ)
    → Entered (record { finding = finding; at = at }) line out st bytes area → at ≤ length bytes
entered-fits (Some f) at line out st bytes area r = r.fits
entered-fits None at line out st bytes area r = r.fits

pub reached-later : (finding : Option Declared) (n : ℕ) (line out : List ℕ) (k : ℕ) (st next : State) (bytes area : List ℕ) → k ≤ length bytes
    → taken_from st bytes ≡ later k (taken_from next (drop k bytes)) → Entered (record { finding = finding; at = n }) line out next (drop k bytes) area
    → Entered (record { finding = finding; at = k + n }) line out st bytes area
reached-later (Some f) n line out k st next bytes area h t r = record {
  fits = omega (arith, r.fits, length-drop k bytes);
  found = further k area (taken_from next (drop k bytes)) r.found ∙ ap (λ (t : Taken). outcome_of t area) (sym t);
}
reached-later None n line out k st next bytes area h t r =
    let on = inside (size_in line) (held_in line) in
    record {
      fits = omega (arith, r.fits, length-drop k bytes);
      within = r.within;
      kept = r.kept;
      rest = t ∙ ap (later k) r.rest ∙ later-sum k n (taken_from on (drop n (drop k bytes))) ∙ ap (λ (l : List ℕ). later (k + n) (taken_from on l)) (drop-drop n k bytes);
    }
