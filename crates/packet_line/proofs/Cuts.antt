-- "However the line is cut, empty scraps too, findings and end state are equal."
use Rattle.std.proofs.Common.{◌≡◌, ℕ, suc, ◌+◌, ◌-◌, ◌≤◌, min, true, List, [], ◌∷◌, ◌++◌, length, take, drop, sym, refl, ap, ◌∙◌, add-zero, arith, length-drop, length-take, length-take-le, take_all, take-take, take-add}
use native.Mathlib.Decide.{dec_le}
use Rattle.wire.specs.Number.{Bytes}
use Rattle.wire.proofs.ByteLists.{take-bytes, drop-bytes}
use Rattle.packet.specs.Packet.{PACKET_ROOM}
use Rattle.packet_line.specs.State.{State, fresh, state_bytes, is_state}
use Rattle.packet_line.specs.Turn.{Finding, nothing, good, refused, turn_of}
use Rattle.packet_line.specs.Findings.{Found, noted, findings, state_after, line_findings, line_state}
use Rattle.packet_line.specs.Push.{Answer, taken_from, Outcome, outcome, outcome_of, refusal, pushed}
use Rattle.packet_line.specs.Series.{Lending, series, all_taken, last_line, finding_in, all_found, Followed, Able}
use Rattle.packet_line.proofs.States.{after-state}
use Rattle.packet_line.proofs.Taking.{taken-within}
use Rattle.packet_line.proofs.Calls.{call-finds, call-leaves, takes-some, refused-some, packet-sized, pushed_short, pushed_room, areas-fields, finding-back}

-- findings before later ones
noted-append : (place : ℕ) (f : Finding) (fs gs : List Found) → noted place f fs ++ gs ≡ noted place f (fs ++ gs)
noted-append place nothing fs gs = refl
noted-append place (good bytes) fs gs = refl
noted-append place (refused number) fs gs = refl

-- later bytes never change what earlier ones were found to be
pub findings-append : (place : ℕ) (st : State) (xs ys : List ℕ)
    → findings place st (xs ++ ys) ≡ findings place st xs ++ findings (place + length xs) (state_after st xs) ys
unfolding findings state_after
findings-append place st [] ys = rw (add-zero place)
findings-append place st (x ∷ xs) ys =
    let next = (turn_of st x).next in
    let at : suc place + length xs ≡ place + suc (length xs) = omega arith in
    ap (noted place (turn_of st x).finding) (findings-append (suc place) next xs ys)
    ∙ ap (λ (n : ℕ). noted place (turn_of st x).finding (findings (suc place) next xs ++ findings n (state_after next xs) ys)) at
    ∙ sym (noted-append place (turn_of st x).finding (findings (suc place) next xs) (findings (place + suc (length xs)) (state_after next xs) ys))

pub after-append : (st : State) (xs ys : List ℕ) → state_after st (xs ++ ys) ≡ state_after (state_after st xs) ys
unfolding state_after
after-append st [] ys = refl
after-append st (x ∷ xs) ys = after-append (turn_of st x).next xs ys

-- A series from any state and place.
record From (place : ℕ) (st : State) (rest : List ℕ) (os : List Outcome) : Type 0 where
  within : all_taken os ≤ length rest
  found : all_found place os ≡ findings place st (take (all_taken os) rest)
  left : last_line (state_bytes st) os ≡ state_bytes (state_after st (take (all_taken os) rest))

series-next : (line rest : List ℕ) (l : Lending) (ls : List Lending) (o : Outcome) → pushed line (take l.size rest) l.packet ≡ o
    → series line rest (l ∷ ls) ≡ o ∷ series o.line (drop o.consumed rest) ls
unfolding series
series-next line rest l ls o e = ap (λ (o : Outcome). o ∷ series o.line (drop o.consumed rest) ls) e

from_next : (place : ℕ) (st next : State) (rest : List ℕ) (f : Finding) (answer : Answer) (consumed : ℕ) (packet : List ℕ) (os : List Outcome)
    → finding_in answer consumed packet ≡ f → consumed ≤ length rest
    → findings place st (take consumed rest) ≡ noted (place + consumed - 1) f [] → state_after st (take consumed rest) ≡ next
    → From (place + consumed) next (drop consumed rest) os → From place st rest (outcome answer consumed (state_bytes next) packet ∷ os)
unfolding all_taken all_found last_line
from_next place st next rest f answer c packet os e l finds leaves r =
    let n = all_taken os in
    let more = take n (drop c rest) in
    let w = r.within in
    let split : take (c + n) rest ≡ take c rest ++ more = take-add c n rest in
    let here : length (take c rest) ≡ c = length-take-le c rest l in
    let both : findings place st (take (c + n) rest) ≡ noted (place + c - 1) f (findings (place + c) next more) =
    ap (findings place st) split ∙ findings-append place st (take c rest) more
    ∙ ap (λ (k : ℕ). findings place st (take c rest) ++ findings (place + k) (state_after st (take c rest)) more) here
    ∙ ap (λ (s : State). findings place st (take c rest) ++ findings (place + c) s more) leaves
    ∙ ap (λ (fs : List Found). fs ++ findings (place + c) next more) finds
    ∙ noted-append (place + c - 1) f [] (findings (place + c) next more) in
    record {
      within = omega (arith, length-drop c rest);
      found = ap (λ (g : Finding). noted (place + c - 1) g (all_found (place + c) os)) e
          ∙ ap (noted (place + c - 1) f) r.found ∙ sym both;
      left = r.left ∙ ap state_bytes (ap (λ (s : State). state_after s more) (sym leaves) ∙ sym (after-append st (take c rest) more) ∙ ap (state_after st) (sym split));
    }

-- one call of it, refused 20 or not
record Call (place : ℕ) (st : State) (rest : List ℕ) (l : Lending) : Type 0 where
  answer : Answer
  consumed : ℕ
  packet : List ℕ
  next : State
  finding : Finding
  is : pushed (state_bytes st) (take l.size rest) l.packet ≡ outcome answer consumed (state_bytes next) packet
  back : finding_in answer consumed packet ≡ finding
  within : consumed ≤ length rest
  some : PACKET_ROOM ≤ length l.packet → 1 ≤ l.size → 1 ≤ length rest → 1 ≤ consumed
  finds : findings place st (take consumed rest) ≡ noted (place + consumed - 1) finding []
  leaves : state_after st (take consumed rest) ≡ next
  good-next : is_state next ≡ true

call : (place : ℕ) (st : State) (rest : List ℕ) (l : Lending) → is_state st ≡ true → Bytes rest → Dec (PACKET_ROOM ≤ length l.packet) → Call place st rest l
unfolding findings state_after
call place st rest l h k (no r) = record {
  answer = refusal 20;
  consumed = 0;
  packet = l.packet;
  next = st;
  finding = nothing;
  is = pushed_short (state_bytes st) (take l.size rest) l.packet (omega arith);
  back = refl;
  within = omega arith;
  some = λ a b d. absurd (r a);
  finds = refl;
  leaves = refl;
  good-next = h;
}
call place st rest l h k (yes r) =
    let bytes = take l.size rest in
    let t = taken_from st bytes in
    let c = t.consumed in
    let o = outcome_of t l.packet in
    let kb = take-bytes l.size rest k in
    let given : length bytes ≡ min l.size (length rest) = length-take l.size rest in
    let fits = taken-within st bytes in
    let same : take c bytes ≡ take c rest = take-take c l.size rest (omega arith) in
    let left : state_after st (take c rest) ≡ t.state = ap (state_after st) (sym same) ∙ call-leaves st bytes in
    record {
      answer = o.answer;
      consumed = c;
      packet = o.packet;
      next = t.state;
      finding = t.finding;
      is = pushed_room st bytes l.packet r h ∙ areas-fields t.finding c (state_bytes t.state) l.packet;
      back = finding-back t.finding c (state_bytes t.state) l.packet (packet-sized st bytes h kb) (refused-some st bytes);
      within = omega arith;
      some = λ a b d. takes-some st bytes (omega arith);
      finds = ap (findings place st) (sym same) ∙ call-finds place st bytes;
      leaves = left;
      good-next = rw left at (after-state st (take c rest) h (take-bytes c rest k));
    }

from-any : (ls : List Lending) (place : ℕ) (st : State) (rest : List ℕ) → is_state st ≡ true → Bytes rest → From place st rest (series (state_bytes st) rest ls)
unfolding series all_taken all_found last_line findings state_after
from-any [] place st rest h k = record { within = omega arith; found = refl; left = refl }
from-any (l ∷ ls) place st rest h k =
    let w = call place st rest l h k (dec_le PACKET_ROOM (length l.packet)) in
    let c = w.consumed in
    rw (series-next (state_bytes st) rest l ls _ w.is)
    (from_next place st w.next rest w.finding w.answer c w.packet _ w.back w.within w.finds w.leaves
    (from-any ls (place + c) w.next (drop c rest) w.good-next (drop-bytes c rest k)))

-- THE LAW: every series of calls on a line, from a fresh line state, whatever scraps and areas it is lent
pub followed : (line : List ℕ) (ls : List Lending) → Bytes line → Followed line (series (state_bytes fresh) line ls)
unfolding is_state
followed line ls k = let w = from-any ls 0 fresh line refl k in record { within = w.within; found = w.found; left = w.left }

-- a series that takes all of the line gives the line's findings and end state
pub whole-line : (line : List ℕ) (os : List Outcome) → Followed line os → all_taken os ≡ length line
    → (all_found 0 os ≡ line_findings line) × (last_line (state_bytes fresh) os ≡ state_bytes (line_state line))
whole-line line os w e =
    let all : take (all_taken os) line ≡ line = take_all (all_taken os) line (omega arith) in
    (w.found ∙ ap line_findings all, w.left ∙ ap (λ (l : List ℕ). state_bytes (line_state l)) all)

-- "However the line is cut": two series that took equally many bytes agree
pub cut-anyhow : (line : List ℕ) (ls ms : List Lending) → Bytes line
    → all_taken (series (state_bytes fresh) line ls) ≡ all_taken (series (state_bytes fresh) line ms)
    → (all_found 0 (series (state_bytes fresh) line ls) ≡ all_found 0 (series (state_bytes fresh) line ms))
    × (last_line (state_bytes fresh) (series (state_bytes fresh) line ls) ≡ last_line (state_bytes fresh) (series (state_bytes fresh) line ms))
cut-anyhow line ls ms k e =
    let x = followed line ls k in
    let y = followed line ms k in
    let same = ap (λ (n : ℕ). take n line) e in
    (x.found ∙ ap line_findings same ∙ sym y.found, x.left ∙ ap (λ (l : List ℕ). state_bytes (line_state l)) same ∙ sym y.left)

-- handing in the rest again ends: as many such calls as the line has bytes take all of it
taken-all : (ls : List Lending) (st : State) (rest : List ℕ) → is_state st ≡ true → Bytes rest → Able ls → length rest ≤ length ls
    → length rest ≤ all_taken (series (state_bytes st) rest ls)
unfolding all_taken
taken-all [] st rest h k a l = omega arith
taken-all (m ∷ ls) st rest h k a l = by (dec_le 1 (length rest)) (taken-all ls)
  where
    w : Call 0 st rest m
    w = call 0 st rest m h k (dec_le PACKET_ROOM (length m.packet))

    by : Dec (1 ≤ length rest)
        → ((st : State) (rest : List ℕ) → is_state st ≡ true → Bytes rest → Able ls → length rest ≤ length ls → length rest ≤ all_taken (series (state_bytes st) rest ls))
        → length rest ≤ all_taken (series (state_bytes st) rest (m ∷ ls))
    by (no g) ih = omega arith
    by (yes g) ih =
        let c = w.consumed in
        let s = w.some a.1 a.0 g in
        let d : length (drop c rest) ≡ length rest - c = length-drop c rest in
        let more = ih w.next (drop c rest) w.good-next (drop-bytes c rest k) a.2 (omega arith) in
        rw (series-next (state_bytes st) rest m ls _ w.is) (omega arith)

pub all-taken : (line : List ℕ) (ls : List Lending) → Bytes line → Able ls → length line ≤ length ls → all_taken (series (state_bytes fresh) line ls) ≡ length line
unfolding is_state
all-taken line ls k a l = omega (arith, taken-all ls fresh line refl k a l, (followed line ls k).within)
