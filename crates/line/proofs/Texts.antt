-- The text of a line, call by call: what is printed behind some of its bytes is the text of their findings.
use Prim.Native.Nat.{ℕ, ◌+◌, ◌-◌, ◌≤◌, ◌<◌}
use mathlib.Core.Path.{◌≡◌, refl, sym, ap, ◌∙◌}
use mathlib.Core.Bool.{true}
use mathlib.Core.List.{List, [], ◌∷◌, ◌++◌, append_assoc, append-nil, Memᴰ}
use native.Mathlib.Omega.{arith}
use lib.ListN.{length, take, drop, length-append, length-drop, get_or-append}
use lib.Seq.{take_all, take_at, take-add, length-take-le}
use borrow.Author.Tests.{le-ltb, lt-ltb}
use Rattle.wire.specs.Number.{Bytes}
use Rattle.wire.specs.Area.{over}
use Rattle.errors.specs.declared.Error.{Error}
use Rattle.errors.specs.Number.{number_of}
use Rattle.wire.proofs.ByteLists.{take-bytes, drop-bytes}
use Rattle.packet.specs.Packet.{PACKET_ROOM, length_byte}
use Rattle.packet_line.specs.declared.Finding.{Finding as Code}
use Rattle.packet_line.specs.declared.Finding.TheVariants as code
use Rattle.packet_line.specs.State.{State, fresh, skipping, opened, inside, is_state, state_bytes, state_in}
use Rattle.packet_line.specs.Turn.{Finding, nothing, good, refused}
use Rattle.packet_line.specs.Findings.{Found, found, noted, findings, state_after, line_findings, line_state}
use Rattle.packet_line.specs.Push.{more_wanted, handed_over, refusal, Taken, taken_from, Outcome, outcome, in_areas, outcome_of, pushed, answer_of}
use Rattle.packet_line.specs.Whole.{Standing, standing, handing, handed}
use Rattle.packet_line.proofs.States.{state-back, line-good}
use Rattle.packet_line.proofs.Taking.{taken-within}
use Rattle.packet_line.proofs.Calls.{call-finds, call-leaves, nothing-all, takes-some, refused-some, packet-sized, pushed_room, areas-fields}
use Rattle.packet_line.proofs.Cuts.{findings-append, after-append}
use Rattle.packet_line.proofs.Exactly.{handed-accepted}
use Rattle.output.proofs.Digits.{decimal-short}
use Rattle.report.specs.Limits.{input_limit}
use Rattle.report.specs.Text.{too_long}
use Rattle.report.specs.Added.{Added}
use Rattle.line.specs.Limits.{longest_line}
use Rattle.line.specs.Held.{packet_in, Holds}
use Rattle.line.specs.Text.{type_of, packet_line, refused_line, finding_line, finding_lines, phase_name, end_line, line_text, printed}

-- every text line fits into the room that is named for it
pub packet-short : (at : ℕ) (packet : List ℕ) → length (packet_line at packet) ≤ longest_line
unfolding packet_line
packet-short at packet = simp length-append (omega (arith, decimal-short at, decimal-short (length packet), decimal-short (type_of packet)))

pub refused-short : (number at : ℕ) → length (refused_line number at) ≤ longest_line
unfolding refused_line
refused-short number at = simp length-append (omega (arith, decimal-short number, decimal-short at))

pub end_short : (size : ℕ) (st : State) → length (end_line size st) ≤ longest_line
unfolding end_line phase_name
end_short size fresh = simp length-append (omega (arith, decimal-short size))
end_short size skipping = simp length-append (omega (arith, decimal-short size))
end_short size opened = simp length-append (omega (arith, decimal-short size))
end_short size (inside n held) = simp length-append (omega (arith, decimal-short size))

-- the limit of the input
pub within-limit : (s : List ℕ) → length s ≤ input_limit → printed s ≡ line_text s
unfolding printed
within-limit s h = rw (le-ltb input_limit (length s) h)

pub over-limit : (s : List ℕ) → input_limit < length s → printed s ≡ too_long
unfolding printed
over-limit s h = rw (lt-ltb input_limit (length s) h)

-- findings in a row
lines-append : (fs gs : List Found) → finding_lines (fs ++ gs) ≡ finding_lines fs ++ finding_lines gs
unfolding finding_lines
lines-append [] gs = refl
lines-append (f ∷ fs) gs =
    ap (λ (x : List ℕ). finding_line f.place f.finding ++ x) (lines-append fs gs)
    ∙ sym (append_assoc (finding_line f.place f.finding) (finding_lines fs) (finding_lines gs))

lines_noted : (place : ℕ) (f : Finding) → finding_lines (noted place f []) ≡ finding_line place f
unfolding finding_lines
lines_noted place nothing = refl
lines_noted place (good packet) = append-nil (packet_line (place + 1 - length packet) packet)
lines_noted place (refused number) = append-nil (refused_line number place)

-- the last of findings hands its packet over
handed-last : (fs : List Found) (place : ℕ) (packet : List ℕ) → Memᴰ (standing (place + 1 - length packet) packet) (handed (fs ++ found place (good packet) ∷ []))
unfolding handed
handed-last [] place packet = mathlib.Core.List.Memᴰ.head refl
handed-last (f ∷ fs) place packet = go f.finding (handed-last fs place packet)
  where
    x : Standing
    x = standing (place + 1 - length packet) packet

    go : (g : Finding) → Memᴰ x (handed (fs ++ found place (good packet) ∷ []))
        → Memᴰ x (handing f.place g (handed (fs ++ found place (good packet) ∷ [])))
    go nothing m = m
    go (good other) m = mathlib.Core.List.Memᴰ.tail m
    go (refused number) m = m

-- a call that finds a packet takes a byte
good-some : (st : State) (rest packet : List ℕ) → (taken_from st rest).finding ≡ good packet → 1 ≤ (taken_from st rest).consumed
unfolding taken_from
good-some st [] packet e = absurd (let z : ◌≡◌ {A = ℕ} 0 1 = cc in omega arith)
good-some st (b ∷ rest) packet e = takes-some st (b ∷ rest) (omega arith)

-- behind the first `offset` bytes of a line, its state and the text so far are those of these bytes
pub record Done (s : List ℕ) (offset : ℕ) (line text : List ℕ) : Type 0 where
  pub state : line ≡ state_bytes (line_state (take offset s))
  pub lines : text ≡ finding_lines (line_findings (take offset s))

pub done_none : (s : List ℕ) → Done s 0 (state_bytes fresh) []
unfolding state_after findings finding_lines
done_none s = record { state = refl; lines = refl }

-- what a call leaves that hands over a packet, the last byte of which is the last that it took
pub record Handed (s line' packet' text : List ℕ) (offset used consumed : ℕ) : Type 0 where
  pub some : 1 ≤ consumed
  pub holds : Holds packet' (offset + consumed)
  pub later : (text' : List ℕ) (to : ℕ) → Added text used text' to (packet_line (offset + consumed - (length_byte packet' + 2)) (packet_in packet'))
      → Done s (offset + consumed) line' (take to text')

-- and one that refuses: the last byte that it took decides that
pub record Refusal (s line' text : List ℕ) (offset used consumed number : ℕ) : Type 0 where
  pub some : 1 ≤ consumed
  pub later : (text' : List ℕ) (to : ℕ) → Added text used text' to (refused_line number (offset + consumed - 1))
      → Done s (offset + consumed) line' (take to text')

-- what a call leaves, by what it found: more is wanted, and the last line is missing alone; a packet is handed over; one is refused
pub record Left (s line' packet' text : List ℕ) (offset used consumed : ℕ) (a : Code) : Type 0 where
  pub fits : offset + consumed ≤ length s
  pub ends : a ≡ code.Nothing → take used text ++ end_line (offset + consumed) (state_in line') ≡ line_text s
  pub hands : a ≡ code.Packet → Handed s line' packet' text offset used consumed
  pub refuses : (e : Error) → a ≡ code.Refused e → Refusal s line' text offset used consumed (number_of e)

-- a call on the bytes of a line from an offset on
module _ (s line packet line' packet' text : List ℕ) (offset used consumed : ℕ) (a : Code) (done : Done s offset line (take used text))
    (k : Bytes s) (room : PACKET_ROOM ≤ length packet) (f : offset ≤ length s)
    (o : outcome (answer_of a) consumed line' packet' ≡ pushed line (take (length s - offset) (drop offset s)) packet) where
  abbrev st : State
  st = line_state (take offset s)

  abbrev t : Taken
  t = taken_from st (drop offset s)

  lawful : is_state st ≡ true
  lawful = line-good (take offset s) (take-bytes offset s k)

  answered : outcome (answer_of a) consumed line' packet' ≡ outcome (outcome_of t packet).answer t.consumed (state_bytes t.state) (outcome_of t packet).packet
  answered =
      let all : take (length s - offset) (drop offset s) ≡ drop offset s = take_all (length s - offset) (drop offset s) (omega (arith, length-drop offset s)) in
      o ∙ rw (all, done.state) (pushed_room st (drop offset s) packet room lawful) ∙ areas-fields t.finding t.consumed (state_bytes t.state) packet

  taken_is : consumed ≡ t.consumed
  taken_is = ap (λ (z : Outcome). z.consumed) answered

  -- a call takes no more than there is
  pub fits_all : offset + consumed ≤ length s
  fits_all = omega (arith, taken_is, taken-within st (drop offset s), length-drop offset s)

  -- what is found with it, and the state behind it
  grown : line_findings (take (offset + consumed) s) ≡ line_findings (take offset s) ++ noted (offset + consumed - 1) t.finding []
  grown =
      let n : 0 + length (take offset s) ≡ offset = omega (arith, length-take-le offset s f) in
      ap line_findings (take-add offset consumed s) ∙ findings-append 0 fresh (take offset s) (take consumed (drop offset s))
      ∙ rw (n, taken_is) (ap (λ (x : List Found). line_findings (take offset s) ++ x) (call-finds offset st (drop offset s)))

  left : line_state (take (offset + consumed) s) ≡ t.state
  left =
      ap line_state (take-add offset consumed s) ∙ after-append fresh (take offset s) (take consumed (drop offset s))
      ∙ rw taken_is (call-leaves st (drop offset s))

  next : (text' : List ℕ) (to : ℕ) → Added text used text' to (finding_line (offset + consumed - 1) t.finding) → Done s (offset + consumed) line' (take to text')
  next text' to added = record {
    state = ap (λ (z : Outcome). z.line) answered ∙ ap state_bytes (sym left);
    lines =
        added.front
        ∙ ap (λ (x : List ℕ). x ++ finding_line (offset + consumed - 1) t.finding) done.lines
        ∙ ap (λ (x : List ℕ). finding_lines (line_findings (take offset s)) ++ x) (sym (lines_noted (offset + consumed - 1) t.finding))
        ∙ sym (lines-append (line_findings (take offset s)) (noted (offset + consumed - 1) t.finding []))
        ∙ ap finding_lines (sym grown);
  }

  by : (z : Code) → a ≡ z → answer_of z ≡ (outcome_of t packet).answer
  by z e = ap answer_of (sym e) ∙ ap (λ (y : Outcome). y.answer) answered

  -- more is wanted: all is taken, and the last line is missing alone
  abbrev Whole : Type 0
  Whole = take used text ++ end_line (offset + consumed) (state_in line') ≡ line_text s

  wanted-all : t.finding ≡ nothing → Whole
  unfolding line_text
  wanted-all q =
      let size : offset + consumed ≡ length s = omega (arith, taken_is, nothing-all st (drop offset s) q, length-drop offset s) in
      let all : take (offset + consumed) s ≡ s = take_all (offset + consumed) s (omega arith) in
      let d = next text used (record { front = rw q (sym (append-nil (take used text))); size = rw q (omega arith) }) in
      rw (d.lines, d.state, state-back (line_state (take (offset + consumed) s)), all, size)

  pub wanted : a ≡ code.Nothing → Whole
  wanted e = go t.finding refl (by code.Nothing e)
    where
      go : (g : Finding) → t.finding ≡ g → more_wanted ≡ (in_areas g t.consumed (state_bytes t.state) packet).answer → Whole
      go nothing q w = wanted-all q
      go (good p) q w = absurd (let z : ◌≡◌ {A = ℕ} 0 1 = cc in omega arith)
      go (refused m) q w = absurd (let z : ◌≡◌ {A = ℕ} 0 1 = cc in omega arith)

  handed-all : (p : List ℕ) → t.finding ≡ good p → Handed s line' packet' text offset used consumed
  handed-all p q =
      let h : packet' ≡ over p packet = ap (λ (z : Outcome). z.packet) answered ∙ rw q in
      let sized = packet-sized st (drop offset s) lawful (drop-bytes offset s k) p q in
      let some : 1 ≤ consumed = omega (arith, taken_is, good-some st (drop offset s) p q) in
      let last : Memᴰ (standing (offset + consumed - 1 + 1 - length p) p) (handed (line_findings (take (offset + consumed) s))) =
      rw (grown, q) (handed-last (line_findings (take offset s)) (offset + consumed - 1) p) in
      let stands = handed-accepted (take (offset + consumed) s) (take-bytes (offset + consumed) s k) _ p last in
      let split = stands.1.split in
      let first : length_byte packet' ≡ length_byte p = ap length_byte h ∙ get_or-append p (drop (length p) packet) 0 1 (omega arith) in
      let size : length_byte packet' + 2 ≡ length p = omega arith in
      let front : packet_in packet' ≡ p = rw (size, h) (take_at p (drop (length p) packet) (length p) refl) in
      let place : offset + consumed - length p ≡ offset + consumed - 1 + 1 - length p = omega arith in
      record {
        some = some;
        holds = record {
          fits = omega (arith, ap length h, length-append p (drop (length p) packet));
          within =
              let sizes = length-append stands.1.before (p ++ stands.1.later) in
              omega (arith, ap length split, sizes, length-append p stands.1.later, length-take-le (offset + consumed) s fits_all);
          accepted = rw front stands.0;
        };
        later = λ text' to added. next text' to (rw q (rw place at (rw (front, size) at added)));
      }

  pub handed-over : a ≡ code.Packet → Handed s line' packet' text offset used consumed
  handed-over e = go t.finding refl (by code.Packet e)
    where
      go : (g : Finding) → t.finding ≡ g → handed_over ≡ (in_areas g t.consumed (state_bytes t.state) packet).answer
          → Handed s line' packet' text offset used consumed
      go nothing q w = absurd (let z : ◌≡◌ {A = ℕ} 0 1 = cc in omega arith)
      go (good p) q w = handed-all p q
      go (refused m) q w = absurd (let z : ◌≡◌ {A = ℕ} 0 1 = cc in omega arith)

  pub refusal-found : (e : Error) → a ≡ code.Refused e → Refusal s line' text offset used consumed (number_of e)
  refusal-found e is = go t.finding refl (by (code.Refused e) is)
    where
      go : (g : Finding) → t.finding ≡ g → refusal (number_of e) ≡ (in_areas g t.consumed (state_bytes t.state) packet).answer
          → Refusal s line' text offset used consumed (number_of e)
      go nothing q w = absurd (let z : ◌≡◌ {A = ℕ} 0 1 = cc in omega arith)
      go (good p) q w = absurd (let z : ◌≡◌ {A = ℕ} 0 1 = cc in omega arith)
      go (refused m) q w =
          let same : number_of e ≡ m = cc in
          record {
            some = omega (arith, taken_is, refused-some st (drop offset s) m q);
            later = λ text' to added. next text' to (rw q (rw same at added));
          }

  -- all of these
  pub leaves : Left s line' packet' text offset used consumed a
  leaves = record { fits = fits_all; ends = wanted; hands = handed-over; refuses = refusal-found }
