-- `is_inside` makes the tests of a state inside a part, one after the other.
use Rattle.std.proofs.Common.{◌≡◌, ◌-◌, ◌≤◌, true, length, get_or, take, drop, ap, ◌∙◌, arith, length-drop, List, ℕ}
use Rattle.packet_line.proofs.Areas.{Inside, inside-area}
use Rattle.packet_line.specs.State.{is_line}
use Rattle.packet_line.proofs.Starts.{rest_of}
use Rattle.packet_line.proofs.Judging.{no_line, inside-line, mark-line, inside-test}
use Rattle.packet_line.proofs.state.is_inside.Goals as goal

phase : (line : List ℕ) → get_or line 0 0 ≡ 3 → 3 ≤ get_or line 0 0
phase line e = omega arith

area : (line : List ℕ) → get_or line 0 0 ≡ 3 → is_line line ≡ true → Inside line
area line e i = inside-area _ (inside-line _ (phase line e) i)

pub returns-then-line-ne0 : goal.returns-then-line-ne0
returns-then-line-ne0 c = let p = phase c.args.line.now c.requires.1 in no_line _ (λ i. c.if-line-ne0.true (mark-line c.args.line.now p i))

pub returns-then-size-lt-PART_LEAST : goal.returns-then-size-lt-PART_LEAST
returns-then-size-lt-PART_LEAST c = no_line _ (λ i. omega (arith, c.if-size-lt-PART_LEAST.true, (area _ c.requires.1 i).part.least))

pub returns-then-size-line : goal.returns-then-size-line
returns-then-size-line c = no_line _ (λ i. omega (arith, c.if-size-line.true, (area _ c.requires.1 i).part.fewer, (area _ c.requires.1 i).count))

pub is_marked-requires : goal.is_marked-requires
is_marked-requires c =
    let line = c.args.line.now in
    let top = c.type_inv.line 3 in
    let n : length (take (length line - 3) (drop 3 line)) ≡ 256 = ap length (rest_of line 3) ∙ omega (arith, length-drop 3 line, c.requires.0) in
    (omega (arith, n, top, c.if-size-line.false), omega (arith, n))

pub returns : goal.returns
returns c =
    let top = c.type_inv.line 3 in
    c.is_marked.ensures ∙ inside-test c.args.line.now c.requires.0 c.requires.1 c.if-line-ne0.false c.if-size-lt-PART_LEAST.false (omega arith) c.if-size-line.false
