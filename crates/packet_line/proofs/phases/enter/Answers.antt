-- `enter` goes by the phase.
use Rattle.std.proofs.Common.{◌≡◌, ℕ, ◌≤◌, ap, ◌∙◌, arith, List, get_or, true}
use Rattle.packet_line.proofs.States.{state-of-line}
use Rattle.packet_line.proofs.Judging.{line-long, fresh_in, skipping-in, opened_in, inside-in, inside-line}
use Rattle.packet_line.proofs.Starts.{reached-inside}
use Rattle.packet_line.specs.State.{State, fresh, skipping, opened, state_bytes, state_in, is_line}
use Rattle.packet_line.proofs.phases.enter.Goals as goal

-- the area holds the bytes of its state
spelled : (line : List ℕ) (st : State) → is_line line ≡ true → state_in line ≡ st → line ≡ state_bytes st
spelled line st i e = (state-of-line line i).1 ∙ ap state_bytes e

pub bounds-line-0 : goal.bounds-line-0
bounds-line-0 c = omega (arith, line-long _ c.requires.0)

pub from_fresh-requires : goal.from_fresh-requires
from_fresh-requires c = (spelled _ fresh c.requires.0 (fresh_in c.args.line.now c.in-0.is), c.requires.1)

pub from_skipping-requires : goal.from_skipping-requires
from_skipping-requires c = (spelled _ skipping c.requires.0 (skipping-in c.args.line.now c.in-1.is), c.requires.1)

pub from_opened-requires : goal.from_opened-requires
from_opened-requires c = spelled _ opened c.requires.0 (opened_in c.args.line.now c.in-2.is)

pub returns-in-0 : goal.returns-in-0
returns-in-0 c = rw (fresh_in c.args.line.now c.in-0.is) c.from_fresh.ensures

pub returns-in-1 : goal.returns-in-1
returns-in-1 c = rw (skipping-in c.args.line.now c.in-1.is) c.from_skipping.ensures

pub returns-in-2 : goal.returns-in-2
returns-in-2 c = rw (opened_in c.args.line.now c.in-2.is) (c.from_opened.ensures c.args.packet.now)

pub returns-in_default : goal.returns-in_default
returns-in_default c =
    let l : 3 ≤ get_or c.args.line.now 0 0 = omega arith in
    rw c.begun.ensures (reached-inside c.args.line.now c.args.bytes.now c.args.packet.now (inside-line c.args.line.now l c.requires.0) (inside-in c.args.line.now l))
