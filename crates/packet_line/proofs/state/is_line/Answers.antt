-- `is_line` tests the length and the phase, then zeros or the state of a part.
use Rattle.std.proofs.Common.{◌∙◌}
use Rattle.packet_line.proofs.Judging.{no_line, line-long, clean-test, phase-line}
use Rattle.packet_line.proofs.state.is_line.Goals as goal

pub returns-then-line-ne-LINE_ROOM : goal.returns-then-line-ne-LINE_ROOM
returns-then-line-ne-LINE_ROOM c = no_line _ (λ i. c.if-line-ne-LINE_ROOM.true (line-long _ i))

pub returns-then-line-lt-INSIDE : goal.returns-then-line-lt-INSIDE
returns-then-line-lt-INSIDE c =
    c.is_zero.ensures ∙ clean-test c.args.line.now c.if-line-ne-LINE_ROOM.false c.if-line-lt-INSIDE.true

pub returns-then-line-ne-INSIDE : goal.returns-then-line-ne-INSIDE
returns-then-line-ne-INSIDE c = no_line _ (λ i. c.if-line-ne-INSIDE.true (phase-line _ c.if-line-lt-INSIDE.false i))

pub is_inside-requires : goal.is_inside-requires
is_inside-requires c = (c.if-line-ne-LINE_ROOM.false, c.if-line-ne-INSIDE.false)

pub returns : goal.returns
returns c = c.is_inside.ensures
