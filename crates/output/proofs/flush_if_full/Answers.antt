-- `output::flush_if_full` meets its contract: the test of room decides.
use mathlib.Core.Path.{sym, ◌∙◌}
use Rattle.output.proofs.flush_if_full.Goals as goal

pub returns-then-has_line_room : goal.returns-then-has_line_room
returns-then-has_line_room c = rw (sym c.has_line_room.ensures ∙ c.if-has_line_room.true)

pub returns : goal.returns
returns c = rw (sym c.has_line_room.ensures ∙ c.if-has_line_room.false)
