-- `cinder_line_push` is `line_call`: what was found, in numbers.
use mathlib.Core.Path.{ap}
use Rattle.cinder.specs.LineCall.{line_outcome, line_call}
use Rattle.cinder.proofs.line_call.cinder_line_push.Goals as goal

pub returns : goal.returns
unfolding line_call
returns c = let f = c.from.ensures in rw (f.0, f.1, f.2) (ap line_outcome c.push.ensures)
