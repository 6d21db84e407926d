-- `output::put_line` meets its contract: a newline behind the number.
use mathlib.Core.Path.{ap, ◌∙◌}
use Rattle.output.specs.Output.{put, puts, newline}
use Rattle.output.proofs.put_line.Goals as goal

pub returns : goal.returns
unfolding puts
returns c = c.put.ensures ∙ ap (λ t. put t newline) c.put_number-at.ensures
