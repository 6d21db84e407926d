-- `cinder_hub_read` is `read_call`: the hub's answer in numbers.
use mathlib.Core.Path.{ap, ◌∙◌}
use Rattle.cinder.specs.HubCall.{value_numbers, read_call}
use Rattle.cinder.proofs.hub_call.cinder_hub_read.Goals as goal

pub returns : goal.returns
unfolding read_call
returns c = c.from.ensures ∙ ap value_numbers c.read_parameter.ensures
