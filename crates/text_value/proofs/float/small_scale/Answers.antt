-- `text_value::float::small_scale` meets its contract.
use Rattle.text_value.proofs.float.small_scale.Goals as goal

pub returns-then-low-fraction : goal.returns-then-low-fraction
returns-then-low-fraction c = rw c.if-low-fraction.true

pub returns : goal.returns
returns c = rw c.if-low-fraction.false
