-- `parameters::data::is_flag` meets its contract, by the kind.
use Rattle.parameters.proofs.Widths.{width_is}
use Rattle.parameters.proofs.data.is_flag.Goals as goal

pub value_at-v-requires : goal.value_at-v-requires
value_at-v-requires c = rw c.width_of.ensures.0 (width_is _ _)
