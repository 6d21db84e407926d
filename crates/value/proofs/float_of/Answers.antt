-- `value::float_of` meets its contract: bits up to an infinity's are no NaN's.
use Rattle.value.proofs.Floats.{not-nan}
use Rattle.value.proofs.float_of.Goals as goal

pub float_from_bits-result : goal.float_from_bits-result
float_from_bits-result c = not-nan c.args.bits c.if-bits-le-INFINITY.true
