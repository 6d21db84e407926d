-- `text_value::digit::is_hex` meets its contract.
use Rattle.text_value.proofs.Fixeds.{hex-test}
use Rattle.text_value.proofs.digit.is_hex.Goals as goal

pub returns : goal.returns
returns c = rw c.is_decimal.ensures (hex-test c.args.c)
