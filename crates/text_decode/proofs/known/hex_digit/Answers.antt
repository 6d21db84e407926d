-- `text_decode::known::hex_digit` meets its contract.
use Rattle.text_value.proofs.Fixeds.{hex-value}
use Rattle.text_decode.proofs.known.hex_digit.Goals as goal

pub returns : goal.returns
returns c = hex-value c.args.c c.requires
