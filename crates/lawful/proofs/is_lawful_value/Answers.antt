-- `lawful::is_lawful_value` meets its contract: its tests together are the definition's.
use Rattle.lawful.specs.Lawful.{value_lawful}
use Rattle.table.proofs.Tests.{either, not-above, not-above-zero}
use Rattle.lawful.proofs.Tests.{is-bool}
use Rattle.lawful.proofs.is_lawful_value.Goals as goal

pub returns : goal.returns
unfolding value_lawful
returns c bits above0 above1 =
    rw (c.ne.ensures, is-bool, c.describe-p.ensures, above0, above1, not-above bits 1, not-above-zero bits)
    (either c.args.present _ _)
