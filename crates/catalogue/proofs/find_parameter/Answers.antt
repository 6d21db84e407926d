-- `catalogue::find_parameter` meets its contract, by the look-up of its device type.
use Rattle.catalogue.specs.Lookup.{parameter_in}
use Rattle.catalogue.proofs.find_parameter.Goals as goal

pub returns-in_err-d : goal.returns-in_err-d
unfolding parameter_in
returns-in_err-d c = let e = c.in_err-d.was in rw (c.from_residual.ensures, ← c.find_device.ensures, e)

pub returns : goal.returns
returns c = let e = c.in_ok-d.was in rw (← c.find_device.ensures, e) c.parameter_of.ensures
