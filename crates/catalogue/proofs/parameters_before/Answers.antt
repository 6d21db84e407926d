use mathlib.Core.Path.{refl}
use native.Mathlib.Omega.{arith}
use Rattle.catalogue.specs.Format.{parameters_before}
use Rattle.catalogue.proofs.Steps.{parameters-more}
use Rattle.catalogue.proofs.parameters_before.Goals as goal

pub loop-i-init : goal.loop-i-init
unfolding parameters_before
loop-i-init c = (refl, omega arith)

pub loop-i-preserved : goal.loop-i-preserved
loop-i-preserved c = (rw (parameters-more, ← c.number_at-sum.ensures.0, ← c.loop-i.invariant.0), omega arith)
