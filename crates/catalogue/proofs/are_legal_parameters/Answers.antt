use mathlib.Core.Path.{refl}
use Rattle.wire.specs.Every.{every}
use Rattle.wire.proofs.Chains.{every-grow}
use Rattle.catalogue.proofs.are_legal_parameters.Goals as goal

pub loop-b-init : goal.loop-b-init
unfolding every
loop-b-init c = refl

pub loop-b-preserved : goal.loop-b-preserved
loop-b-preserved c = every-grow _ _ c.loop-b.invariant c.is_legal_parameter-legal.ensures
