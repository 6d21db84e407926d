use mathlib.Core.Path.{◌≡◌, refl}
use native.Mathlib.Omega.{arith}
use Rattle.wire.specs.Every.{every}
use Rattle.wire.proofs.Chains.{every-grow}
use Rattle.lawful.specs.Lawful.{nothing_held}
use Rattle.slot.specs.Slot.{param_count}
use Rattle.lawful.proofs.holds_nothing.Goals as goal

pub loop-i-init : goal.loop-i-init
unfolding every
loop-i-init c = refl

pub loop-i-preserved : goal.loop-i-preserved
unfolding nothing_held
loop-i-preserved c = every-grow _ _ c.loop-i.invariant refl

pub returns : goal.returns
returns c = let e : c.loop-i.i ≡ param_count = omega arith in rw (← e) c.loop-i.invariant
