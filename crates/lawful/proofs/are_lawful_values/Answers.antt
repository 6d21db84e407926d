use mathlib.Core.Path.{◌≡◌, refl}
use native.Mathlib.Omega.{arith}
use Rattle.wire.specs.Every.{every}
use Rattle.wire.proofs.Chains.{every-grow}
use Rattle.slot.specs.Slot.{param_count}
use Rattle.lawful.proofs.are_lawful_values.Goals as goal

pub loop-i-init : goal.loop-i-init
unfolding every
loop-i-init c = refl

pub loop-i-preserved : goal.loop-i-preserved
loop-i-preserved c =
    let i = c.loop-i.i in
    every-grow _ _ c.loop-i.invariant
    (c.is_lawful_value-lawful.ensures _ (c.above-above0.ensures i (omega arith)) (c.above-above1.ensures i (omega arith)))

pub returns : goal.returns
returns c = let e : c.loop-i.i ≡ param_count = omega arith in rw (← e) c.loop-i.invariant
