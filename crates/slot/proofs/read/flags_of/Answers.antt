use mathlib.Core.Path.{refl, ◌∙◌}
use native.Mathlib.Omega.{arith}
use lib.ListN.{length-set}
use Rattle.slot.specs.Slot.{param_count, tabulate}
use Rattle.slot.proofs.Filling.{fill_step, fill-all}
use Rattle.slot.proofs.read.flags_of.Goals as goal

pub loop-p-init : goal.loop-p-init
unfolding tabulate
loop-p-init c = (refl, refl)

pub loop-p-preserved : goal.loop-p-preserved
loop-p-preserved c =
    let l = c.loop-p in
    (length-set l.flags l.p _ ∙ l.invariant.0, fill_step l.flags l.p _ (omega (arith, l.invariant.0)) l.invariant.1)

pub returns : goal.returns
returns c = let l = c.loop-p in fill-all param_count l.flags l.p _ (omega arith) (omega arith) l.invariant.0 l.invariant.1
