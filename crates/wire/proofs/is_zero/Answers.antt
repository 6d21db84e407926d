use mathlib.Core.Path.{refl, ap, ◌∙◌}
use mathlib.Core.Bool.{not}
use lib.Seq.{take_all}
use borrow.Author.Rules.{rules}
use Rattle.wire.specs.Zero.{all_zero}
use Rattle.wire.proofs.Zeros.{other-more, not-other}
use Rattle.wire.proofs.is_zero.Goals as goal

pub loop-b-init : goal.loop-b-init
unfolding all_zero
loop-b-init c = refl

pub loop-b-preserved : goal.loop-b-preserved
loop-b-preserved c = rw c.loop-b.invariant (other-more c.args.s.now c.loop-b.b-index (search rules))

pub returns : goal.returns
returns c = ap not c.loop-b.invariant ∙ not-other _ ∙ ap all_zero (take_all c.loop-b.b-index c.args.s.now (search rules))
