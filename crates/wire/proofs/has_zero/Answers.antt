use mathlib.Core.Path.{refl, ap, ◌∙◌}
use lib.Seq.{take_all}
use borrow.Author.Rules.{rules}
use Rattle.wire.specs.Zero.{has_zero}
use Rattle.wire.proofs.Zeros.{zero_more}
use Rattle.wire.proofs.has_zero.Goals as goal

pub loop-b-init : goal.loop-b-init
unfolding has_zero
loop-b-init c = refl

pub loop-b-preserved : goal.loop-b-preserved
loop-b-preserved c = rw c.loop-b.invariant (zero_more c.args.s.now c.loop-b.b-index (search rules))

pub returns : goal.returns
returns c = c.loop-b.invariant ∙ ap has_zero (take_all c.loop-b.b-index c.args.s.now (search rules))
