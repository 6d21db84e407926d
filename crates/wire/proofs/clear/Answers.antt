use mathlib.Core.Path.{◌∙◌}
use borrow.Author.Fill.{fill_more}
use borrow.Author.Rules.{rules}
use Rattle.wire.proofs.Zeros.{filled-all}
use Rattle.wire.proofs.clear.Goals as goal

pub loop-b-preserved : goal.loop-b-preserved
loop-b-preserved c = rw c.loop-b.invariant (fill_more c.loop-b.b-index 0 c.args.area.now (search rules))

pub returns : goal.returns
returns c = c.loop-b.invariant ∙ filled-all c.args.area.now c.loop-b.b-index (search rules) (search rules)
