use mathlib.Core.Path.{◌∙◌}
use mathlib.Core.Bool.{false}
use native.Mathlib.Omega.{arith}
use lib.ListN.{length-set}
use lib.Seq.{get_or-set_same, get_or-set_other}
use borrow.Author.Count.{below_more}
use Rattle.lawful.proofs.above.Goals as goal

pub loop-i-preserved : goal.loop-i-preserved
loop-i-preserved c =
    let l = c.loop-i in (
      length-set l.found l.i _ ∙ l.invariant.0,
      below_more _ l.i
          (λ p h. get_or-set_other l.found l.i p _ false (λ e. omega arith) ∙ l.invariant.1 p h)
          (get_or-set_same l.found l.i _ false (omega arith)),
    )
