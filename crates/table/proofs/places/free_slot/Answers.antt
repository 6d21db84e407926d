use mathlib.Core.Path.{sym, ◌∙◌}
use native.Mathlib.Omega.{arith}
use Rattle.std.proofs.Common.{below_more}
use Rattle.std.specs.Prelude.{Some, None}
use Rattle.table.proofs.Steps.{free_is}
use Rattle.table.proofs.places.free_slot.Goals as goal

pub loop-i-preserved : goal.loop-i-preserved
loop-i-preserved c = below_more _ _ c.loop-i.invariant (sym c.is_free.ensures ∙ c.if-is_free.false)

pub returns-then-is_free : goal.returns-then-is_free
returns-then-is_free c =
    let i = c.loop-i.i in
    free_is c.args.slots c.args.t.now (Some i)
    (omega arith, c.loop-i-test.true, sym c.is_free.ensures ∙ c.if-is_free.true, λ k l m. c.loop-i.invariant k m)

pub returns : goal.returns
returns c = free_is c.args.slots c.args.t.now None (λ k l m. c.loop-i.invariant k (omega arith))
