use mathlib.Core.Path.{refl, sym, ◌∙◌}
use native.Mathlib.Omega.{arith}
use borrow.Author.Tests.{not-true, not-false}
use Rattle.wire.specs.Every.{every}
use Rattle.wire.proofs.Chains.{every-all, every_more, every-stop}
use Rattle.slot.specs.Rows.{slot_at}
use Rattle.lawful.proofs.differs_from_before.Goals as goal

pub loop-j-init : goal.loop-j-init
unfolding every
loop-j-init c = refl

pub loop-j-preserved : goal.loop-j-preserved
loop-j-preserved c =
    let a = c.args in
    let d = c.do_heads_differ.ensures (slot_at a.t.now c.loop-j.j) (slot_at a.t.now a.i) c.head_at-g.ensures
    c.head_at-h.ensures in
    every_more _ _ c.loop-j.invariant (sym d ∙ not-false _ c.if-not-do_heads_differ.false-raw)

pub returns-then-not-do_heads_differ : goal.returns-then-not-do_heads_differ
returns-then-not-do_heads_differ c =
    let a = c.args in
    let d = c.do_heads_differ.ensures (slot_at a.t.now c.loop-j.j) (slot_at a.t.now a.i) c.head_at-g.ensures
    c.head_at-h.ensures in
    every-stop a.i c.loop-j.j _ (omega arith) (sym d ∙ not-true _ c.if-not-do_heads_differ.true-raw)

pub returns : goal.returns
returns c = let l = c.loop-j in every-all _ l.j _ (omega arith) (omega arith) l.invariant
