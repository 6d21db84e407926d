use mathlib.Core.Path.{◌≡◌, refl, sym, ◌∙◌}
use mathlib.Core.Bool.{true, false}
use Prim.Native.Nat.{◌^◌, ◌<◌}
use native.Mathlib.Omega.{arith}
use borrow.Author.Tests.{not-true, not-false}
use Rattle.wire.proofs.Chains.{every_more, every-stop}
use Rattle.wire.specs.Every.{every}
use Rattle.slot.specs.Slot.{param_count}
use Rattle.parameters.specs.Data.{all_readable, named}
use Rattle.parameters.proofs.ByBytes.{readable-by}
use Rattle.parameters.proofs.Walks.{readables-rest}
use Rattle.parameters.proofs.data.Layout.are_readable.Goals as goal
use Rattle.parameters.proofs.data.Layout.are_readable.Goals.{then-is_named+else-not-q, else-is_named}

pub loop-p-init : goal.loop-p-init
unfolding every
loop-p-init c k s g = refl

pub returns-then-not-q : goal.returns-then-not-q
unfolding all_readable
returns-then-not-q c k s g =
    let l = c.loop-p in
    let below : l.p < param_count = omega (arith, c.bits_of-p-end.ensures) in
    let n : true ≡ named c.args.map l.p = c.if-is_named.ensures in
    let test = readable-by s g.bytes-are l.p below c.describe-q.ensures in
    every-stop param_count l.p _ below (rw (← n) (sym test ∙ not-true _ c.if-not-q.true))

pub loop-p-preserved : goal.loop-p-preserved
loop-p-preserved c k s g =
    let l = c.loop-p in
    let below : l.p < param_count = omega (arith, c.bits_of-p-end.ensures) in
    elim c.if-is_named.branch [
      | then-is_named+else-not-q w ↦
          let n : true ≡ named c.args.map l.p = w.if-is_named.ensures in
          let test = readable-by s g.bytes-are l.p below w.describe-q.ensures in
          every_more _ _ (l.invariant k s g) (rw (← n) (sym test ∙ not-false _ w.if-not-q.false))
      | else-is_named w ↦
          let n : false ≡ named c.args.map l.p = w.if-is_named.ensures in
          every_more _ _ (l.invariant k s g) (rw (← n))
    ]

pub returns : goal.returns
returns c k s g =
    let l = c.loop-p in
    let e : l.p ≡ c.bits_of-p-end.result = omega arith in
    let m : c.args.map < 2 ^ l.p = rw e c.bits_of-p-end.ensures.0 in
    readables-rest c.args.map l.p m (omega (arith, c.bits_of-p-end.ensures)) k s (l.invariant k s g)
