use Prim.Native.Nat.{◌+◌, ◌≤◌}
use native.Mathlib.Omega.{arith}
use lib.ListN.{length}
use Rattle.list_decode.proofs.Filling.{stage-start, stage-ready, stage-on, stage-turn, stage-small, stage-done}
use Rattle.list_decode.proofs.fill.fill.Goals as goal

pub loop-x-init : goal.loop-x-init
loop-x-init c =
    (omega arith, stage-start c.args.s.now c.args.rows.now c.args.store.now c.requires (λ i. omega (arith, c.type_inv.s i)))

pub put_element-x-requires : goal.put_element-x-requires
put_element-x-requires c =
    let some : c.loop-x.x.pos + 8 ≤ length c.args.s.now = omega (arith, c.loop-x-test.true) in
    stage-ready c.loop-x.invariant.1 some

pub loop-x-smaller : goal.loop-x-smaller
loop-x-smaller c =
    let some : c.loop-x.x.pos + 8 ≤ length c.args.s.now = omega (arith, c.loop-x-test.true) in
    omega (arith, stage-on c.loop-x.invariant.1 some c.put_element-x.ensures)

pub loop-x-preserved : goal.loop-x-preserved
loop-x-preserved c =
    let some : c.loop-x.x.pos + 8 ≤ length c.args.s.now = omega (arith, c.loop-x-test.true) in
    let t = stage-turn c.loop-x.invariant.1 some c.put_element-x.ensures in
    (t.stands.inside, t)

pub overflow_cast-count : goal.overflow_cast-count
overflow_cast-count c = omega (arith, stage-small c.loop-x.invariant.1)

pub shape_of-rows : goal.shape_of-rows
shape_of-rows c = c.loop-x.invariant.1.rest.rows_left.size

pub shape_of-store : goal.shape_of-store
shape_of-store c = c.loop-x.invariant.1.rest.store-left.size

pub returns : goal.returns
returns c =
    stage-done c.loop-x.invariant.1 c.requires.whole (omega (arith, c.loop-x-test.false))
