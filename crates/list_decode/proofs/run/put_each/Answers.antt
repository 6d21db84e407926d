use Prim.Native.Nat.{◌-◌, ◌+◌, ◌<◌}
use mathlib.Core.Path.{◌≡◌}
use native.Mathlib.Omega.{arith}
use Rattle.list_decode.proofs.Writing.{rest_all}
use Rattle.list_decode.proofs.Runs.{first-here, each-room, each_turn, each-done}
use Rattle.list_decode.proofs.run.put_each.Goals as goal

pub loop-init : goal.loop-init
loop-init g c =
    let all : c.args.n - 0 ≡ c.args.n = omega arith in
    rw all (c.requires.0, rest_all _ _ _ _)

pub put-y-requires : goal.put-y-requires
put-y-requires g c =
    let e = g.E.Element in
    let a = c.args in
    let x = c.loop in
    let some : 0 < a.n - x.counter = omega arith in (
      (first-here (e.here a.each a.s.now) (e.gives a.each a.s.now) _ _ _ some x.invariant.0).0,
      each-room (e.gives a.each a.s.now) _ some x.invariant.1 c.requires.1,
    )

pub loop-preserved : goal.loop-preserved
loop-preserved g c =
    let e = g.E.Element in
    let a = c.args in
    let x = c.loop in
    let some : 0 < a.n - x.counter = omega arith in
    let fewer : a.n - x.counter - 1 ≡ a.n - (x.counter + 1) = omega arith in
    let w = c.put-y.ensures in
    let others = (first-here (e.here a.each a.s.now) (e.gives a.each a.s.now) _ _ _ some x.invariant.0).1 in
    rw (← fewer) (rw (w.used.behind, w.pos) others, each_turn (e.gives a.each a.s.now) _ some x.invariant.1 w)

pub shape_of-rows : goal.shape_of-rows
shape_of-rows g c = c.loop.invariant.1.rows_left.size

pub shape_of-store : goal.shape_of-store
shape_of-store g c = c.loop.invariant.1.store-left.size

pub returns : goal.returns
returns g c =
    let a = c.args in
    each-done (g.E.Element.gives a.each a.s.now) (a.n - c.loop.counter) (omega arith) c.loop.invariant.1
