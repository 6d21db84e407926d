-- `list_decode::run::put_each` meets its contract. The loop's invariant: the elements from `y` on are there and left to write.
use Prim.Native.Nat.{◌-◌}
use Rattle.list_decode.specs.Pieces.{run, EachHere}
use Rattle.list_decode.proofs.Writing.{Rest}
use Rattle.list_decode.proofs.run.put_each.Given as goal

abbrev pub invariant-loop : goal.invariant-loop
invariant-loop g l =
    let here = g.E.Element.here l.each l.s in
    let gives = g.E.Element.gives l.each l.s in
    EachHere here gives (l.n - l.counter) l.y.used l.y.pos
    × Rest l.initial.y (run gives l.n l.initial.y.used l.initial.y.pos) l.initial.rows l.initial.store
    l.y (run gives (l.n - l.counter) l.y.used l.y.pos) l.rows l.store
