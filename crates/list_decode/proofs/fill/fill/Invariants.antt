-- `list_decode::fill::fill` meets its contract. The loop's invariant: the elements behind `x` are left to write.
use Prim.Native.Nat.{◌-◌, ◌≤◌}
use lib.ListN.{length}
use Rattle.list_decode.proofs.Filling.{Stage}
use Rattle.list_decode.proofs.fill.fill.Given as goal

abbrev pub invariant-loop-x : goal.invariant-loop-x
invariant-loop-x l = (l.x.pos ≤ length l.s) × Stage l.s l.initial.rows l.initial.store l.x l.rows l.store

abbrev pub decreases-loop-x : goal.decreases-loop-x
decreases-loop-x l = length l.s - l.x.pos
