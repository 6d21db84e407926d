-- `wire::clear` meets its contract. The loop's invariant: the bytes before the index are zeros, and the others are as they were.
use mathlib.Core.Path.{◌≡◌}
use mathlib.Core.List.{◌++◌}
use lib.ListN.{drop, replicate}
use Rattle.wire.proofs.clear.Given as goal

abbrev pub invariant-loop-b : goal.invariant-loop-b
invariant-loop-b l = l.area ≡ replicate l.b-index 0 ++ drop l.b-index l.initial.area
