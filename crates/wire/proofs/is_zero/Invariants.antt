-- `wire::is_zero` meets its contract. The loop's invariant: the flag says whether one of the bytes before the index is no zero.
use mathlib.Core.Path.{◌≡◌}
use mathlib.Core.Bool.{not}
use lib.ListN.{take}
use Rattle.wire.specs.Zero.{all_zero}
use Rattle.wire.proofs.is_zero.Given as goal

abbrev pub invariant-loop-b : goal.invariant-loop-b
invariant-loop-b l = l.other ≡ not (all_zero (take l.b-index l.s))
