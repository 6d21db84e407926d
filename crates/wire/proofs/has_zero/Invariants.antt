-- `wire::has_zero` meets its contract. The loop's invariant: the flag says whether a zero is among the bytes before the index.
use mathlib.Core.Path.{◌≡◌}
use lib.ListN.{take}
use Rattle.wire.specs.Zero.{has_zero}
use Rattle.wire.proofs.has_zero.Given as goal

abbrev pub invariant-loop-b : goal.invariant-loop-b
invariant-loop-b l = l.found ≡ has_zero (take l.b-index l.s)
