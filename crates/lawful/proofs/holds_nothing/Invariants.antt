-- `lawful::holds_nothing` meets its contract. Invariant: the flag speaks of the first i parameters.
use mathlib.Core.Path.{◌≡◌}
use Rattle.wire.specs.Every.{every}
use Rattle.lawful.specs.Lawful.{nothing_held}
use Rattle.lawful.proofs.holds_nothing.Given as goal

abbrev pub invariant-loop-i : goal.invariant-loop-i
invariant-loop-i l = l.nothing ≡ every l.i (nothing_held l.s)
