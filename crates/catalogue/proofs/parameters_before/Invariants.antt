-- `catalogue::parameters_before` meets its contract. Invariant: the sum is that of the first i types.
use Prim.Native.Nat.{◌*◌, ◌≤◌}
use mathlib.Core.Path.{◌≡◌}
use Rattle.catalogue.specs.Format.{parameters_before}
use Rattle.catalogue.proofs.parameters_before.Given as goal

abbrev pub invariant-loop-i : goal.invariant-loop-i
invariant-loop-i l = (l.sum ≡ parameters_before l.s l.i) × (l.sum ≤ 255 * l.i)
