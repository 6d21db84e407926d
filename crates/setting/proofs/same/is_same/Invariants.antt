-- `setting::same::is_same` meets its contract. The loop's invariant: the test from i on is the whole test.
use Prim.Native.Nat.{◌-◌, ◌≤◌}
use mathlib.Core.Path.{◌≡◌}
use lib.ListN.{length, drop}
use Rattle.wire.specs.Equal.{same}
use Rattle.setting.proofs.same.is_same.Given as goal

abbrev pub invariant-loop-i : goal.invariant-loop-i
invariant-loop-i l = (same (drop l.i l.a) (drop l.i l.b) ≡ same l.a l.b) × (l.i ≤ length l.a)

abbrev pub decreases-loop-i : goal.decreases-loop-i
decreases-loop-i l = length l.a - l.i
