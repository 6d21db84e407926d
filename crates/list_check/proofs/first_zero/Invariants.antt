-- `list_check::first_zero` meets its contract. The loop's invariant: the first zero is not behind i, so that i is inside the bytes.
use Prim.Native.Nat.{◌-◌, ◌≤◌}
use Rattle.list_check.specs.Steps.{first_zero}
use Rattle.list_check.proofs.first_zero.Given as goal

abbrev pub invariant-loop-i : goal.invariant-loop-i
invariant-loop-i l = l.i ≤ first_zero l.s

abbrev pub decreases-loop-i : goal.decreases-loop-i
decreases-loop-i l = first_zero l.s - l.i
