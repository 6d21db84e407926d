-- `list_skip::run_end` meets its contract. The loop's invariant: the end of those that are left is the end of all.
use Prim.Native.Nat.{◌-◌}
use mathlib.Core.Path.{◌≡◌}
use Rattle.list_skip.specs.Skip.{run_end}
use Rattle.list_skip.proofs.run_end.Given as goal

abbrev pub invariant-loop-done : goal.invariant-loop-done
invariant-loop-done l = run_end l.s (l.n - l.done) l.pos ≡ run_end l.s l.n l.at
