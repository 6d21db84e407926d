-- `setting::same::is_same_from` meets its contract. The loop's invariant: the test from i on is the whole test.
use mathlib.Core.Path.{◌≡◌}
use lib.ListN.{drop}
use Rattle.wire.specs.Equal.{same}
use Rattle.setting.proofs.same.is_same_from.Given as goal

abbrev pub invariant-loop-i : goal.invariant-loop-i
invariant-loop-i l = same (drop l.i l.a) (drop l.i l.b) ≡ same (drop l.from l.a) (drop l.from l.b)
