-- `list_check::check_each` meets its contract. The loop's invariant: the whole run's answer is the answer from here on.
use Prim.Native.Nat.{◌-◌, ◌≤◌}
use mathlib.Core.Path.{◌≡◌}
use Rattle.list.specs.Parse.{in_list, typed_at}
use Rattle.list.specs.Limits.{list_limit}
use Rattle.list_check.specs.Check.{judged}
use Rattle.list_check.proofs.check_each.Given as goal

abbrev pub invariant-loop-done : goal.invariant-loop-done
invariant-loop-done l =
    (judged (in_list (typed_at list_limit l.s l.kind l.n l.at)) ≡ judged (in_list (typed_at list_limit l.s l.kind (l.n - l.done) l.pos))) × (l.pos ≤ list_limit)
