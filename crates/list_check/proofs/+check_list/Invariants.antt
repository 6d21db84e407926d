-- `list_check::check_list` meets its contract. The loop's invariant: the whole list's answer is the answer from here on. Depth left falls at every call.
use Prim.Native.Nat.{◌-◌, ◌≤◌}
use mathlib.Core.Path.{◌≡◌}
use Rattle.list.specs.Limits.{list_limit}
use Rattle.list.specs.Parse.{list_at}
use Rattle.list_check.specs.Check.{judged}
use Rattle.list_check.proofs.Mixed.{rest}
use Rattle.list_check.proofs.+check_list.Given as goal

abbrev pub decreases-check_list : goal.decreases-check_list
decreases-check_list l = l.depth

abbrev pub invariant-loop-done : goal.invariant-loop-done
invariant-loop-done l =
    (judged (list_at l.depth list_limit l.s l.at l.code) ≡ rest (list_at (l.depth - 1) list_limit l.s) l.s l.at (l.count - l.done) l.seen l.pos) × (l.pos ≤ list_limit)
