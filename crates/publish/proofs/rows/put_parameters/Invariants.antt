-- `publish::rows::put_parameters` meets its contract. Invariant: the parameters from p on, put behind what is there, give all of them.
use Prim.Native.Nat.{◌-◌, ◌≤◌}
use Rattle.slot.specs.Slot.{param_count}
use Rattle.publish.specs.Published.{parameters_from}
use Rattle.publish.proofs.Loops.{Left}
use Rattle.publish.proofs.rows.put_parameters.Given as goal

abbrev pub invariant-loop-p : goal.invariant-loop-p
invariant-loop-p l =
    (l.count ≤ l.p)
    × Left l.initial.buffer l.at (parameters_from param_count l.c l.s 0) l.buffer l.end l.count (parameters_from (param_count - l.p) l.c l.s l.p)
