-- `slot::read::flags_of` meets its contract. Invariant: the first p flags are those of the row.
use Prim.Native.Nat.{◌+◌}
use mathlib.Core.Path.{◌≡◌}
use lib.Dec.{eqb}
use lib.ListN.{length, take, get_or}
use Rattle.slot.specs.Slot.{param_count, tabulate}
use Rattle.slot.specs.Row.{present_from}
use Rattle.slot.proofs.read.flags_of.Given as goal

abbrev pub invariant-loop-p : goal.invariant-loop-p
invariant-loop-p l =
    (length l.flags ≡ param_count) × (take l.p l.flags ≡ tabulate l.p (λ p. eqb (get_or l.row (present_from + p) 0) 1))
