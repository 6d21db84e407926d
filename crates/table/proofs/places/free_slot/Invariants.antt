-- `free_slot` meets its contract. Invariant: the first i slots are taken.
use Prim.Native.Nat.{ℕ, ◌<◌}
use mathlib.Core.Path.{◌≡◌}
use mathlib.Core.Bool.{false, not}
use Rattle.slot.specs.Rows.{slot_at}
use Rattle.table.proofs.places.free_slot.Given as goal

abbrev pub invariant-loop-i : goal.invariant-loop-i
invariant-loop-i l = (k : ℕ) → k < l.i → not (slot_at l.t k).taken ≡ false
