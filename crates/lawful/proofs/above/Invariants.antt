-- `lawful::above` meets its contract. Invariant: the first i flags are found.
use Prim.Native.Nat.{ℕ, ◌<◌}
use mathlib.Core.Path.{◌≡◌}
use mathlib.Core.Bool.{false}
use lib.Dec.{ltb}
use lib.ListN.{length, get_or}
use Rattle.slot.specs.Slot.{param_count}
use Rattle.lawful.proofs.above.Given as goal

abbrev pub invariant-loop-i : goal.invariant-loop-i
invariant-loop-i l = (length l.found ≡ param_count) × ((p : ℕ) → p < l.i → get_or l.found p false ≡ ltb l.limit (get_or l.fn.bits p 0))
