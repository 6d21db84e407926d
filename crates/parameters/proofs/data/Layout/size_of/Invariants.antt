-- `parameters::data::Layout::size_of` meets its contract. Invariant: where the value of parameter p starts.
use Prim.Native.Nat.{ℕ, ◌+◌, ◌*◌, ◌≤◌}
use mathlib.Core.List.{List}
use mathlib.Core.Path.{◌≡◌}
use Rattle.slot.specs.declared.Slot.{Slot}
use Rattle.parameters.specs.Data.{map_bytes, long_width, offset_of}
use Rattle.parameters.specs.Given.{Given}
use Rattle.parameters.proofs.data.Layout.size_of.Given as goal

abbrev pub invariant-loop-p : goal.invariant-loop-p
invariant-loop-p l =
    (l.at ≤ map_bytes + long_width * l.p)
    × ((c : List ℕ) (s : Slot) → Given c s l.self.year l.self.bytes → l.at ≡ offset_of c s l.map l.p)
