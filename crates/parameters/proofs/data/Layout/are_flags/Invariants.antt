-- `parameters::data::Layout::are_flags` meets its contract. Invariant: where the value of parameter p starts, and the first p values are
-- flags where they must be.
use Prim.Native.Nat.{ℕ, ◌+◌, ◌*◌, ◌≤◌}
use mathlib.Core.Bool.{true}
use mathlib.Core.List.{List}
use mathlib.Core.Path.{◌≡◌}
use Rattle.wire.specs.Every.{every}
use Rattle.slot.specs.declared.Slot.{Slot}
use Rattle.parameters.specs.Data.{map_bytes, long_width, offset_of, flag_if, named, value_in}
use Rattle.parameters.specs.Given.{Given}
use Rattle.parameters.proofs.data.Layout.are_flags.Given as goal

abbrev pub invariant-loop-p : goal.invariant-loop-p
invariant-loop-p l =
    (l.at ≤ map_bytes + long_width * l.p)
    × ((c : List ℕ) (s : Slot) → Given c s l.self.year l.self.bytes →
    (l.at ≡ offset_of c s l.map l.p) × (every l.p (λ q. flag_if c s q (named l.map q) (value_in c s l.map l.payload q)) ≡ true))
