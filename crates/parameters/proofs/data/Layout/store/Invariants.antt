-- `parameters::data::Layout::store` meets its contract. Invariant: where the value of parameter p starts, and the bytes are those of the
-- row with the values of the first p parameters.
use Prim.Native.Nat.{ℕ, ◌+◌, ◌*◌, ◌≤◌}
use mathlib.Core.List.{List}
use mathlib.Core.Path.{◌≡◌}
use Rattle.slot.specs.Row.{slot_of}
use Rattle.parameters.specs.Data.{map_bytes, long_width, offset_of}
use Rattle.parameters.specs.Given.{Given}
use Rattle.parameters.proofs.Rows.{StoredTo}
use Rattle.parameters.proofs.data.Layout.store.Given as goal

abbrev pub invariant-loop-p : goal.invariant-loop-p
invariant-loop-p l =
    (l.at ≤ map_bytes + long_width * l.p)
    × ((c : List ℕ) → Given c (slot_of l.initial.row) l.self.year l.self.bytes →
    (l.at ≡ offset_of c (slot_of l.initial.row) l.map l.p) × StoredTo c (slot_of l.initial.row) l.map l.payload l.row l.p)
