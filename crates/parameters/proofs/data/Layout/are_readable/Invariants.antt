-- `parameters::data::Layout::are_readable` meets its contract. Invariant: the first p parameters are readable where they are named.
use Prim.Native.Nat.{ℕ}
use mathlib.Core.Bool.{true}
use mathlib.Core.List.{List}
use mathlib.Core.Path.{◌≡◌}
use Rattle.wire.specs.Every.{every}
use Rattle.slot.specs.declared.Slot.{Slot}
use Rattle.parameters.specs.Data.{named, readable_if}
use Rattle.parameters.specs.Given.{Given}
use Rattle.parameters.proofs.data.Layout.are_readable.Given as goal

abbrev pub invariant-loop-p : goal.invariant-loop-p
invariant-loop-p l =
    (c : List ℕ) (s : Slot) → Given c s l.self.year l.self.bytes → every l.p (λ q. readable_if c s q (named l.map q)) ≡ true
