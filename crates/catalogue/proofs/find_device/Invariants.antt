-- `catalogue::find_device` meets its contract. Invariant: the look-up from type i on has the whole look-up's answer.
use Prim.Native.Nat.{◌*◌, ◌-◌, ◌≤◌}
use mathlib.Core.Path.{◌≡◌}
use Rattle.catalogue.specs.Format.{parameters_before}
use Rattle.catalogue.specs.Lookup.{device_from}
use Rattle.catalogue.proofs.find_device.Given as goal

abbrev pub invariant-loop-i : goal.invariant-loop-i
invariant-loop-i l =
    (l.first ≡ parameters_before l.s l.i) × (l.first ≤ 255 * l.i) × (device_from l.n l.s l.number 0 ≡ device_from (l.n - l.i) l.s l.number l.i)
