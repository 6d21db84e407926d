-- `lawful::are_lawful_values` meets its contract. Invariant: the flag speaks of the first i values.
use mathlib.Core.Path.{◌≡◌}
use Rattle.std.specs.Prelude.{Some}
use lib.ListN.{get_or}
use Rattle.wire.specs.Every.{every}
use Rattle.catalogue.specs.Format.{described}
use Rattle.slot.specs.Slot.{present_at, bits_at}
use Rattle.lawful.specs.Lawful.{value_lawful}
use Rattle.lawful.proofs.are_lawful_values.Given as goal

abbrev pub invariant-loop-i : goal.invariant-loop-i
invariant-loop-i l = l.lawful ≡ every l.i (λ p. value_lawful (Some (described (get_or l.fn.bytes p 0))) (present_at l.s p) (bits_at l.s p))
