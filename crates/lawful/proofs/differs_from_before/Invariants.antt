-- `lawful::differs_from_before` meets its contract. Invariant: slot i differs from the first j slots.
use mathlib.Core.Path.{◌≡◌}
use mathlib.Core.Bool.{true}
use Rattle.wire.specs.Every.{every}
use Rattle.slot.specs.Rows.{slot_at}
use Rattle.lawful.specs.Lawful.{slots_differ}
use Rattle.lawful.proofs.differs_from_before.Given as goal

abbrev pub invariant-loop-j : goal.invariant-loop-j
invariant-loop-j l = every l.j (λ k. slots_differ (slot_at l.t k) (slot_at l.t l.i)) ≡ true
