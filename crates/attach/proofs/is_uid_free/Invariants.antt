-- `attach::is_uid_free` meets its contract. Invariant: the UID is not elsewhere in the first i slots.
use mathlib.Core.Bool.{true, not}
use mathlib.Core.Path.{◌≡◌}
use Rattle.wire.specs.Every.{every}
use Rattle.slot.specs.Rows.{slot_at}
use Rattle.attach.specs.Attach.{uid_elsewhere}
use Rattle.attach.proofs.is_uid_free.Given as goal

abbrev pub invariant-loop-i : goal.invariant-loop-i
invariant-loop-i l = every l.i (λ j. not (uid_elsewhere l.socket l.uid (slot_at l.t j))) ≡ true
