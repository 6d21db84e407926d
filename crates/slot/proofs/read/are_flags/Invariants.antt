-- `slot::read::are_flags` meets its contract. Invariant: the answer speaks of the first flags.
use Prim.Native.Nat.{◌+◌}
use mathlib.Core.Path.{◌≡◌}
use lib.ListN.{get_or}
use Rattle.wire.specs.Every.{every}
use Rattle.slot.specs.Row.{present_from, flag_legal}
use Rattle.slot.proofs.read.are_flags.Given as goal

abbrev pub invariant-loop-flag : goal.invariant-loop-flag
invariant-loop-flag l = l.legal ≡ every l.flag-index (λ p. flag_legal (get_or l.row (present_from + p) 0))
