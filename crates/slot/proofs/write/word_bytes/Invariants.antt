-- `slot::write::word_bytes` meets its contract. Invariant: the bytes of the first p numbers are written.
use Prim.Native.Nat.{◌*◌}
use mathlib.Core.Path.{◌≡◌}
use lib.ListN.{length, take, get_or}
use Rattle.slot.specs.Slot.{param_count}
use Rattle.slot.specs.Row.{word_size, spelled}
use Rattle.slot.proofs.write.word_bytes.Given as goal

abbrev pub invariant-loop-p : goal.invariant-loop-p
invariant-loop-p l =
    (length l.bytes ≡ word_size * param_count) × (take (word_size * l.p) l.bytes ≡ spelled l.p (λ p. get_or l.bits p 0))
