-- `slot::read::words_of` meets its contract. Invariant: the first p numbers are those of the row.
use Prim.Native.Nat.{◌+◌, ◌*◌}
use mathlib.Core.Path.{◌≡◌}
use lib.ListN.{length, take}
use Rattle.wire.specs.Number.{number_at}
use Rattle.slot.specs.Slot.{param_count, tabulate}
use Rattle.slot.specs.Row.{bits_from, word_size}
use Rattle.slot.proofs.read.words_of.Given as goal

abbrev pub invariant-loop-p : goal.invariant-loop-p
invariant-loop-p l =
    (length l.words ≡ param_count) × (take l.p l.words ≡ tabulate l.p (λ p. number_at word_size l.row (bits_from + word_size * p)))
