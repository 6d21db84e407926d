-- `text_value::letter::vocab_at` meets its contract.
-- The invariant: the vocab of all letters is that of the letters from offset at + i on behind `bits`.
use mathlib.Core.Path.{◌≡◌}
use Prim.Native.Nat.{◌+◌, ◌-◌, ◌^◌, ◌≤◌, ◌<◌}
use lib.ListN.{drop}
use Rattle.digits.specs.Read.{and_read}
use Rattle.text.specs.Read.{letters_at, vocab_at}
use Rattle.text_value.proofs.Letters.{behind}
use Rattle.text_value.proofs.letter.vocab_at.Given as goal

abbrev pub invariant-loop-i : goal.invariant-loop-i
invariant-loop-i l =
    (vocab_at (drop l.at l.text) ≡ and_read (letters_at (4 - l.i) (drop (l.at + l.i) l.text)) (behind l.i l.unit l.bits))
    × (l.i ≤ 4) × (l.unit ≡ 256 ^ l.i) × (l.bits < l.unit)
