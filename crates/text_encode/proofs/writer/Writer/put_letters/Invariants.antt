-- `text_encode::writer::Writer::put_letters` meets its contract: those of what is left of the number are still to be written.
use Prim.Native.Nat.{◌<◌, ◌^◌}
use Rattle.text.specs.Text.{letters}
use Rattle.text_encode.proofs.Writing.{Left}
use Rattle.text_encode.proofs.writer.Writer.put_letters.Given as goal

abbrev pub invariant-loop-left : goal.invariant-loop-left
invariant-loop-left l = Left l.initial.self (letters l.bits) l.self (letters l.left) × (l.left < 2 ^ 32)

abbrev pub decreases-loop-left : goal.decreases-loop-left
decreases-loop-left l = l.left
