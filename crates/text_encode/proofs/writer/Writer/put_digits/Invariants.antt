-- `text_encode::writer::Writer::put_digits` meets its contract. The invariant: what the first i digits of `left` make of the text is what all digits make of it.
use Prim.Native.Nat.{◌≤◌}
use mathlib.Core.Path.{◌≡◌}
use lib.ListN.{length}
use lib.Seq.{sets}
use Rattle.digits.specs.Fixed.{fixed}
use Rattle.text_encode.proofs.writer.Writer.put_digits.Given as goal

abbrev pub invariant-loop-i : goal.invariant-loop-i
invariant-loop-i l =
    (sets l.initial.self.text.now l.at (fixed 10 l.count l.n) ≡ sets l.self.text.now l.at (fixed 10 l.i l.left)) × (l.i ≤ l.count)
    × (length l.self.text.now ≡ length l.initial.self.text.now)
    × (l.self.end ≡ l.initial.self.end) × (l.self.text.ghost_name ≡ l.initial.self.text.ghost_name)

abbrev pub decreases-loop-i : goal.decreases-loop-i
decreases-loop-i l = l.i
