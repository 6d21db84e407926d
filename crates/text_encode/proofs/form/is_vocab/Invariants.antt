-- `text_encode::form::is_vocab` meets its contract. The invariant: the answer is that for the bytes left.
use Prim.Native.Nat.{◌^◌, ◌<◌}
use mathlib.Core.Path.{◌≡◌}
use Rattle.text.specs.Form.{is_vocab}
use Rattle.text_encode.proofs.Vocabs.{all_vocab}
use Rattle.text_encode.proofs.form.is_vocab.Given as goal

abbrev pub invariant-loop-left : goal.invariant-loop-left
invariant-loop-left l = (is_vocab l.bits ≡ all_vocab l.left) × (l.left < 2 ^ 32)

abbrev pub decreases-loop-left : goal.decreases-loop-left
decreases-loop-left l = l.left
