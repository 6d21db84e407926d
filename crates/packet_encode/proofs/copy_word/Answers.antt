-- `copy_word` puts the eight bytes of the word in the place of those of the part.
use mathlib.Core.Path.{sym, ap, ◌∙◌}
use mathlib.Core.List.{[]}
use native.Mathlib.Omega.{arith}
use lib.ListN.{length-set, drop_of_length-le}
use lib.Seq.{sets-eq}
use Rattle.packet_encode.specs.Word.{word_size}
use Rattle.packet_encode.proofs.EncodeSteps.{spelled, word-spelled}
use Rattle.packet_encode.proofs.copy_word.Goals as goal

pub shape_of-part : goal.shape_of-part
shape_of-part c = simp length-set

pub returns : goal.returns
returns c = let w = c.args.word.now in let p = c.args.part.now in
    sets-eq (spelled w []) p 0 (omega (arith, c.requires.1))
    ∙ ap (spelled w) (drop_of_length-le p {i = word_size} (omega (arith, c.requires.1)))
    ∙ sym (word-spelled w c.requires.0)
