-- `xor_word` is the exclusive or of the bytes of a word.
use mathlib.Core.Path.{sym, ◌∙◌}
use native.Mathlib.Omega.{arith}
use Rattle.packet.proofs.Sums.{xor-next, xor-past}
use Rattle.packet_encode.specs.Word.{word_size}
use Rattle.packet_encode.proofs.xor_word.Goals as goal

pub returns : goal.returns
returns c =
    let w = c.args.word.now in
    sym (xor-next w 0 c.args.start (omega (arith, c.requires))
    ∙ xor-next w 1 _ (omega (arith, c.requires))
    ∙ xor-next w 2 _ (omega (arith, c.requires))
    ∙ xor-next w 3 _ (omega (arith, c.requires))
    ∙ xor-next w 4 _ (omega (arith, c.requires))
    ∙ xor-next w 5 _ (omega (arith, c.requires))
    ∙ xor-next w 6 _ (omega (arith, c.requires))
    ∙ xor-next w 7 _ (omega (arith, c.requires))
    ∙ xor-past w word_size _ (omega (arith, c.requires)))
