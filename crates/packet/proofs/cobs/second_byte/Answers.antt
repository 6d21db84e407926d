-- `second_byte` is the second byte of the message, by the first two codes.
use mathlib.Core.Path.{sym}
use Rattle.packet.proofs.Walks.{second-two, second-other, second-ones, second-late}
use Rattle.packet.proofs.cobs.second_byte.Goals as goal

pub returns-then-part-eq2 : goal.returns-then-part-eq2
returns-then-part-eq2 c = sym (second-two c.args.part.now c.requires.0 c.if-part-eq2.true)

pub returns-then-part-ne1 : goal.returns-then-part-ne1
returns-then-part-ne1 c = sym (second-other c.args.part.now c.requires.0 c.requires.1 c.if-part-eq2.false c.if-part-ne1.true)

pub returns-then-part-eq1 : goal.returns-then-part-eq1
returns-then-part-eq1 c = sym (second-ones c.args.part.now c.requires.0 c.if-part-ne1.false c.if-part-eq1.true)

pub returns : goal.returns
returns c = sym (second-late c.args.part.now c.requires.0 c.requires.1 c.if-part-ne1.false c.if-part-eq1.false)
