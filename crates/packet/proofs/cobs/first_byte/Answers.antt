-- `first_byte` is the first byte of the message, by the first code.
use mathlib.Core.Path.{sym}
use Rattle.packet.proofs.Walks.{first-zero, first-other}
use Rattle.packet.proofs.cobs.first_byte.Goals as goal

pub returns-then-part-eq1 : goal.returns-then-part-eq1
returns-then-part-eq1 c = sym (first-zero c.args.part.now c.requires.0 c.if-part-eq1.true)

pub returns : goal.returns
returns c = sym (first-other c.args.part.now c.requires.0 c.requires.1 c.if-part-eq1.false)
