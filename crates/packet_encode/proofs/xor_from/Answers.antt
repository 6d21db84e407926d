use mathlib.Core.Path.{sym, ◌∙◌}
use Rattle.packet.proofs.Sums.{xor-next, xor-past}
use Rattle.packet_encode.proofs.xor_from.Goals as goal

pub loop-b-preserved : goal.loop-b-preserved
loop-b-preserved c = sym (xor-next c.args.bytes.now c.loop-b.b-index c.loop-b.x c.loop-b-test.true) ∙ c.loop-b.invariant

pub returns : goal.returns
returns c = sym (xor-past c.args.bytes.now c.loop-b.b-index c.loop-b.x c.loop-b-test.false) ∙ c.loop-b.invariant
