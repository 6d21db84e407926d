-- `counted` tests the byte.
use Rattle.std.proofs.Common.{eq-eqb, ne_eqb}
use Rattle.packet_line.proofs.state.counted.Goals as goal

pub returns-then-byte-eq0 : goal.returns-then-byte-eq0
returns-then-byte-eq0 c = rw (eq-eqb _ _ c.if-byte-eq0.true)

pub returns : goal.returns
returns c = rw (ne_eqb _ _ c.if-byte-eq0.false)
