-- `is_whole` is true of a good packet, and of the errors that the tests of a whole packet give.
use Rattle.packet_line.proofs.phases.is_whole.Goals as goal

pub returns-in_default : goal.returns-in_default
returns-in_default c = rw c.in_default.is
