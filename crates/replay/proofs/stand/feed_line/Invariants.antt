-- `feed_line` is safe and ends: it stops where a call takes nothing, and any other leaves fewer bytes.
use lib.ListN.{length}
use Rattle.replay.proofs.stand.feed_line.Given as goal

abbrev pub decreases-loop-rest : goal.decreases-loop-rest
decreases-loop-rest l = length l.rest
