-- `play_all` is safe and ends: every record takes at least a byte.
-- The invariant: the records before the k-th are no more than the bytes before it.
use Prim.Native.Nat.{◌+◌, ◌≤◌}
use lib.ListN.{length}
use Rattle.replay.proofs.play.play_all.Given as goal

abbrev pub invariant-loop-stand : goal.invariant-loop-stand
invariant-loop-stand l = l.k + length l.rest ≤ length l.records + 1

abbrev pub decreases-loop-stand : goal.decreases-loop-stand
decreases-loop-stand l = length l.rest
