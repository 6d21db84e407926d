-- `decode_part` decodes a part into a buffer. The invariant of both loops, `Fill`: the message stands there but for the codes from i on.
use Prim.Native.Nat.{◌-◌, ◌≤◌}
use lib.ListN.{length}
use Rattle.packet.proofs.Walks.{Fill}
use Rattle.packet.proofs.cobs.decode_part.Given as goal

abbrev pub invariant-loop-i-2 : goal.invariant-loop-i-2
invariant-loop-i-2 l = Fill l.part l.initial.message l.message l.i × (l.initial.i ≤ l.i)

abbrev pub invariant-loop-i : goal.invariant-loop-i
invariant-loop-i l = Fill l.part l.initial.message l.message l.i

abbrev pub decreases-loop-i-2 : goal.decreases-loop-i-2
decreases-loop-i-2 l = length l.part - l.i

abbrev pub decreases-loop-i : goal.decreases-loop-i
decreases-loop-i l = length l.part - l.i
