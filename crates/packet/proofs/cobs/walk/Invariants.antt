-- `walk` goes from code to code. The invariant: the walk has come to i, and sum is that of the part with the codes before i taken out.
use Prim.Native.Nat.{◌-◌}
use mathlib.Core.Path.{◌≡◌}
use lib.ListN.{length}
use Rattle.packet.specs.Message.{xor_from}
use Rattle.packet.proofs.Walks.{Walk, halfway}
use Rattle.packet.proofs.cobs.walk.Given as goal

abbrev pub invariant-loop-i : goal.invariant-loop-i
invariant-loop-i l = Walk l.part l.i × (l.sum ≡ xor_from 0 (halfway l.part l.i))

abbrev pub decreases-loop-i : goal.decreases-loop-i
decreases-loop-i l = length l.part - l.i
