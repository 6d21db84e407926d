-- `encode_bytes` encodes from the back, a word at once. The invariant is that of `encode_few`.
use Prim.Native.Nat.{◌-◌}
use Rattle.packet_encode.proofs.EncodeSteps.{Coding}
use Rattle.packet_encode.proofs.encode_bytes.Given as goal

abbrev pub invariant-loop-i : goal.invariant-loop-i
invariant-loop-i l = Coding (l.last - 1) l.bytes l.initial.part l.part l.code l.i

abbrev pub decreases-loop-i : goal.decreases-loop-i
decreases-loop-i l = l.i
