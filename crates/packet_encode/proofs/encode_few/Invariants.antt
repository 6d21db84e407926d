-- `encode_few` encodes from the back. The invariant, `Coding`: all from i on is encoded, and a block that opens before it has that code.
use Prim.Native.Nat.{◌-◌}
use Rattle.packet_encode.proofs.EncodeSteps.{Coding}
use Rattle.packet_encode.proofs.encode_few.Given as goal

abbrev pub invariant-loop-i : goal.invariant-loop-i
invariant-loop-i l = Coding (l.last - 1) l.bytes l.initial.part l.part l.code l.i
