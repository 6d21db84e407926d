-- `put_codes` encodes from the back where the part holds the bytes. The invariant is that of `encode_few`.
use Prim.Native.Nat.{◌-◌}
use Rattle.packet_encode.proofs.EncodeSteps.{Coding}
use Rattle.packet_encode.proofs.put_codes.Given as goal

abbrev pub invariant-loop-i : goal.invariant-loop-i
invariant-loop-i l = Coding (l.last - 1) l.bytes l.initial.part l.part l.code l.i
