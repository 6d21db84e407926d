-- `filled` meets its contract. The loop's invariant: the count is the lowest byte of the number among the bytes so far.
use Rattle.std.proofs.Common.{◌≡◌, ◌%◌, take}
use Rattle.packet_line.specs.Steps.{filled_of}
use Rattle.packet_line.proofs.state.filled.Given as goal

abbrev pub invariant-loop-byte : goal.invariant-loop-byte
invariant-loop-byte l = l.n ≡ filled_of (take l.byte-index l.s) % 256
