-- `xor_from` is the exclusive or of all bytes from a start. The invariant: x with the bytes to come gives the whole.
use mathlib.Core.Path.{◌≡◌}
use lib.ListN.{drop}
use Rattle.packet.specs.Message.{xor_from}
use Rattle.packet_encode.proofs.xor_from.Given as goal

abbrev pub invariant-loop-b : goal.invariant-loop-b
invariant-loop-b l = xor_from l.x (drop l.b-index l.bytes) ≡ xor_from l.start l.bytes
