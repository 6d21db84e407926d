-- `scan` finds zeros and the exclusive or. The invariant: the flag speaks of the bytes so far, and sum with the bytes to come gives the whole.
use mathlib.Core.Path.{◌≡◌}
use lib.ListN.{take, drop}
use Rattle.wire.specs.Zero.{has_zero}
use Rattle.packet.specs.Message.{xor_from}
use Rattle.packet.proofs.cobs.scan.Given as goal

abbrev pub invariant-loop-b : goal.invariant-loop-b
invariant-loop-b l = (l.zero ≡ has_zero (take l.b-index l.bytes)) × (xor_from l.sum (drop l.b-index l.bytes) ≡ xor_from 0 l.bytes)
