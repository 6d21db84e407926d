-- `xor_of` is the exclusive or of all bytes. The invariant: x with the bytes to come gives the whole.
use Prim.Native.Nat.{◌-◌, ◌≤◌}
use mathlib.Core.Path.{◌≡◌}
use lib.ListN.{length, drop}
use Rattle.packet.specs.Message.{xor_from}
use Rattle.packet_encode.proofs.xor_of.Given as goal

abbrev pub invariant-loop-i : goal.invariant-loop-i
invariant-loop-i l = (l.i ≤ length l.bytes) × (xor_from l.x (drop l.i l.bytes) ≡ xor_from 0 l.bytes)

abbrev pub decreases-loop-i : goal.decreases-loop-i
decreases-loop-i l = length l.bytes - l.i
