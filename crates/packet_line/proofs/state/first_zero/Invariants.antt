-- `first_zero` meets its contract. The loop's invariant: no 00 among the first i, which are no more than stand before the first.
use Rattle.std.proofs.Common.{◌≡◌, ◌-◌, ◌≤◌, false, take}
use Rattle.wire.specs.Zero.{has_zero, zero_at}
use Rattle.packet_line.proofs.state.first_zero.Given as goal

abbrev pub invariant-loop-i : goal.invariant-loop-i
invariant-loop-i l = (l.i ≤ zero_at l.s) × (has_zero (take l.i l.s) ≡ false)

abbrev pub decreases-loop-i : goal.decreases-loop-i
decreases-loop-i l = zero_at l.s - l.i
