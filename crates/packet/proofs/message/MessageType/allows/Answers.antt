-- `allows` is the type table's test, one arm for each row.
use borrow.Author.Tests.{le-leb, lt-leb}
use native.Mathlib.Omega.{arith}
use Rattle.packet.specs.TypeTable.{allows, allowed}
use Rattle.packet.proofs.Lengths.{exactly}
use Rattle.packet.proofs.message.MessageType.allows.Goals as goal

pub returns-in-Ping : goal.returns-in-Ping
unfolding allows allowed
returns-in-Ping c = rw c.in-Ping.is (exactly c.args.n 0)

pub returns-in-Ack : goal.returns-in-Ack
unfolding allows allowed
returns-in-Ack c = rw c.in-Ack.is (exactly c.args.n 10)

pub returns-then-n-ge4 : goal.returns-then-n-ge4
unfolding allows allowed
returns-then-n-ge4 c = rw c.in-DeviceWrite.is (simp (le-leb _ _ c.if-n-ge4.true))

pub returns-else-n-ge4 : goal.returns-else-n-ge4
unfolding allows allowed
returns-else-n-ge4 c = rw c.in-DeviceWrite.is (simp (lt-leb _ _ c.if-n-ge4.false))

pub returns-then-n-ge4-2 : goal.returns-then-n-ge4-2
unfolding allows allowed
returns-then-n-ge4-2 c = rw c.in-DeviceData.is (simp (le-leb _ _ c.if-n-ge4-2.true))

pub returns-else-n-ge4-2 : goal.returns-else-n-ge4-2
unfolding allows allowed
returns-else-n-ge4-2 c = rw c.in-DeviceData.is (simp (lt-leb _ _ c.if-n-ge4-2.false))

pub returns-in-Log : goal.returns-in-Log
unfolding allows allowed
returns-in-Log c = rw c.in-Log.is (simp (le-leb 0 c.args.n (omega arith)))
