-- `from_fresh` refuses a byte that is no 00, and takes a packet from its 00 on.
use Rattle.std.proofs.Common.{◌≡◌, length, ap, arith, List, ℕ}
use Rattle.packet_line.proofs.Starts.{none-taken, fresh-some, reached-found}
use Rattle.packet_line.specs.Steps.{IsClean}
use Rattle.packet_line.specs.State.{LINE_ROOM, fresh, state_bytes}
use Rattle.packet_line.proofs.phases.from_fresh.Goals as goal

-- the area is as long as a line state, and clean
long : (line : List ℕ) → line ≡ state_bytes fresh → length line ≡ LINE_ROOM
unfolding state_bytes
long line e = ap length e

clean : (line : List ℕ) → line ≡ state_bytes fresh → IsClean line
unfolding state_bytes
clean line e = record { phase = 0; zeros = e }

pub returns-then-bytes-eq0 : goal.returns-then-bytes-eq0
returns-then-bytes-eq0 c =
    let bytes = c.args.bytes.now in
    let none = none-taken fresh bytes c.if-bytes-eq0.true in
    rw (c.found.ensures, c.more.ensures) (reached-found fresh bytes c.args.packet.now (rw (c.requires.0, none)))

pub bounds-line-0 : goal.bounds-line-0
bounds-line-0 c = omega (arith, long _ c.requires.0)

pub returns-then-bytes-ne0 : goal.returns-then-bytes-ne0
unfolding state_bytes
returns-then-bytes-ne0 c =
    let bytes = c.args.bytes.now in
    let some = c.if-bytes-eq0.false in
    let other = fresh-some bytes (omega arith) c.if-bytes-ne0.true in
    rw (c.found-then-bytes-ne0.ensures, c.refused.ensures) (reached-found fresh bytes c.args.packet.now (rw (c.requires.0, other)))

pub from_zero-requires : goal.from_zero-requires
from_zero-requires c =
    let some = c.if-bytes-eq0.false in
    (clean _ c.requires.0, omega arith, c.if-bytes-ne0.false, c.requires.1)

pub returns : goal.returns
returns c = c.from_zero.ensures
