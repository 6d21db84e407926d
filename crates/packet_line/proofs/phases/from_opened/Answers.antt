-- `from_opened` takes the length byte.
use Rattle.std.proofs.Common.{◌≡◌, ◌≤◌, length, get_or, ap, arith, length-set, List, ℕ}
use Rattle.packet_line.proofs.Starts.{none-taken, opened-zero, opened-small, opened-size, part-begins, begins-good, reached-found, reached-part}
use Rattle.packet_line.specs.State.{LINE_ROOM, opened, INSIDE, state_bytes}
use Rattle.packet_line.proofs.phases.from_opened.Goals as goal

-- the area is as long as a line state
long : (line : List ℕ) → line ≡ state_bytes opened → length line ≡ LINE_ROOM
unfolding state_bytes
long line e = ap length e

-- a byte is there
some : (n : ℕ) → (n ≡ 0 → ⊥) → 1 ≤ n
some n h = omega (arith, h)

pub returns-then-bytes-eq0 : goal.returns-then-bytes-eq0
returns-then-bytes-eq0 c = λ area.
    let none = none-taken opened c.args.bytes.now c.if-bytes-eq0.true in
    rw (c.found.ensures, c.more.ensures) (reached-found opened c.args.bytes.now area (rw (c.requires, none)))

pub returns-then-size-eq0 : goal.returns-then-size-eq0
returns-then-size-eq0 c = λ area.
    let zero = opened-zero c.args.bytes.now (some _ c.if-bytes-eq0.false) c.if-size-eq0.true in
    rw (c.found-then-size-eq0.ensures, c.refused.ensures) (reached-found opened c.args.bytes.now area (rw (c.requires, zero)))

pub bounds-line-0 : goal.bounds-line-0
bounds-line-0 c = omega (arith, long _ c.requires)

pub returns-then-size-lt-PART_LEAST : goal.returns-then-size-lt-PART_LEAST
unfolding state_bytes
returns-then-size-lt-PART_LEAST c = λ area.
    let small = opened-small c.args.bytes.now (some _ c.if-bytes-eq0.false) c.if-size-eq0.false c.if-size-lt-PART_LEAST.true in
    rw (c.found-then-size-lt-PART_LEAST.ensures, c.refused-then-size-lt-PART_LEAST.ensures) (reached-found opened c.args.bytes.now area (rw (c.requires, small)))

pub bounds-line-0-2 : goal.bounds-line-0-2
bounds-line-0-2 c = omega (arith, long _ c.requires)

pub bounds-line-3 : goal.bounds-line-3
bounds-line-3 c = omega (arith, long _ c.requires, length-set c.args.line.now 0 INSIDE)

pub returns : goal.returns
returns c = λ area.
    let bytes = c.args.bytes.now in
    let size = get_or bytes 0 0 in
    let one = some _ c.if-bytes-eq0.false in
    let good = begins-good size c.if-size-lt-PART_LEAST.false (omega (arith, c.type_inv.bytes 0)) in
    rw c.begun.ensures (reached-part _ bytes area size (part-begins c.args.line.now size c.requires) good one (opened-size bytes one c.if-size-lt-PART_LEAST.false))
