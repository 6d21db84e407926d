-- `from_skipping` takes a packet from the next 00 on.
use Rattle.std.proofs.Common.{◌≡◌, ℕ, ◌<◌, List, length, drop, sym, ◌∙◌, arith, length-drop}
use Rattle.packet_line.proofs.Starts.{rest_of, skip-none, skip-found, first-there, reached-found, entered-fits, reached-later}
use Rattle.packet_line.specs.Steps.{IsClean, later}
use Rattle.wire.specs.Zero.{zero_at}
use Rattle.wire.proofs.Zeros.{zero-within}
use Rattle.packet_line.specs.State.{fresh, skipping, state_bytes}
use Rattle.packet_line.specs.Push.{taken_from}
use Rattle.packet_line.proofs.phases.from_skipping.Goals as goal

-- up to a 00 that is there
skipped : (s : List ℕ) (k : ℕ) → k ≡ zero_at s → k < length s → taken_from skipping s ≡ later k (taken_from fresh (drop k s))
skipped s k e h = rw e (skip-found s (rw e at h))

-- the area is clean
clean : (line : List ℕ) → line ≡ state_bytes skipping → IsClean line
unfolding state_bytes
clean line e = record { phase = 1; zeros = e }

-- the place of the next 00, which is there
there : (s : List ℕ) (k : ℕ) → k ≡ zero_at s → (k ≡ length s → ⊥) → k < length s
there s k e h = omega (arith, zero-within s)

pub returns-then-at-bytes : goal.returns-then-at-bytes
returns-then-at-bytes c =
    let bytes = c.args.bytes.now in
    let e = c.zero_at-at.ensures in
    let none = skip-none bytes (sym e ∙ c.if-at-bytes.true) in
    rw (c.found.ensures, c.more.ensures) (reached-found skipping bytes c.args.packet.now (rw (c.requires.0, e, none)))

pub slice_bounds-from_zero-count : goal.slice_bounds-from_zero-count
slice_bounds-from_zero-count c = omega (arith, there _ _ c.zero_at-at.ensures c.if-at-bytes.false)

pub slice_bounds-from_zero-start : goal.slice_bounds-from_zero-start
slice_bounds-from_zero-start c = omega (arith, there _ _ c.zero_at-at.ensures c.if-at-bytes.false)

pub from_zero-requires : goal.from_zero-requires
from_zero-requires c =
    let e = c.zero_at-at.ensures in
    let f = first-there c.args.bytes.now _ e (there _ _ e c.if-at-bytes.false) in
    (clean _ c.requires.0, f.0, f.1, c.requires.1)

pub behind-requires : goal.behind-requires
behind-requires c =
    let bytes = c.args.bytes.now in
    let k = c.zero_at-at.result in
    let h = there bytes k c.zero_at-at.ensures c.if-at-bytes.false in
    let i = rw (rest_of bytes k) at c.from_zero.ensures in
    omega (arith, entered-fits _ _ _ _ _ _ _ i, length-drop k bytes)

pub returns : goal.returns
returns c =
    let bytes = c.args.bytes.now in
    let k = c.zero_at-at.result in
    let h = there bytes k c.zero_at-at.ensures c.if-at-bytes.false in
    let on = skipped bytes k c.zero_at-at.ensures h in
    rw c.behind.ensures (reached-later _ _ _ _ k skipping fresh bytes c.args.packet.now (omega (arith, h)) on (rw (rest_of bytes k) at c.from_zero.ensures))
