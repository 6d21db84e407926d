-- `from_zero` judges a packet that is all there where it stands; another begins a part.
use Rattle.std.proofs.Common.{sym, ◌∙◌, arith, length-drop}
use Rattle.packet_line.proofs.Areas.{set-phase, clean-long}
use Rattle.packet_line.proofs.Starts.{rest_of, fresh_start, whole-front, whole-found, reached-found, entered-fits, reached-later}
use Rattle.packet_line.specs.State.{fresh, opened, state_bytes}
use Rattle.packet_line.proofs.phases.from_zero.Goals as goal

pub bounds-bytes-1 : goal.bounds-bytes-1
bounds-bytes-1 c =
    let w = sym c.is_whole.ensures ∙ c.if-is_whole.true in
    omega (arith, (whole-front _ _ (c.deliver_whole-judged.ensures.whole w).0 w).whole)

pub returns-then-is_whole : goal.returns-then-is_whole
returns-then-is_whole c =
    let bytes = c.args.bytes.now in
    let area = c.args.packet.now in
    let w = sym c.is_whole.ensures ∙ c.if-is_whole.true in
    let j = c.deliver_whole-judged.ensures.whole w in
    let e = c.settle.ensures in
    rw (c.found.ensures, e.0, e.1, e.2) (reached-found fresh bytes area (whole-found bytes area _ _ j.0 w j.1))

pub bounds-line-0 : goal.bounds-line-0
bounds-line-0 c = omega (arith, clean-long _ c.requires.0)

pub from_opened-requires : goal.from_opened-requires
unfolding state_bytes
from_opened-requires c = set-phase _ 2 c.requires.0

pub behind-requires : goal.behind-requires
behind-requires c =
    let i = rw (rest_of c.args.bytes.now 1) at (c.from_opened.ensures c.args.packet.now) in
    omega (arith, entered-fits _ _ _ _ _ _ _ i, length-drop 1 c.args.bytes.now, c.requires.1)

pub returns : goal.returns
returns c =
    let bytes = c.args.bytes.now in
    let k = c.deliver_whole-judged.ensures.kept (sym c.is_whole.ensures ∙ c.if-is_whole.false) in
    let i = rw (rest_of bytes 1) at (c.from_opened.ensures c.args.packet.now) in
    rw (k, c.behind.ensures) (reached-later _ _ _ _ 1 fresh opened bytes c.args.packet.now c.requires.1 (fresh_start bytes c.requires.1 c.requires.2) i)
