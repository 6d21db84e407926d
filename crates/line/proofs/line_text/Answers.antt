use Prim.Native.Nat.{ℕ, ◌+◌, ◌-◌}
use mathlib.Core.Path.{◌≡◌, refl, ap, ◌∙◌}
use mathlib.Core.List.{List}
use mir.Val.{Fits}
use mir.Syntax.{w8}
use lib.ListN.{length, get_or, replicate}
use borrow.Author.Rules.{rules}
use Rattle.wire.specs.Number.{Bytes}
use Rattle.wire.proofs.ByteLists.{all-bytes}
use Rattle.errors.specs.Number.{number_of}
use Rattle.packet_line.specs.State.{LINE_ROOM, fresh, state_bytes, state_in}
use Rattle.output.specs.Output.{output}
use Rattle.output.proofs.Putting.{length-puts}
use Rattle.report.proofs.Adding.{pieces-added}
use Rattle.line.specs.Text.{refused_pieces, refused_line, end_pieces, end_line}
use Rattle.line.proofs.Texts.{done_none, leaves, end_short, refused-short}
use Rattle.line.proofs.line_text.Goals as goal

-- the line state is all zeros at first
start : replicate LINE_ROOM 0 ≡ state_bytes fresh
unfolding state_bytes
start = refl

small : (s : List ℕ) → ((i : ℕ) → Fits w8 (get_or s i 0)) → Bytes s
small s h = all-bytes s (λ i. (h i).fits)

pub loop-out-init : goal.loop-out-init
loop-out-init c = (search rules, search rules, search rules, search rules, search rules, search rules, rw (c.requires.2, start) (done_none _))

pub overflow_add-offset : goal.overflow_add-offset
overflow_add-offset c =
    let l = c.loop-out in
    let fits = (leaves _ l.line l.packet _ _ l.out.buffer l.offset l.out.used _ _ l.invariant.6 (small _ c.type_inv.bytes) (search rules) l.invariant.4 c.push-p.ensures).fits in
    search rules

pub returns-in-Nothing : goal.returns-in-Nothing
unfolding end_line
returns-in-Nothing c =
    let l = c.loop-out in
    let here = leaves _ l.line l.packet _ _ l.out.buffer l.offset l.out.used _ _ l.invariant.6 (small _ c.type_inv.bytes) (search rules) l.invariant.4 c.push-p.ensures in
    let end = l.offset + c.push-p.result.consumed in
    let st = state_in c.push-p.new.line in
    let fits = here.fits in
    let all = here.ends c.in-Nothing.is in
    let short = end_short end st in
    let added = pieces-added (end_pieces end st) c.put_end.ensures (search rules) in
    let size = added.size in
    let long = ap (λ t. length t.buffer) c.put_end.ensures ∙ length-puts (output l.out.buffer l.out.used) (end_pieces end st) in
    (added.front ∙ all, search rules)

pub put_packet-requires : goal.put_packet-requires
put_packet-requires c =
    let l = c.loop-out in
    let here = leaves _ l.line l.packet _ _ l.out.buffer l.offset l.out.used _ _ l.invariant.6 (small _ c.type_inv.bytes) (search rules) l.invariant.4 c.push-p.ensures in
    let found = here.hands c.in-Packet.is in
    let some = found.some in
    let fits = here.fits in
    (search rules, found.holds)

pub loop-out-smaller-in-Packet : goal.loop-out-smaller-in-Packet
loop-out-smaller-in-Packet c =
    let l = c.loop-out in
    let here = leaves _ l.line l.packet _ _ l.out.buffer l.offset l.out.used _ _ l.invariant.6 (small _ c.type_inv.bytes) (search rules) l.invariant.4 c.push-p.ensures in
    let some = (here.hands c.in-Packet.is).some in
    let fits = here.fits in
    search rules

pub loop-out-preserved-in-Packet : goal.loop-out-preserved-in-Packet
loop-out-preserved-in-Packet c =
    let l = c.loop-out in
    let here = leaves _ l.line l.packet _ _ l.out.buffer l.offset l.out.used _ _ l.invariant.6 (small _ c.type_inv.bytes) (search rules) l.invariant.4 c.push-p.ensures in
    let found = here.hands c.in-Packet.is in
    let some = found.some in
    let fits = here.fits in
    let line = c.put_packet.ensures in
    (search rules, search rules, search rules, search rules, search rules, search rules, found.later _ _ line.0)

pub overflow_sub-offset : goal.overflow_sub-offset
overflow_sub-offset c =
    let l = c.loop-out in
    let here = leaves _ l.line l.packet _ _ l.out.buffer l.offset l.out.used _ _ l.invariant.6 (small _ c.type_inv.bytes) (search rules) l.invariant.4 c.push-p.ensures in
    let some = (here.refuses _ c.in-Refused.is).some in
    search rules

pub loop-out-smaller : goal.loop-out-smaller
loop-out-smaller c =
    let l = c.loop-out in
    let here = leaves _ l.line l.packet _ _ l.out.buffer l.offset l.out.used _ _ l.invariant.6 (small _ c.type_inv.bytes) (search rules) l.invariant.4 c.push-p.ensures in
    let some = (here.refuses _ c.in-Refused.is).some in
    let fits = here.fits in
    search rules

pub loop-out-preserved : goal.loop-out-preserved
unfolding refused_line
loop-out-preserved c =
    let l = c.loop-out in
    let here = leaves _ l.line l.packet _ _ l.out.buffer l.offset l.out.used _ _ l.invariant.6 (small _ c.type_inv.bytes) (search rules) l.invariant.4 c.push-p.ensures in
    let end = l.offset + c.push-p.result.consumed in
    let number = number_of c.in-Refused.error in
    let found = here.refuses c.in-Refused.error c.in-Refused.is in
    let some = found.some in
    let fits = here.fits in
    let short = refused-short number (end - 1) in
    let added = pieces-added (refused_pieces number (end - 1)) c.put_refused.ensures (search rules) in
    let size = added.size in
    let long = ap (λ t. length t.buffer) c.put_refused.ensures ∙ length-puts (output l.out.buffer l.out.used) (refused_pieces number (end - 1)) in
    (search rules, search rules, search rules, search rules, search rules, search rules, found.later _ _ added)
