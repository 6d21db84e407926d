use Prim.Native.Nat.{◌+◌}
use mathlib.Core.Path.{refl, ap, ◌∙◌}
use native.Mathlib.Omega.{arith}
use lib.ListN.{length}
use borrow.Author.Rules.{rules}
use Rattle.list.specs.Refusal.{refusal_of}
use Rattle.output.specs.Output.{output}
use Rattle.output.proofs.Putting.{length-puts}
use Rattle.report.specs.Text.{end_pieces, end_line, stop_pieces, stop_line, text_of}
use Rattle.report.proofs.Adding.{pieces-added, end_short, stop-short}
use Rattle.report.proofs.Answers.{end-found, stop-found, list-found, areas-hold, text-list, text-end, text-stop}
use Rattle.show.specs.Text.{line_of}
use Rattle.show.proofs.Lines.{line-short}
use Rattle.show.proofs.Holding.{held}
use Rattle.show.proofs.stream_text.Goals as goal

pub loop-list-init : goal.loop-list-init
loop-list-init c =
    (search rules, search rules, search rules, search rules, (1, record { fuel = length c.args.bytes.now; enough = omega arith; text = rw c.requires.2 refl }))

pub put_list-requires : goal.put_list-requires
put_list-requires c =
    let l = c.loop-list in
    let called = c.next in
    let found = list-found c.args.bytes.now l.offset l.rows l.store _ _ _ (search rules) (search rules) l.invariant.2 called.ensures c.type_inv.bytes c.in-Ok-Some.list (search rules) in
    let some = found.some in
    let fits = found.fits in
    let areas = areas-hold _ l.offset l.rows l.store _ _ called.result (search rules) (search rules) l.invariant.2 called.ensures found in
    ((found.tree, held l.rows l.store found (search rules) (search rules) areas), search rules)

pub overflow_add-offset : goal.overflow_add-offset
overflow_add-offset c =
    let l = c.loop-list in
    let found = list-found c.args.bytes.now l.offset l.rows l.store _ _ _ (search rules) (search rules) l.invariant.2 c.next.ensures c.type_inv.bytes c.in-Ok-Some.list (search rules) in
    let fits = found.fits in
    search rules

pub loop-list-smaller : goal.loop-list-smaller
loop-list-smaller c =
    let l = c.loop-list in
    let found = list-found c.args.bytes.now l.offset l.rows l.store _ _ _ (search rules) (search rules) l.invariant.2 c.next.ensures c.type_inv.bytes c.in-Ok-Some.list (search rules) in
    let some = found.some in
    let fits = found.fits in
    search rules

pub loop-list-preserved : goal.loop-list-preserved
loop-list-preserved c =
    let l = c.loop-list in
    let s = c.args.bytes.now in
    let called = c.next in
    let found = list-found s l.offset l.rows l.store _ _ _ (search rules) (search rules) l.invariant.2 called.ensures c.type_inv.bytes c.in-Ok-Some.list (search rules) in
    let fits = found.fits in
    let areas = areas-hold _ l.offset l.rows l.store _ _ called.result (search rules) (search rules) l.invariant.2 called.ensures found in
    let holds = held l.rows l.store found (search rules) (search rules) areas in
    let line = c.put_list.ensures.line found.tree holds in
    let short = line-short found.tree found.legal in
    let size = found.size in
    let end = line.size in
    let text = text-list line_of s (text_of line_of s) l.offset l.invariant.4.0 l.out.used l.out.buffer _ _ l.invariant.4.1 found line in
    (search rules, search rules, search rules, search rules, (l.invariant.4.0 + 1, text))

pub returns-in-Ok-None : goal.returns-in-Ok-None
unfolding end_line
returns-in-Ok-None c =
    let l = c.loop-list in
    let s = c.args.bytes.now in
    let short = end_short l.offset in
    let added = pieces-added (end_pieces l.offset) c.put_end.ensures (search rules) in
    let at = end-found s l.offset l.rows l.store _ _ _ (search rules) (search rules) l.invariant.2 c.next.ensures (search rules) in
    let size = added.size in
    let long = ap (λ t. length t.buffer) c.put_end.ensures ∙ length-puts (output l.out.buffer l.out.used) (end_pieces l.offset) in
    (text-end line_of s (text_of line_of s) l.offset l.invariant.4.0 l.out.used l.out.buffer _ _ l.invariant.4.1 at added, search rules)

pub returns-in-Err : goal.returns-in-Err
unfolding stop_line
returns-in-Err c =
    let l = c.loop-list in
    let s = c.args.bytes.now in
    let x = c.in-Err.refusal in
    let short = stop-short (refusal_of x) in
    let added = pieces-added (stop_pieces (refusal_of x)) c.put_stop.ensures (search rules) in
    let at = stop-found s l.offset l.rows l.store _ _ _ (search rules) (search rules) l.invariant.2 c.next.ensures x line_of l.invariant.4.1.fuel l.invariant.4.0 c.in-Err.is in
    let size = added.size in
    let long = ap (λ t. length t.buffer) c.put_stop.ensures ∙ length-puts (output l.out.buffer l.out.used) (stop_pieces (refusal_of x)) in
    (text-stop line_of s (text_of line_of s) l.offset l.invariant.4.0 l.out.used l.out.buffer _ _ l.invariant.4.1 x at added, search rules)
