-- `show::put_text` meets its contract: the text with a newline behind it, or the refusal.
use Prim.Native.Nat.{◌+◌, ◌-◌}
use mathlib.Core.Path.{ap, ◌∙◌}
use mathlib.Core.List.{[], ◌∷◌}
use lib.ListN.{length}
use borrow.Author.Rules.{rules}
use borrow.Rule.Slice.PartMut.{same_len_mid}
use Rattle.text.specs.Text.{text_room}
use Rattle.output.specs.Output.{puts, newline}
use Rattle.output.proofs.Putting.{length-puts}
use Rattle.show.specs.Text.{refused_pieces}
use Rattle.show.proofs.Lines.{text-added, area-kept, written-line, refused-line, same-list}
use Rattle.show.proofs.put_text.Goals as goal

pub overflow_add-out : goal.overflow_add-out
overflow_add-out c =
    let o = c.args.out.now in
    let given = c.requires in
    let found = text-added _ _ o.buffer _ o.used (o.used + text_room - o.used) given.0.0 _ given.0.1.0 given.0.1.1
    (search rules) (search rules) c.encode.ensures _ c.in-Ok.is in
    let small = found.1 in
    search rules

pub returns-in-Ok-clause-line : goal.returns-in-Ok-clause-line
returns-in-Ok-clause-line c = λ es writes.
    let o = c.args.out.now in
    let given = c.requires in
    let legal = same-list given.0.1.0 given.0.1.1 writes in
    let found = text-added _ _ o.buffer _ o.used (o.used + text_room - o.used) es _ legal writes
    (search rules) (search rules) c.encode.ensures
    _ c.in-Ok.is in
    let small = found.1 in
    let long = same_len_mid o.used (o.used + text_room - o.used) o.buffer c.encode.new.area c.encode.auto.area in
    written-line es found.0 found.2 c.put.ensures (search rules)

pub returns-in-Ok-clause-room : goal.returns-in-Ok-clause-room
unfolding puts
returns-in-Ok-clause-room c =
    let o = c.args.out.now in
    let long = same_len_mid o.used (o.used + text_room - o.used) o.buffer c.encode.new.area c.encode.auto.area in
    ap (λ t. length t.buffer) c.put.ensures ∙ length-puts _ (newline ∷ []) ∙ long

pub returns-in-Err-clause-line : goal.returns-in-Err-clause-line
returns-in-Err-clause-line c = λ es writes.
    let o = c.args.out.now in
    let given = c.requires in
    let legal = same-list given.0.1.0 given.0.1.1 writes in
    let number = c.number.ensures in
    let kept = area-kept _ _ o.buffer _ o.used (o.used + text_room - o.used) es _ legal writes
    (search rules) (search rules) c.encode.ensures
    _ c.in-Err.is in
    refused-line es kept.0 (number ∙ kept.1) kept.2 c.put_line.ensures (search rules)

pub returns-in-Err-clause-room : goal.returns-in-Err-clause-room
returns-in-Err-clause-room c =
    let o = c.args.out.now in
    let long = same_len_mid o.used (o.used + text_room - o.used) o.buffer c.encode.new.area c.encode.auto.area in
    ap (λ t. length t.buffer) c.put_line.ensures ∙ length-puts _ (refused_pieces c.number.result) ∙ long
