-- `show::report` meets its contract: `too long` above the limit, else the stream's lines.
use mathlib.Core.Path.{sym, ap, ◌∙◌}
use mathlib.Core.List.{[], ◌∷◌}
use lib.ListN.{length}
use borrow.Author.Tests.{ltb-true, ltb-false}
use borrow.Author.Rules.{rules}
use Rattle.output.specs.Output.{output, puts}
use Rattle.output.proofs.Putting.{length-puts}
use Rattle.report.specs.Limits.{input_limit}
use Rattle.report.specs.Text.{too_long}
use Rattle.report.proofs.Adding.{one_piece}
use Rattle.report.proofs.Lines.{within-limit, over-limit}
use Rattle.show.specs.Text.{line_of}
use Rattle.show.proofs.report.Goals as goal

pub returns-then-is_too_long : goal.returns-then-is_too_long
unfolding puts
returns-then-is_too_long c =
    let s = c.args.bytes.now in
    let long = ltb-true input_limit (length s) (sym c.is_too_long.ensures ∙ c.if-is_too_long.true) in
    let room = ap (λ t. length t.buffer) c.put_too_long.ensures ∙ length-puts (output c.args.out.now.buffer c.args.out.now.used) (too_long ∷ []) in
    let added = one_piece too_long c.put_too_long.ensures (search rules) in
    let size = added.size in
    (rw c.requires.1 at added.front ∙ sym (over-limit line_of s long), search rules)

pub stream_text-requires : goal.stream_text-requires
stream_text-requires c =
    let s = c.args.bytes.now in
    let short = ltb-false input_limit (length s) (sym c.is_too_long.ensures ∙ c.if-is_too_long.false) in
    search rules

pub returns : goal.returns
returns c =
    let s = c.args.bytes.now in
    let short = ltb-false input_limit (length s) (sym c.is_too_long.ensures ∙ c.if-is_too_long.false) in
    let lines = c.stream_text.ensures in
    (lines.0 ∙ sym (within-limit line_of s short), lines.1)
