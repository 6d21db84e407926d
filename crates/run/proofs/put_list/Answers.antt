-- `run::put_list` meets its contract: its pieces in a row.
use mathlib.Core.Path.{ap, ◌∙◌}
use lib.ListN.{length, take, drop}
use borrow.Author.Rules.{rules}
use Rattle.output.specs.Output.{puts}
use Rattle.output.proofs.Putting.{length-puts}
use Rattle.report.proofs.Adding.{pieces-added}
use Rattle.run.specs.Text.{list_pieces, list_line}
use Rattle.run.proofs.Lines.{list-short}
use Rattle.run.proofs.put_list.Goals as goal

pub returns : goal.returns
unfolding list_line puts
returns c =
    let list = c.args.list in
    let pieces = list_pieces c.args.k list.consumed list.rows in
    let all = c.put_line.ensures ∙ ap (λ t. puts t (drop 4 pieces)) (c.put_number-2.ensures ∙ ap (λ t. puts t (take 2 (drop 2 pieces))) c.put_number.ensures) in
    let short = list-short c.args.k list.consumed list.rows in
    let added = pieces-added pieces all (search rules) in
    (added, search rules, ap (λ t. length t.buffer) all ∙ length-puts _ pieces)
