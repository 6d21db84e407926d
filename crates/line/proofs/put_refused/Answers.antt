-- `line::put_refused` meets its contract: its pieces in a row.
use mathlib.Core.Path.{ap, ◌∙◌}
use lib.ListN.{drop}
use Rattle.errors.specs.Number.{number_of}
use Rattle.output.specs.Output.{puts}
use Rattle.line.specs.Text.{refused_pieces}
use Rattle.line.proofs.put_refused.Goals as goal

pub returns : goal.returns
unfolding puts
returns c =
    let first = rw c.number.ensures at c.put_number.ensures in
    c.put_line.ensures ∙ ap (λ t. puts t (drop 2 (refused_pieces (number_of c.args.error) c.args.at))) first
