-- `text_check::tally::Tally::after` meets its contract: each return is a case of the definition.
use mathlib.Core.Path.{sym, ap, ◌∙◌}
use Rattle.text_check.specs.Answers.{counter_after}
use Rattle.text_check.proofs.tally.Tally.after.Goals as goal

pub with_value-requires : goal.with_value-requires
with_value-requires c = let p = c.requires in
    (p.0, rw c.in-Value.is at p.3)

pub returns-in-Open : goal.returns-in-Open
returns-in-Open c = c.with_opening.ensures ∙ ap (counter_after c.args.self) (sym c.in-Open.is)

pub returns-in-Close : goal.returns-in-Close
returns-in-Close c = c.with_closing.ensures ∙ ap (counter_after c.args.self) (sym c.in-Close.is)

pub returns-in-Value : goal.returns-in-Value
returns-in-Value c = c.with_value.ensures ∙ ap (counter_after c.args.self) (sym c.in-Value.is)
