-- `text_encode::number::lead_of` meets its contract.
use mathlib.Core.Path.{sym, ◌∙◌}
use borrow.Author.Tests.{eq-eqb, ne_eqb}
use Rattle.text.specs.Text.{exponent_of}
use Rattle.text_encode.proofs.number.lead_of.Goals as goal

pub returns-then-exponent_of-eq0 : goal.returns-then-exponent_of-eq0
returns-then-exponent_of-eq0 c = rw (eq-eqb (exponent_of c.args.high) 0 (sym c.exponent_of.ensures.0 ∙ c.if-exponent_of-eq0.true))

pub returns : goal.returns
returns c = rw (ne_eqb (exponent_of c.args.high) 0 (λ e. c.if-exponent_of-eq0.false (c.exponent_of.ensures.0 ∙ e)))
