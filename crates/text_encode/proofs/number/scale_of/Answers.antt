-- `text_encode::number::scale_of` meets its contract.
use mathlib.Core.Path.{sym, ◌∙◌}
use native.Mathlib.Omega.{arith}
use borrow.Author.Rules.{rules}
use borrow.Author.Tests.{eq-eqb, ne_eqb}
use Rattle.text.specs.Text.{exponent_of}
use Rattle.text_encode.proofs.number.scale_of.Goals as goal

pub returns-then-exponent-ne0 : goal.returns-then-exponent-ne0
returns-then-exponent-ne0 c =
    let e = c.exponent_of-exponent.ensures.0 in
    (rw (ne_eqb (exponent_of c.args.high) 0 (λ f. c.if-exponent-ne0.true (e ∙ f))) e, search rules)

pub returns-then-low-high : goal.returns-then-low-high
returns-then-low-high c =
    let e = eq-eqb (exponent_of c.args.high) 0 (sym c.exponent_of-exponent.ensures.0 ∙ c.if-exponent-ne0.false) in
    (rw (e, c.if-low-high.true), omega arith)

pub returns : goal.returns
returns c =
    let e = eq-eqb (exponent_of c.args.high) 0 (sym c.exponent_of-exponent.ensures.0 ∙ c.if-exponent-ne0.false) in
    (rw (e, c.if-low-high.false), omega arith)
