-- `text_value::float::float_at` meets its contract.
use mathlib.Core.Path.{sym, ◌∙◌}
use Rattle.text_value.proofs.Floats.{float-short, float-unframed, float-parts, float-no-low, float-no-fraction}
use Rattle.text_value.proofs.float.float_at.Goals as goal

pub returns-then-text-at-lt18 : goal.returns-then-text-at-lt18
returns-then-text-at-lt18 c =
    let a = c.args in
    float-short a.sign a.text.now a.at c.if-text-at-lt18.true

pub returns-then-not-text-at : goal.returns-then-not-text-at
returns-then-not-text-at c =
    let a = c.args in
    float-unframed a.sign a.text.now a.at c.if-not-text-at.true

pub returns-in_err-fraction : goal.returns-in_err-fraction
returns-in_err-fraction c =
    let a = c.args in
    rw c.from_residual.ensures (float-no-fraction a.sign a.text.now a.at c.if-not-text-at.false (sym c.in_err-fraction.ensures.0))

pub returns-in_err-low : goal.returns-in_err-low
returns-in_err-low c =
    let a = c.args in
    rw c.from_residual-in_err-low.ensures (float-no-low a.sign a.text.now a.at c.if-not-text-at.false _
    (sym c.in_ok-fraction.ensures.0) (sym c.in_err-low.ensures.0))

pub returns-in_err-scale : goal.returns-in_err-scale
returns-in_err-scale c =
    let a = c.args in
    rw c.from_residual-in_err-scale.ensures (float-parts a.sign a.text.now a.at c.if-not-text-at.false _ _ _ c.in_err-scale.ensures.0
    (sym c.in_ok-fraction.ensures.0) (sym c.in_ok-low.ensures.0))

pub returns : goal.returns
returns c =
    let a = c.args in
    c.float_of.ensures
    ∙ float-parts a.sign a.text.now a.at c.if-not-text-at.false _ _ _ c.in_ok-scale.ensures.0
    (sym c.in_ok-fraction.ensures.0) (sym c.in_ok-low.ensures.0)
