-- `text_check::token::token_at` meets its contract: the gap says which case of the definition it is.
use mathlib.Core.Path.{refl, sym, ap, ◌∙◌}
use Rattle.std.specs.Prelude.{Some, None}
use native.Mathlib.Omega.{arith}
use lib.ListN.{get_or}
use Rattle.text_value.proofs.BlobBytes.{gap-inside}
use Rattle.text_check.proofs.Shapes.{gap-known, token-past, token-close, token-open, token-gap, token-bare}
use Rattle.text_check.proofs.token.token_at.Goals as goal

pub returns-then-text-at : goal.returns-then-text-at
returns-then-text-at c = (token-past _ _ _ c.if-text-at.true, tt)

pub returns-then-c-eq41 : goal.returns-then-c-eq41
returns-then-c-eq41 c = token-close _ _ c.if-text-at.false _ c.if-c-eq41.true

pub returns-then-c-eq40 : goal.returns-then-c-eq40
returns-then-c-eq40 c =
    token-open _ _ c.if-text-at.false _ _ c.opening.ensures c.if-c-eq40.true

pub returns-then-not-may_begin : goal.returns-then-not-may_begin
returns-then-not-may_begin c =
    let a = c.args in
    (token-bare a.text.now a.at c.if-text-at.false a.first c.if-c-eq41.false (sym c.may_begin.ensures ∙ c.if-not-may_begin.true), tt)

pub overflow_add-at : goal.overflow_add-at
overflow_add-at c =
    let a = c.args in
    let k = gap-known a.first (get_or a.text.now a.at 0) (sym c.may_begin.ensures ∙ c.if-not-may_begin.false) in
    omega (arith, gap-inside a.first a.text.now a.at _ (k ∙ ap Some (sym c.gap_before-gap.ensures)))

pub returns-in_err-element_at : goal.returns-in_err-element_at
returns-in_err-element_at c =
    let a = c.args in
    let k = gap-known a.first (get_or a.text.now a.at 0) (sym c.may_begin.ensures ∙ c.if-not-may_begin.false) in
    rw c.from_residual.ensures (token-gap a.text.now a.at c.if-text-at.false _ a.first None _ c.if-c-eq41.false (k ∙ ap Some (sym c.gap_before-gap.ensures)) refl
    c.in_err-element_at.ensures)

pub returns : goal.returns
returns c =
    let a = c.args in
    let k = gap-known a.first (get_or a.text.now a.at 0) (sym c.may_begin.ensures ∙ c.if-not-may_begin.false) in
    token-gap a.text.now a.at c.if-text-at.false _ a.first (Some c.in_ok-element_at.field-0) _ c.if-c-eq41.false (k ∙ ap Some (sym c.gap_before-gap.ensures)) c.moved.ensures
    c.in_ok-element_at.ensures
