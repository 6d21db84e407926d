-- `text_check::token::element_at` meets its contract: each return is a case of the definition.
use mathlib.Core.Path.{refl}
use borrow.Author.Rules.{rules}
use Rattle.std.specs.Prelude.{Some, None}
use Rattle.text_check.proofs.Shapes.{element-past, element-open, element-string, element-blob, element-vocab, element-number}
use Rattle.text_check.proofs.token.element_at.Goals as goal

pub returns-then-text-at : goal.returns-then-text-at
returns-then-text-at c = (element-past _ _ c.if-text-at.true, tt)

pub returns-in-40 : goal.returns-in-40
returns-in-40 c = element-open _ _ c.if-text-at.false c.in-40.is

pub returns-in_err-string_span-in-34 : goal.returns-in_err-string_span-in-34
returns-in_err-string_span-in-34 c =
    let e = c.in_err-string_span-in-34.ensures in
    rw c.from_residual.ensures (element-string _ _ c.if-text-at.false None _ c.in-34.is refl e.0 e.1)

pub returns-in_ok-string_span-in-34 : goal.returns-in_ok-string_span-in-34
returns-in_ok-string_span-in-34 c =
    let e = c.in_ok-string_span-in-34.ensures in
    element-string _ _ c.if-text-at.false (Some c.in_ok-string_span-in-34.field-0) _ c.in-34.is c.span_token.ensures e.0 e.1

pub returns-in_err-blob_span-in-123 : goal.returns-in_err-blob_span-in-123
returns-in_err-blob_span-in-123 c =
    let e = c.in_err-blob_span-in-123.ensures in
    rw c.from_residual-in_err-blob_span-in-123.ensures (element-blob _ _ c.if-text-at.false None _ c.in-123.is refl e.0 e.1)

pub returns-in_ok-blob_span-in-123 : goal.returns-in_ok-blob_span-in-123
returns-in_ok-blob_span-in-123 c =
    let e = c.in_ok-blob_span-in-123.ensures in
    element-blob _ _ c.if-text-at.false (Some c.in_ok-blob_span-in-123.field-0) _ c.in-123.is c.span_token-in-123.ensures e.0 e.1

pub returns-in_err-vocab_at-in-91 : goal.returns-in_err-vocab_at-in-91
returns-in_err-vocab_at-in-91 c =
    let e = c.in_err-vocab_at-in-91.ensures in
    rw c.from_residual-in_err-vocab_at-in-91.ensures (element-vocab _ _ c.if-text-at.false None _ c.in-91.is refl e.0 e.1)

pub returns-in_ok-vocab_at-in-91 : goal.returns-in_ok-vocab_at-in-91
returns-in_ok-vocab_at-in-91 c =
    let e = c.in_ok-vocab_at-in-91.ensures in
    element-vocab _ _ c.if-text-at.false (Some c.in_ok-vocab_at-in-91.field-0) _ c.in-91.is c.vocab_token.ensures e.0 e.1

pub returns-in_err-number_at-in_default : goal.returns-in_err-number_at-in_default
returns-in_err-number_at-in_default c =
    let a = c.args in
    let e = c.in_err-number_at-in_default.ensures in
    rw c.from_residual-in_err-number_at-in_default.ensures (element-number a.text.now a.at c.if-text-at.false None _ (search rules) (search rules) (search rules) (search rules) refl e.0 e.1)

pub returns-in_ok-number_at-in_default : goal.returns-in_ok-number_at-in_default
returns-in_ok-number_at-in_default c =
    let a = c.args in
    let e = c.in_ok-number_at-in_default.ensures in
    element-number a.text.now a.at c.if-text-at.false (Some c.in_ok-number_at-in_default.field-0) _ (search rules) (search rules) (search rules) (search rules) c.number_token.ensures e.0 e.1
