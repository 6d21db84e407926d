-- `text_value::float::scale_at` meets its contract.
use mathlib.Core.Path.{sym, ap, ◌∙◌}
use native.Mathlib.Omega.{arith}
use Prim.Native.Nat.{ℕ}
use Rattle.digits.specs.Read.{Read, and_read}
use Rattle.text.specs.Read.{plus_scale, minus_scale}
use Rattle.text_value.proofs.Decimals.{inside}
use Rattle.text_value.proofs.Bounds.{scale-placed}
use Rattle.text_value.proofs.Floats.{scale-plus, scale-minus, scale-none}
use Rattle.text_value.proofs.float.scale_at.Goals as goal

pub overflow_add-at : goal.overflow_add-at
overflow_add-at c =
    let a = c.args in
    omega (arith, inside a.text.now a.at 42 (sym c.byte_at-c.ensures ∙ c.if-c-eq43.true))

pub returns-in_err-decimal_at : goal.returns-in_err-decimal_at
returns-in_err-decimal_at c =
    let a = c.args in
    let e = sym c.byte_at-c.ensures ∙ c.if-c-eq43.true in
    rw c.from_residual.ensures (scale-placed a.text.now a.at _ (omega (arith, inside a.text.now a.at 42 e))
    (ap (λ (r : Read ℕ). and_read r plus_scale) c.in_err-decimal_at.ensures.0 ∙ scale-plus a.text.now a.at e))

pub returns-then-c-eq43 : goal.returns-then-c-eq43
returns-then-c-eq43 c =
    let a = c.args in
    let e = sym c.byte_at-c.ensures ∙ c.if-c-eq43.true in
    scale-placed a.text.now a.at _ (omega (arith, inside a.text.now a.at 42 e))
    (c.plus_scale.ensures ∙ ap (λ (r : Read ℕ). and_read r plus_scale) c.in_ok-decimal_at.ensures.0 ∙ scale-plus a.text.now a.at e)

pub overflow_add-at-then-c-eq45 : goal.overflow_add-at-then-c-eq45
overflow_add-at-then-c-eq45 c =
    let a = c.args in
    omega (arith, inside a.text.now a.at 44 (sym c.byte_at-c.ensures ∙ c.if-c-eq45.true))

pub returns-in_err-decimal_at-2 : goal.returns-in_err-decimal_at-2
returns-in_err-decimal_at-2 c =
    let a = c.args in
    let e = sym c.byte_at-c.ensures ∙ c.if-c-eq45.true in
    rw c.from_residual-in_err-decimal_at-2.ensures (scale-placed a.text.now a.at _ (omega (arith, inside a.text.now a.at 44 e))
    (ap (λ (r : Read ℕ). and_read r minus_scale) c.in_err-decimal_at-2.ensures.0
    ∙ scale-minus a.text.now a.at (λ q. c.if-c-eq43.false (c.byte_at-c.ensures ∙ q)) e))

pub returns-then-c-eq45 : goal.returns-then-c-eq45
returns-then-c-eq45 c =
    let a = c.args in
    let e = sym c.byte_at-c.ensures ∙ c.if-c-eq45.true in
    scale-placed a.text.now a.at _ (omega (arith, inside a.text.now a.at 44 e))
    (c.minus_scale.ensures ∙ ap (λ (r : Read ℕ). and_read r minus_scale) c.in_ok-decimal_at-2.ensures.0
    ∙ scale-minus a.text.now a.at (λ q. c.if-c-eq43.false (c.byte_at-c.ensures ∙ q)) e)

pub returns : goal.returns
returns c =
    let a = c.args in
    let b = c.byte_at-c.ensures in
    (scale-none a.text.now a.at (λ q. c.if-c-eq43.false (b ∙ q)) (λ q. c.if-c-eq45.false (b ∙ q)), tt, tt)
