-- `text_value::number_at` meets its contract.
use mathlib.Core.Path.{sym, ap, ◌∙◌}
use native.Mathlib.Omega.{arith}
use Rattle.digits.specs.Read.{Read, and_read}
use Rattle.text.specs.Read.{Halves, int_value, float_value}
use Prim.Native.Nat.{ℕ}
use Rattle.text_value.proofs.Bounds.{number-placed}
use Rattle.text_value.proofs.Floats.{number_past, number-float, number-int}
use Rattle.text_value.proofs.number_at.Goals as goal

pub returns-then-text-at : goal.returns-then-text-at
returns-then-text-at c =
    let a = c.args in
    (number_past a.text.now a.at c.if-text-at.true, tt)

pub returns-in_err-low : goal.returns-in_err-low
returns-in_err-low c =
    let a = c.args in
    rw c.from_residual.ensures (number-placed a.text.now a.at _ (omega arith)
    (ap (λ (r : Read Halves). and_read r float_value) c.in_err-low.ensures
    ∙ number-float a.text.now a.at _ c.sign_size-sign.ensures.0 (sym c.is_float.ensures ∙ c.if-is_float.true)))

pub returns-then-is_float : goal.returns-then-is_float
returns-then-is_float c =
    let a = c.args in
    number-placed a.text.now a.at _ (omega arith)
    (ap (λ (r : Read Halves). and_read r float_value) c.in_ok-low.ensures
    ∙ number-float a.text.now a.at _ c.sign_size-sign.ensures.0 (sym c.is_float.ensures ∙ c.if-is_float.true))

pub returns-in_err-bits : goal.returns-in_err-bits
returns-in_err-bits c =
    let a = c.args in
    rw c.from_residual-in_err-bits.ensures (number-placed a.text.now a.at _ (omega arith)
    (ap (λ (r : Read ℕ). and_read r int_value) c.in_err-bits.ensures.0
    ∙ number-int a.text.now a.at _ c.sign_size-sign.ensures.0 (sym c.is_float.ensures ∙ c.if-is_float.false)))

pub returns : goal.returns
returns c =
    let a = c.args in
    number-placed a.text.now a.at _ (omega arith)
    (ap (λ (r : Read ℕ). and_read r int_value) c.in_ok-bits.ensures.0
    ∙ number-int a.text.now a.at _ c.sign_size-sign.ensures.0 (sym c.is_float.ensures ∙ c.if-is_float.false))
