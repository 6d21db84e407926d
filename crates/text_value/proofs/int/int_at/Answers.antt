-- `text_value::int::int_at` meets its contract.
use mathlib.Core.Path.{sym, ap, ◌∙◌}
use native.Mathlib.Omega.{arith}
use Prim.Native.Nat.{ℕ}
use Rattle.digits.specs.Read.{Read, and_read}
use Rattle.text.specs.Read.{minus_bits}
use Rattle.text_value.proofs.Decimals.{inside}
use Rattle.text_value.proofs.Bounds.{int-placed}
use Rattle.text_value.proofs.Floats.{int-minus, int-plain}
use Rattle.text_value.proofs.int.int_at.Goals as goal

pub overflow_add-at : goal.overflow_add-at
overflow_add-at c =
    let a = c.args in
    omega (arith, inside a.text.now a.at 44 (sym c.byte_at.ensures ∙ c.if-byte_at-eq45.true))

pub returns-in_err-decimal_at : goal.returns-in_err-decimal_at
returns-in_err-decimal_at c =
    let a = c.args in
    let e = sym c.byte_at.ensures ∙ c.if-byte_at-eq45.true in
    rw c.from_residual.ensures (int-placed a.text.now a.at _ (omega (arith, inside a.text.now a.at 44 e))
    (ap (λ (r : Read ℕ). and_read r minus_bits) c.in_err-decimal_at.ensures.0 ∙ int-minus a.text.now a.at e))

pub returns-then-byte_at-eq45 : goal.returns-then-byte_at-eq45
returns-then-byte_at-eq45 c =
    let a = c.args in
    let e = sym c.byte_at.ensures ∙ c.if-byte_at-eq45.true in
    int-placed a.text.now a.at _ (omega (arith, inside a.text.now a.at 44 e))
    (c.minus_bits.ensures ∙ ap (λ (r : Read ℕ). and_read r minus_bits) c.in_ok-decimal_at.ensures.0 ∙ int-minus a.text.now a.at e)

pub returns : goal.returns
returns c =
    let a = c.args in
    (c.decimal_at-2.ensures.0 ∙ int-plain a.text.now a.at (λ e. c.if-byte_at-eq45.false (c.byte_at.ensures ∙ e)), c.decimal_at-2.ensures.1)
