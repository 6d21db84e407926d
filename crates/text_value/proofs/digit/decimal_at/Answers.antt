-- `text_value::digit::decimal_at` meets its contract.
use Prim.Native.Nat.{ℕ, ◌+◌, ◌-◌}
use mathlib.Core.Path.{sym, ap, ◌∙◌}
use native.Mathlib.Omega.{arith}
use lib.ListN.{drop}
use Rattle.digits.specs.Decimal.{more_decimal}
use Rattle.digits.proofs.Decimals.{digit-bounds}
use Rattle.text_value.proofs.Decimals.{decimal-past, decimal-zero, decimal-more, decimal-none}
use Rattle.text_value.proofs.Bounds.{decimal-placed}
use Rattle.text_value.proofs.digit.decimal_at.Goals as goal

pub returns-in_err-c : goal.returns-in_err-c
returns-in_err-c c =
    let a = c.args in
    rw c.from_residual.ensures (decimal-past a.limit a.text.now a.at c.in_err-c.ensures.lookup.3, tt, tt)

pub returns-then-c-eq48 : goal.returns-then-c-eq48
returns-then-c-eq48 c =
    let a = c.args in
    let found = c.in_ok-c.ensures.lookup.3 in
    decimal-placed a.limit a.text.now a.at _ (omega (arith, found.0))
    (decimal-zero a.limit a.text.now a.at found.0 (sym (found.1 0) ∙ c.if-c-eq48.true))

pub overflow_sub-c : goal.overflow_sub-c
overflow_sub-c c = omega (arith, digit-bounds _ (sym c.is_decimal.ensures ∙ c.if-is_decimal.true))

pub returns-then-is_decimal : goal.returns-then-is_decimal
returns-then-is_decimal c =
    let a = c.args in
    let found = c.in_ok-c.ensures.lookup.3 in
    let e = found.1 0 in
    decimal-placed a.limit a.text.now a.at _ (omega (arith, found.0))
    (c.more_decimal.ensures
    ∙ ap (λ (n : ℕ). more_decimal a.limit (n - 48) 1 (drop (a.at + 1) a.text.now)) e
    ∙ decimal-more a.limit a.text.now a.at found.0 (λ z. c.if-c-eq48.false (e ∙ z))
    (rw e at (sym c.is_decimal.ensures ∙ c.if-is_decimal.true)))

pub returns : goal.returns
returns c =
    let a = c.args in
    let found = c.in_ok-c.ensures.lookup.3 in
    let e = found.1 0 in
    let other = rw e at (sym c.is_decimal.ensures ∙ c.if-is_decimal.false) in
    (decimal-none a.limit a.text.now a.at found.0 (λ z. c.if-c-eq48.false (e ∙ z)) other, tt, tt)
