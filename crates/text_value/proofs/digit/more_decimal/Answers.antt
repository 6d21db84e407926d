use mathlib.Core.Path.{◌≡◌, sym, ◌∙◌}
use native.Mathlib.Omega.{arith}
use Prim.Native.Nat.{suc, ◌+◌, ◌-◌}
use Rattle.digits.proofs.Decimals.{digit-bounds}
use Rattle.text_value.proofs.Decimals.{more-end, more-stop, more-over, more_turn}
use Rattle.text_value.proofs.digit.more_decimal.Goals as goal

pub loop-i-init : goal.loop-i-init
loop-i-init c = let e : c.args.at - c.args.at + 1 ≡ 1 = omega arith in (rw e, omega arith, omega arith, omega arith)

pub returns-then-not-is_decimal : goal.returns-then-not-is_decimal
returns-then-not-is_decimal c =
    let x = c.loop-i in
    let s = c.args.text.now in
    more-stop _ _ x.value _ s x.i x.invariant.0 c.loop-i-test.true (sym c.is_decimal.ensures ∙ c.if-not-is_decimal.true)

pub overflow_sub-value : goal.overflow_sub-value
overflow_sub-value c = omega (arith, digit-bounds _ (sym c.is_decimal.ensures ∙ c.if-not-is_decimal.false))

pub overflow_cast-value-in-loop-i : goal.overflow_cast-value-in-loop-i
overflow_cast-value-in-loop-i c = omega (arith, digit-bounds _ (sym c.is_decimal.ensures ∙ c.if-not-is_decimal.false))

pub overflow_add-value : goal.overflow_add-value
overflow_add-value c = omega (arith, digit-bounds _ (sym c.is_decimal.ensures ∙ c.if-not-is_decimal.false))

pub returns-then-most-value : goal.returns-then-most-value
returns-then-most-value c =
    let x = c.loop-i in
    let s = c.args.text.now in
    more-over _ _ x.value _ s x.i x.invariant.0 c.loop-i-test.true
    (sym c.is_decimal.ensures ∙ c.if-not-is_decimal.false) c.if-most-value.true

pub loop-i-preserved : goal.loop-i-preserved
loop-i-preserved c =
    let x = c.loop-i in
    let a = c.args in
    let e : suc (x.i - a.at + 1) ≡ x.i + 1 - a.at + 1 = omega arith in (
      rw e at (more_turn _ _ x.value (x.i - a.at + 1) a.text.now x.i x.invariant.0 c.loop-i-test.true
          (sym c.is_decimal.ensures ∙ c.if-not-is_decimal.false) c.if-most-value.false),
      omega arith,
      omega arith,
      omega arith,
    )

pub returns : goal.returns
returns c =
    let x = c.loop-i in
    more-end _ _ x.value _ c.args.text.now x.i x.invariant.0 c.loop-i-test.false
