use Prim.Native.Nat.{suc, ◌+◌, ◌-◌, ◌^◌}
use mathlib.Core.Path.{◌≡◌, refl, sym, ◌∙◌}
use native.Mathlib.Omega.{arith}
use Rattle.text_value.proofs.Decimals.{decimal-zero, more-halt}
use Rattle.text_decode.proofs.Knowns.{known_as, decimal-inside, decimal-start, digit-turn}
use Rattle.text_decode.proofs.known.known_decimal.Goals as goal

pub bounds-text-at : goal.bounds-text-at
bounds-text-at c =
    decimal-inside (2 ^ 32 - 1) c.args.text.now c.args.at c.requires

pub overflow_add-result : goal.overflow_add-result
overflow_add-result c =
    omega (arith, decimal-inside (2 ^ 32 - 1) c.args.text.now c.args.at c.requires)

pub returns-then-text-at-eq48 : goal.returns-then-text-at-eq48
returns-then-text-at-eq48 c =
    let inside = decimal-inside (2 ^ 32 - 1) c.args.text.now c.args.at c.requires in
    known_as _ 0 1 c.args.at _ (sym (decimal-zero (2 ^ 32 - 1) c.args.text.now c.args.at inside c.if-text-at-eq48.true)) refl refl

pub loop-bits-init : goal.loop-bits-init
loop-bits-init c =
    let e : c.args.at - c.args.at ≡ 0 = omega arith in
    (rw e (decimal-start (2 ^ 32 - 1) c.args.text.now c.args.at (omega arith) c.if-text-at-eq48.false c.requires), omega arith)

pub overflow_mul-bits : goal.overflow_mul-bits
overflow_mul-bits c =
    let x = c.loop-bits in
    omega (arith, digit-turn _ (2 ^ 32 - 1) x.bits _ c.args.text.now x.end x.invariant.0 c.requires (sym c.is_digit.ensures ∙ c.loop-bits-test.true))

pub bounds-text-end : goal.bounds-text-end
bounds-text-end c =
    let x = c.loop-bits in
    (digit-turn _ (2 ^ 32 - 1) x.bits _ c.args.text.now x.end x.invariant.0 c.requires (sym c.is_digit.ensures ∙ c.loop-bits-test.true)).0

pub overflow_sub-bits : goal.overflow_sub-bits
overflow_sub-bits c =
    let x = c.loop-bits in
    omega (arith, digit-turn _ (2 ^ 32 - 1) x.bits _ c.args.text.now x.end x.invariant.0 c.requires (sym c.is_digit.ensures ∙ c.loop-bits-test.true))

pub overflow_cast-bits : goal.overflow_cast-bits
overflow_cast-bits c =
    let x = c.loop-bits in
    omega (arith, digit-turn _ (2 ^ 32 - 1) x.bits _ c.args.text.now x.end x.invariant.0 c.requires (sym c.is_digit.ensures ∙ c.loop-bits-test.true))

pub overflow_add-bits : goal.overflow_add-bits
overflow_add-bits c =
    let x = c.loop-bits in
    omega (arith, digit-turn _ (2 ^ 32 - 1) x.bits _ c.args.text.now x.end x.invariant.0 c.requires (sym c.is_digit.ensures ∙ c.loop-bits-test.true))

pub overflow_add-end : goal.overflow_add-end
overflow_add-end c =
    let x = c.loop-bits in
    omega (arith, digit-turn _ (2 ^ 32 - 1) x.bits _ c.args.text.now x.end x.invariant.0 c.requires (sym c.is_digit.ensures ∙ c.loop-bits-test.true))

pub loop-bits-smaller : goal.loop-bits-smaller
loop-bits-smaller c =
    let x = c.loop-bits in
    omega (arith, (digit-turn _ (2 ^ 32 - 1) x.bits _ c.args.text.now x.end x.invariant.0 c.requires (sym c.is_digit.ensures ∙ c.loop-bits-test.true)).0)

pub loop-bits-preserved : goal.loop-bits-preserved
loop-bits-preserved c =
    let x = c.loop-bits in
    let t = digit-turn _ (2 ^ 32 - 1) x.bits _ c.args.text.now x.end x.invariant.0 c.requires (sym c.is_digit.ensures ∙ c.loop-bits-test.true) in
    let e : suc (x.end - c.args.at) ≡ x.end + 1 - c.args.at = omega (arith, x.invariant.1) in
    (rw e at t.4, omega (arith, x.invariant.1))

pub returns : goal.returns
returns c =
    let x = c.loop-bits in
    let done = more-halt _ (2 ^ 32 - 1) x.bits _ c.args.text.now x.end x.invariant.0 (sym c.is_digit.ensures ∙ c.loop-bits-test.false) in
    known_as _ x.bits (x.end - c.args.at) c.args.at _ (sym done) refl (omega (arith, x.invariant.1))
