-- `text_decode::known::known_scale` meets its contract.
use Prim.Native.Nat.{ℕ, suc, ◌+◌, ◌-◌}
use mathlib.Core.Path.{ap}
use native.Mathlib.Omega.{arith}
use Rattle.text_decode.proofs.Knowns.{known_as, known_is, of-got, scale-known}
use Rattle.text_decode.proofs.known.known_scale.Goals as goal

pub overflow_add-at : goal.overflow_add-at
overflow_add-at c = omega (arith, (scale-known c.args.text.now c.args.at c.requires).inside)

pub known_decimal-number-requires : goal.known_decimal-number-requires
known_decimal-number-requires c = of-got (scale-known c.args.text.now c.args.at c.requires).digits

pub bounds-text-at : goal.bounds-text-at
bounds-text-at c = (scale-known c.args.text.now c.args.at c.requires).inside

pub overflow_add-result : goal.overflow_add-result
overflow_add-result c =
    let x = scale-known c.args.text.now c.args.at c.requires in
    omega (arith, (known_is c.known_decimal-number.ensures x.n x.k x.digits).0, (x.plus c.if-text-at-eq43.true).0)

pub returns-then-text-at-eq43 : goal.returns-then-text-at-eq43
returns-then-text-at-eq43 c =
    let x = scale-known c.args.text.now c.args.at c.requires in
    let r = known_is c.known_decimal-number.ensures x.n x.k x.digits in
    known_as _ (1023 + x.n) (suc x.k) c.args.at _ (x.plus c.if-text-at-eq43.true).1 (ap (λ (n : ℕ). 1023 + n) r.0) (omega (arith, r.1))

pub overflow_sub-result : goal.overflow_sub-result
overflow_sub-result c =
    let x = scale-known c.args.text.now c.args.at c.requires in
    omega (arith, (known_is c.known_decimal-number.ensures x.n x.k x.digits).0, (x.minus c.if-text-at-eq43.false).0)

pub returns : goal.returns
returns c =
    let x = scale-known c.args.text.now c.args.at c.requires in
    let r = known_is c.known_decimal-number.ensures x.n x.k x.digits in
    known_as _ (1023 - x.n) (suc x.k) c.args.at _ (x.minus c.if-text-at-eq43.false).1 (ap (λ (n : ℕ). 1023 - n) r.0) (omega (arith, r.1))
