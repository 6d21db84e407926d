-- `text_decode::known::known_int` meets its contract.
use Prim.Native.Nat.{ℕ, suc, ◌-◌, ◌^◌}
use mathlib.Core.Path.{ap}
use native.Mathlib.Omega.{arith}
use Rattle.text_decode.proofs.Knowns.{known_as, known_is, of-got, int-known}
use Rattle.text_decode.proofs.known.known_int.Goals as goal

pub overflow_add-at : goal.overflow_add-at
overflow_add-at c =
    omega (arith, (int-known c.args.text.now c.args.at c.args.sign c.requires.0 c.requires.1).inside)

pub known_decimal-number-requires : goal.known_decimal-number-requires
known_decimal-number-requires c =
    of-got (int-known c.args.text.now c.args.at c.args.sign c.requires.0 c.requires.1).digits

pub returns-then-sign-eq0 : goal.returns-then-sign-eq0
returns-then-sign-eq0 c =
    let x = int-known c.args.text.now c.args.at c.args.sign c.requires.0 c.requires.1 in
    let r = known_is c.known_decimal-number.ensures x.n x.k x.digits in
    known_as _ x.n x.k c.args.at _ (x.plain c.if-sign-eq0.true) r.0 (omega (arith, r.1, c.if-sign-eq0.true))

pub overflow_cast-result-2 : goal.overflow_cast-result-2
overflow_cast-result-2 c =
    let x = int-known c.args.text.now c.args.at c.args.sign c.requires.0 c.requires.1 in
    let r = known_is c.known_decimal-number.ensures x.n x.k x.digits in
    omega (arith, r.0, (x.minus c.if-sign-eq0.false).0)

pub returns : goal.returns
returns c =
    let x = int-known c.args.text.now c.args.at c.args.sign c.requires.0 c.requires.1 in
    let r = known_is c.known_decimal-number.ensures x.n x.k x.digits in
    let m = x.minus c.if-sign-eq0.false in
    known_as _ (2 ^ 32 - x.n) (suc x.k) c.args.at _ m.2 (ap (λ (n : ℕ). 4294967296 - n) r.0) (omega (arith, r.1, m.1))
