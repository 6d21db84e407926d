-- `numbers::u16_at` meets its contract, by the number's bytes one at a time.
use mathlib.Core.Path.{sym}
use native.Mathlib.Omega.{arith}
use Rattle.wire.proofs.Numbers.{number_past, number-2}
use Rattle.numbers.proofs.u16_at.Goals as goal

pub returns-then-s-at : goal.returns-then-s-at
returns-then-s-at c = sym (number_past 2 c.args.s.now c.args.at c.if-s-at.true)

pub returns : goal.returns
returns c =
    let a = c.args in
    omega (arith, c.join16.ensures, c.byte_at.ensures, number-2 a.s.now a.at)
