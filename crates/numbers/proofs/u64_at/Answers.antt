-- `numbers::u64_at` meets its contract, by the number's two halves.
use Prim.Native.Nat.{◌+◌}
use mathlib.Core.Path.{sym}
use native.Mathlib.Omega.{arith}
use Rattle.wire.proofs.Numbers.{number_past, number-8}
use Rattle.numbers.proofs.u64_at.Goals as goal

pub returns-then-s-at : goal.returns-then-s-at
returns-then-s-at c = sym (number_past 8 c.args.s.now c.args.at c.if-s-at.true)

pub returns-then-s-at-le4 : goal.returns-then-s-at-le4
returns-then-s-at-le4 c =
    let a = c.args in
    omega (arith, c.u32_at.ensures, number-8 a.s.now a.at, number_past 4 a.s.now (a.at + 4) (omega arith))

pub returns : goal.returns
returns c =
    let a = c.args in
    omega (arith, c.join64.ensures, c.u32_at-3.ensures, c.u32_at-2.ensures, number-8 a.s.now a.at)
