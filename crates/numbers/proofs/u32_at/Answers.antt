-- `numbers::u32_at` meets its contract, by the number's bytes one at a time.
use Prim.Native.Nat.{◌+◌}
use mathlib.Core.Path.{◌≡◌, sym}
use native.Mathlib.Omega.{arith}
use lib.ListN.{get_or, get_or-eq_default}
use Rattle.wire.proofs.Numbers.{number_past, number-4}
use Rattle.numbers.proofs.u32_at.Goals as goal

pub returns-then-s-at : goal.returns-then-s-at
returns-then-s-at c = sym (number_past 4 c.args.s.now c.args.at c.if-s-at.true)

pub returns-then-s-at-ge4 : goal.returns-then-s-at-ge4
returns-then-s-at-ge4 c =
    let a = c.args in
    omega (arith, c.join32.ensures, number-4 a.s.now a.at)

pub returns : goal.returns
returns c =
    let a = c.args in
    let past : get_or a.s.now (a.at + 3) 0 ≡ 0 = get_or-eq_default a.s.now 0 (omega arith) in
    omega (arith, c.join32-2.ensures, c.byte_at-2.ensures, c.byte_at.ensures, number-4 a.s.now a.at)
