-- `list::number_at` meets its contract.
use mathlib.Core.Path.{refl, sym}
use Rattle.list.proofs.RowBytes.{unpacked-part, unpacked-past}
use Rattle.list.proofs.number_at.Goals as goal

pub returns-then-i-rows : goal.returns-then-i-rows
returns-then-i-rows c =
    let a = c.args in
    unpacked-part a.rows.now a.i _ _ _ c.if-i-rows.true refl refl c.u32_at.ensures

pub returns : goal.returns
returns c = sym (unpacked-past c.args.rows.now c.args.i c.if-i-rows.false)
