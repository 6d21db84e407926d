-- `parameters::data::change_row` meets its contract: judged first, then stored.
use mathlib.Core.Path.{sym}
use native.Mathlib.Omega.{arith}
use Rattle.parameters.proofs.Rows.{row-length}
use Rattle.parameters.proofs.data.change_row.Goals as goal

pub bounds-row-3 : goal.bounds-row-3
bounds-row-3 c =
    let r = c.if-not-is_row.ensures in
    omega (arith, row-length c.args.row.now (sym r))

pub bounds-row-2 : goal.bounds-row-2
bounds-row-2 c =
    let r = c.if-not-is_row.ensures in
    omega (arith, row-length c.args.row.now (sym r))
