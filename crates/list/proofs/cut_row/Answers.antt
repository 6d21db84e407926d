-- `list::cut_row` meets its contract.
use Prim.Native.Nat.{◌*◌, ◌+◌}
use native.Mathlib.Omega.{arith}
use Rattle.list.specs.Limits.{row_numbers}
use Rattle.list.proofs.RowBytes.{unpacked-past}
use Rattle.list.proofs.cut_row.Goals as goal

pub returns-then-rows-i : goal.returns-then-rows-i
returns-then-rows-i c =
    let rows = c.args.rows.now in
    let at = row_numbers * c.args.i in
    let past = c.if-rows-i.true in
    rw (unpacked-past rows at (omega (arith, past)), unpacked-past rows (at + 1) (omega (arith, past)), unpacked-past rows (at + 2) (omega (arith, past)))
