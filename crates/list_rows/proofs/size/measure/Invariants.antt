-- `list_rows::size::measure` meets its contract.
-- The invariant: the size of all rows is `total` and the size of the rows from row i on.
use Prim.Native.Nat.{◌+◌, ◌≤◌}
use mathlib.Core.Path.{◌≡◌}
use Rattle.list.specs.Limits.{list_limit}
use Rattle.list.specs.RowBytes.{unpacked}
use Rattle.list_rows.specs.Row.{rows_from}
use Rattle.list_rows.specs.Emit.{size_from}
use Rattle.list_rows.proofs.size.measure.Given as goal

abbrev pub invariant-loop-i : goal.invariant-loop-i
invariant-loop-i l =
    (size_from (unpacked l.rows) 0 ≡ l.total + size_from (rows_from (unpacked l.rows) l.i) l.left) × (l.total ≤ list_limit)
