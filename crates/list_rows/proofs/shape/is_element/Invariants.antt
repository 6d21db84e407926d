-- `list_rows::shape::is_element` meets its contract.
-- The invariant: the answer for all rows is that for the rows from row i on, and `used` stays inside the store.
use Prim.Native.Nat.{◌≤◌}
use mathlib.Core.Path.{◌≡◌}
use lib.ListN.{length}
use Rattle.list.specs.RowBytes.{unpacked}
use Rattle.list_rows.specs.Row.{rows_from}
use Rattle.list_rows.specs.Shape.{shape}
use Rattle.list_rows.proofs.shape.is_element.Given as goal

abbrev pub invariant-loop-i : goal.invariant-loop-i
invariant-loop-i l =
    (shape l.store (unpacked l.rows) 1 0 ≡ shape l.store (rows_from (unpacked l.rows) l.i) l.want l.used) × (l.used ≤ length l.store)
