-- `list_rows::look::common_in` meets its contract.
-- The invariant: what all elements have in common is what `seen` and the elements from row i on have.
use mathlib.Core.Path.{◌≡◌}
use Rattle.list.specs.RowBytes.{unpacked}
use Rattle.list_rows.specs.Row.{rows_from}
use Rattle.list_rows.specs.Emit.{common_in}
use Rattle.list_rows.proofs.look.common_in.Given as goal

abbrev pub invariant-loop-i : goal.invariant-loop-i
invariant-loop-i l = common_in 0 l.n (rows_from (unpacked l.rows) l.first) ≡ common_in l.seen l.left (rows_from (unpacked l.rows) l.i)
