-- `list_rows::depth::is_too_deep` meets its contract.
-- The invariant: the answer for all rows is that for the rows from row i on, and the open lists are not too deep.
use Prim.Native.Nat.{◌+◌, ◌-◌, ◌*◌, ◌<◌}
use mathlib.Core.Path.{◌≡◌}
use lib.ListN.{length}
use Rattle.list.specs.Limits.{depth_limit}
use Rattle.list.specs.RowBytes.{unpacked}
use Rattle.list_rows.specs.Row.{rows_from}
use Rattle.list_rows.specs.Nesting.{deep_from, too_deep}
use Rattle.list_rows.proofs.Nestings.{stack_of}
use Rattle.list_rows.proofs.depth.is_too_deep.Given as goal

abbrev pub invariant-loop-i : goal.invariant-loop-i
invariant-loop-i l =
    (too_deep (unpacked l.rows) ≡ deep_from (rows_from (unpacked l.rows) l.i) (stack_of l.outer l.level) l.left) × (l.level < depth_limit) × (length l.outer ≡ depth_limit)

abbrev pub decreases-loop-i : goal.decreases-loop-i
decreases-loop-i l = 2 * (l.count - l.i) + l.level
