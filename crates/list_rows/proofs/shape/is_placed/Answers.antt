-- `list_rows::shape::is_placed` meets its contract.
use Rattle.list_rows.specs.Shape.{placed}
use Rattle.list_rows.proofs.Rows.{natural-is}
use Rattle.list_rows.proofs.shape.is_placed.Goals as goal

pub returns : goal.returns
unfolding placed
returns c = rw (c.wide.ensures.0, c.wide-2.ensures.0, ← natural-is c.args.size)
