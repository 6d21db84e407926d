-- `text_encode::emit::open_list` meets its contract.
use native.Mathlib.Omega.{arith}
use Rattle.list.proofs.RowBytes.{unpacked-length}
use Rattle.text_encode.proofs.emit.open_list.Goals as goal

pub overflow_add-result : goal.overflow_add-result
overflow_add-result c = omega (arith, c.requires.0, unpacked-length c.args.rows.now)

pub returns : goal.returns
returns c = record { written = c.put.ensures; to = rw (c.put.ensures.end, c.row_at-row.ensures) }
