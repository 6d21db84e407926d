-- `list_rows::row::row_count` meets its contract: three numbers of four bytes are a row.
use native.Mathlib.Omega.{arith}
use Rattle.list.proofs.RowBytes.{unpacked-length}
use Rattle.list_rows.proofs.row.row_count.Goals as goal

pub returns : goal.returns
returns c = (omega (arith, unpacked-length c.args.rows.now), omega arith)
