-- `text_decode::fill::close_list` meets its contract: the third number is read, and 0 takes its place.
use Prim.Native.Nat.{◌+◌}
use mathlib.Core.Path.{refl}
use native.Mathlib.Omega.{arith}
use Rattle.list.specs.Bytes.{number}
use Rattle.list_decode.proofs.Writing.{length-read, part-put}
use Rattle.text_decode.proofs.fill.close_list.Goals as goal

pub returns : goal.returns
returns c =
    let rows = c.args.rows.now in
    let at = c.args.outer + 8 in
    (part-put rows at (at + 4) (number 0) _ refl (omega (arith, c.requires)) c.put_u32.ensures, length-read rows at _ c.u32_at-around.ensures)
