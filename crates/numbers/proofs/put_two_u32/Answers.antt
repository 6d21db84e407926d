-- `numbers::put_two_u32` meets its contract: the bytes of one number of twice the width are those of the two.
use mathlib.Core.Path.{ap, ◌∙◌}
use native.Mathlib.Omega.{arith}
use Rattle.wire.specs.Number.{le_bytes}
use Rattle.wire.specs.Area.{put_at}
use Rattle.wire.proofs.Numbers.{bytes-joined}
use Rattle.numbers.proofs.put_two_u32.Goals as goal

pub returns : goal.returns
returns c =
    let a = c.args in
    c.put_u64.ensures
    ∙ ap (put_at a.dst.now a.at) (ap (le_bytes 8) c.join64.ensures ∙ bytes-joined 4 4 a.x a.y (omega arith))
