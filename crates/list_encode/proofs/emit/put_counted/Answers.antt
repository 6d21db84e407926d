-- `list_encode::emit::put_counted` meets its contract: one write behind another.
use Prim.Native.Nat.{◌+◌}
use mathlib.Core.Path.{refl}
use native.Mathlib.Omega.{arith}
use Rattle.wire.proofs.Buffers.{put_is, put-joined}
use Rattle.list.specs.Bytes.{number}
use Rattle.list_encode.proofs.emit.put_counted.Goals as goal

pub returns : goal.returns
returns c =
    let a = c.args in
    put-joined a.buffer.now a.at (a.at + 4) (number a.count) a.bytes.now refl (omega arith) c.put_u32.ensures
    (put_is c.put_u32.new.dst (a.at + 4) a.bytes.now c.copy_at.ensures (omega arith))
