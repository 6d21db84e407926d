-- `publish::rows::put_uid` meets its contract: the blob's code, its length, its bytes.
use Prim.Native.Nat.{◌+◌}
use mathlib.Core.Path.{refl}
use mathlib.Core.List.{◌++◌}
use native.Mathlib.Omega.{arith}
use Rattle.wire.specs.Number.{le_bytes}
use Rattle.wire.proofs.Buffers.{put_is, put-joined}
use Rattle.list.specs.Bytes.{number}
use Rattle.publish.proofs.rows.put_uid.Goals as goal

pub returns : goal.returns
returns c =
    let a = c.args in
    put-joined a.buffer.now a.at (a.at + 8) (number 12 ++ number 8) (le_bytes 8 a.uid) refl (omega arith) c.put_two_u32.ensures
    (put_is c.put_two_u32.new.dst (a.at + 8) (le_bytes 8 a.uid) c.put_u64.ensures (omega arith))
