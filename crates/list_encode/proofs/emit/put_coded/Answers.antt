-- `list_encode::emit::put_coded` meets its contract: one write behind another.
use Prim.Native.Nat.{◌+◌}
use mathlib.Core.Path.{refl}
use native.Mathlib.Omega.{arith}
use Rattle.wire.proofs.Buffers.{put-joined}
use Rattle.list.specs.Kind.{kind_of}
use Rattle.list.specs.Bytes.{number}
use Rattle.list_rows.specs.Emit.{found_bytes}
use Rattle.list_encode.proofs.emit.put_coded.Goals as goal

pub returns : goal.returns
returns c =
    let a = c.args in
    let bs = found_bytes a.bytes.now a.row.second a.row.third (kind_of a.row.code) in
    put-joined a.buffer.now a.at (a.at + 4) (number a.code) bs refl (omega arith) c.put_u32.ensures c.put_value.ensures
