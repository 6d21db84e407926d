-- `publish::rows::put_list` meets its contract: the rows, and then the list's code and count before them.
use mathlib.Core.List.{◌++◌}
use native.Mathlib.Omega.{arith}
use Rattle.wire.proofs.Buffers.{put_is}
use Rattle.list.specs.Kind.{list_code}
use Rattle.list.specs.Bytes.{number}
use Rattle.table.specs.Places.{slot_count, socket_count}
use Rattle.publish.proofs.Pieces.{published-length, published-put}
use Rattle.publish.proofs.rows.put_list.Goals as goal

pub put_devices-x-requires : goal.put_devices-x-requires
put_devices-x-requires c =
    omega (arith, published-length slot_count socket_count c.args.c.now c.args.t.now, c.requires)

pub returns : goal.returns
returns c =
    let a = c.args in
    let put = c.put_devices-x in
    let x = put.ensures in
    let front = number list_code ++ number put.result.count in
    let n = published-length slot_count socket_count a.c.now a.t.now in
    published-put slot_count socket_count a.c.now a.t.now c.requires x.0 x.1
    (put_is put.new.buffer 0 front c.put_two_u32.ensures (omega (arith, n, c.requires, put.auto)))
