-- `publish::rows::put_front` meets its contract: four pieces, one behind the other.
use Prim.Native.Nat.{◌+◌}
use mathlib.Core.Path.{◌≡◌, refl}
use mathlib.Core.List.{◌++◌}
use native.Mathlib.Omega.{arith}
use Rattle.wire.specs.Number.{le_bytes}
use Rattle.wire.proofs.Buffers.{put-joined}
use Rattle.list.specs.Kind.{list_code}
use Rattle.list.specs.Bytes.{number}
use Rattle.publish.specs.Put.{front}
use Rattle.publish.proofs.rows.put_front.Goals as goal

pub returns : goal.returns
unfolding front
returns c =
    let a = c.args in
    let one = number list_code ++ number (3 + a.held) in
    let two = number 1 ++ number a.s.socket in
    let three = number 1 ++ number a.s.device in
    let four = number 12 ++ (number 8 ++ le_bytes 8 a.s.uid) in
    let f : a.at + 16 ≡ a.at + 8 + 8 = omega arith in
    let g : a.at + 24 ≡ a.at + 16 + 8 = omega arith in
    put-joined a.buffer.now a.at (a.at + 8) one (two ++ (three ++ four)) refl (omega arith) c.put_two_u32.ensures
    (put-joined c.put_two_u32.new.dst (a.at + 8) (a.at + 16) two (three ++ four) f (omega arith) c.put_two_u32-2.ensures
    (put-joined c.put_two_u32-2.new.dst (a.at + 16) (a.at + 24) three four g (omega arith)
    c.put_two_u32-3.ensures c.put_uid.ensures))
