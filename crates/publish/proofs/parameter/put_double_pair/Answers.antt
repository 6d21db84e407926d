-- `publish::parameter::put_double_pair` meets its contract: code, count, and index and double behind their codes are the bytes of that list.
use Prim.Native.Nat.{◌+◌, ◌/◌, ◌%◌}
use mathlib.Core.Path.{◌≡◌, refl, sym}
use mathlib.Core.List.{◌++◌}
use native.Mathlib.Omega.{arith}
use Rattle.wire.proofs.Buffers.{put_is, put-joined}
use Rattle.list.specs.Kind.{list_code}
use Rattle.list.specs.Bytes.{number}
use Rattle.publish.proofs.Stores.{put_as}
use Rattle.publish.proofs.Pieces.{double-pair}
use Rattle.publish.proofs.parameter.put_double_pair.Goals as goal

pub returns : goal.returns
returns c =
    let a = c.args in
    let one = number list_code ++ number 2 in
    let two = number 1 ++ number a.index in
    let three = number 10 in
    let four = number (a.bits % 0x1_0000_0000) ++ number (a.bits / 0x1_0000_0000) in
    let f : a.at + 16 ≡ a.at + 8 + 8 = omega arith in
    let g : a.at + 20 ≡ a.at + 16 + 4 = omega arith in
    put_as (sym (double-pair a.index a.bits))
    (record {
      stored =
          put-joined a.buffer.now a.at (a.at + 8) one (two ++ (three ++ four)) refl (omega arith) c.put_two_u32.ensures
          (put-joined c.put_two_u32.new.dst (a.at + 8) (a.at + 16) two (three ++ four) f (omega arith) c.put_two_u32-2.ensures
          (put-joined c.put_two_u32-2.new.dst (a.at + 16) (a.at + 20) three four g (omega arith) c.put_u32.ensures
          (put_is c.put_u32.new.dst (a.at + 20) four c.put_two_u32-3.ensures (omega arith))));
      behind = refl;
    })
