-- `publish::parameter::put_int_pair` meets its contract: code, count and two numbers are the bytes of that list.
use Prim.Native.Nat.{◌+◌}
use mathlib.Core.Path.{refl, sym}
use mathlib.Core.List.{◌++◌}
use native.Mathlib.Omega.{arith}
use Rattle.wire.proofs.Buffers.{put_is, put-joined}
use Rattle.list.specs.declared.Kind.TheVariants.{Int}
use Rattle.list.specs.Kind.{typed_code}
use Rattle.list.specs.Bytes.{number}
use Rattle.publish.proofs.Stores.{put_as}
use Rattle.publish.proofs.Pieces.{int-pair}
use Rattle.publish.proofs.parameter.put_int_pair.Goals as goal

pub returns : goal.returns
returns c =
    let a = c.args in
    let two = number a.index ++ number a.x in
    put_as (sym (int-pair a.index a.x))
    (record {
      stored =
          put-joined a.buffer.now a.at (a.at + 8) (number (typed_code Int) ++ number 2) two refl (omega arith) c.put_two_u32.ensures
          (put_is c.put_two_u32.new.dst (a.at + 8) two c.put_two_u32-2.ensures (omega arith));
      behind = refl;
    })
