-- `list_decode::fill::put_typed` meets its contract: the row, then the run.
use mathlib.Core.Path.{refl}
use Prim.Native.Nat.{◌+◌}
use Rattle.list.specs.Kind.{kind_of, list_code}
use Rattle.list_decode.specs.Pieces.{plain}
use Rattle.list_decode.proofs.Writing.{no_bytes}
use Rattle.list_decode.proofs.Elements.{behind-room, behind-written}
use Rattle.list_decode.proofs.fill.put_typed.Goals as goal

pub put_run-requires : goal.put_run-requires
put_run-requires c =
    let a = c.args in
    let r = plain list_code a.n 0 (a.x.pos + 8) in
    let first = no_bytes r refl a.store.now c.put_plain-y.ensures in
    (rw first.pos c.requires.here, behind-room a.s.now (kind_of a.code) a.n a.x r refl first c.requires.room)

pub returns : goal.returns
returns c =
    let a = c.args in
    let r = plain list_code a.n 0 (a.x.pos + 8) in
    let first = no_bytes r refl a.store.now c.put_plain-y.ensures in
    behind-written a.s.now (kind_of a.code) a.n a.x r refl first c.put_run.ensures
