-- `slot::write::put_slot` meets its contract: three writes end to end are the row's.
use mathlib.Core.Path.{sym}
use native.Mathlib.Omega.{arith}
use Prim.Native.Nat.{◌*◌}
use Rattle.slot.specs.Row.{slot_size}
use Rattle.slot.proofs.Rows.{with_none, put-parts}
use Rattle.slot.proofs.write.put_slot.Goals as goal

pub returns-then-t-i : goal.returns-then-t-i
returns-then-t-i c = let a = c.args in sym (with_none a.t.now a.i a.s (omega arith))

pub returns : goal.returns
returns c =
    let a = c.args in
    put-parts a.t.now (slot_size * a.i) a.s c.head_bytes-h.ensures c.flag_bytes-f.ensures c.word_bytes-w.ensures
    c.copy_at.ensures c.copy_at-2.ensures c.copy_at-3.ensures (omega arith)
