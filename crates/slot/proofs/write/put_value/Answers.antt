-- `slot::write::put_value` meets its contract: the flag and the number are put where the row has them.
use Prim.Native.Nat.{◌+◌, ◌*◌}
use mathlib.Core.Path.{sym, ap, ◌∙◌}
use native.Mathlib.Omega.{arith}
use lib.ListN.{length, set, length-set}
use Rattle.wire.specs.Number.{le_bytes}
use Rattle.slot.specs.Row.{present_from, bits_from, word_size}
use Rattle.slot.proofs.Filling.{length-put}
use Rattle.slot.proofs.Values.{held, held-no-row, held-past}
use Rattle.slot.proofs.write.put_value.Goals as goal

pub returns-then-row-ne-SLOT_BYTES : goal.returns-then-row-ne-SLOT_BYTES
returns-then-row-ne-SLOT_BYTES c = let a = c.args in sym (held-no-row a.row.now a.p a.bits (λ e. omega arith))

pub returns-then-p-ge-MAX_PARAMETERS : goal.returns-then-p-ge-MAX_PARAMETERS
returns-then-p-ge-MAX_PARAMETERS c = let a = c.args in sym (held-past a.row.now a.p a.bits (omega arith) (omega arith))

pub shape_of-row : goal.shape_of-row
shape_of-row c =
    let a = c.args in
    let flagged = set a.row.now (present_from + a.p) 1 in
    ap length c.put_u32.ensures
    ∙ length-put flagged (bits_from + word_size * a.p) (le_bytes word_size a.bits)
    ∙ length-set a.row.now (present_from + a.p) 1

pub returns : goal.returns
returns c =
    let a = c.args in
    c.put_u32.ensures ∙ sym (held a.row.now a.p a.bits (omega arith) (omega arith))
