-- `text_value::blob::blob_byte_at` meets its contract: the gap says which case of the definition it is.
use mathlib.Core.Path.{refl, sym}
use native.Mathlib.Omega.{arith}
use Rattle.text_value.proofs.BlobBytes.{gap-inside, byte-gap, byte-none}
use Rattle.text_value.proofs.blob.blob_byte_at.Goals as goal

pub returns-in_err-gap : goal.returns-in_err-gap
returns-in_err-gap c =
    let a = c.args in
    rw c.from_residual.ensures (byte-none a.text.now a.at a.first (sym c.in_err-gap.ensures), tt, tt)

pub overflow_add-at : goal.overflow_add-at
overflow_add-at c =
    let a = c.args in
    omega (arith, gap-inside a.first a.text.now a.at _ (sym c.in_ok-gap.ensures))

pub returns-in_err-bits : goal.returns-in_err-bits
returns-in_err-bits c =
    let a = c.args in
    rw c.from_residual-in_err-bits.ensures (byte-gap a.text.now a.at _ a.first _ _ (sym c.in_ok-gap.ensures) refl c.in_err-bits.ensures)

pub returns : goal.returns
returns c =
    let a = c.args in
    byte-gap a.text.now a.at _ a.first _ _ (sym c.in_ok-gap.ensures) refl c.in_ok-bits.ensures
