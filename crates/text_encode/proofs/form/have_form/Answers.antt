use native.Mathlib.Omega.{arith}
use Rattle.list.specs.RowBytes.{unpacked}
use Rattle.text_encode.proofs.Forms.{form-end, form-stop, form-goes}
use Rattle.text_encode.proofs.form.have_form.Goals as goal

pub returns-then-not-row_has_form : goal.returns-then-not-row_has_form
returns-then-not-row_has_form c =
    let rows = unpacked c.args.rows.now in
    form-stop _ rows c.loop-i.i c.loop-i.invariant (omega arith) _ c.row_at.ensures _ c.row_has_form.ensures c.if-not-row_has_form.true

pub loop-i-preserved : goal.loop-i-preserved
loop-i-preserved c =
    let rows = unpacked c.args.rows.now in
    form-goes _ rows c.loop-i.i c.loop-i.invariant (omega arith) _ c.row_at.ensures _ c.row_has_form.ensures c.if-not-row_has_form.false

pub returns : goal.returns
returns c =
    let x = c.loop-i in
    form-end _ (unpacked c.args.rows.now) x.i x.invariant (omega arith)
