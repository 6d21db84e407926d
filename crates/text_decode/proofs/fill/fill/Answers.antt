use mathlib.Core.Path.{ap, ◌∙◌}
use native.Mathlib.Omega.{arith}
use lib.ListN.{length}
use lib.Seq.{length-sets}
use Rattle.text_decode.proofs.Stages.{size-now, rows-length, store_length}
use Rattle.text_decode.proofs.Accepting.{first_row, told, stage-start, stage-done}
use Rattle.text_decode.proofs.fill.fill.Goals as goal

pub put_row-requires : goal.put_row-requires
put_row-requires c = omega (arith, c.requires.row_room)

pub loop-x-init : goal.loop-x-init
loop-x-init c =
    let a = c.args in
    stage-start a.text.now a.rows.now a.store.now _ c.requires c.put_row.ensures

pub put_token-x-requires : goal.put_token-x-requires
put_token-x-requires c =
    record { es = told _; kept-rows = _; kept_store = _; stage = c.loop-x.invariant; some_left = c.loop-x-test.true }

pub loop-x-smaller : goal.loop-x-smaller
loop-x-smaller c =
    let w = c.put_token-x.ensures in
    omega (arith, w.on, (w.stage _ _ _ c.loop-x.invariant).inside)

pub loop-x-preserved : goal.loop-x-preserved
loop-x-preserved c =
    c.put_token-x.ensures.stage _ _ _ c.loop-x.invariant

pub overflow_cast-result : goal.overflow_cast-result
overflow_cast-result c = let st = c.loop-x.invariant in omega (arith, size-now st, st.row_at)

pub shape_of-rows : goal.shape_of-rows
shape_of-rows c =
    rows-length c.loop-x.invariant ∙ ap length c.put_row.ensures ∙ length-sets c.args.rows.now 0 first_row

pub shape_of-store : goal.shape_of-store
shape_of-store c = store_length c.loop-x.invariant

pub returns : goal.returns
returns c =
    let a = c.args in
    stage-done a.text.now a.rows.now a.store.now _ c.requires c.put_row.ensures _ _ _ c.loop-x.invariant (omega (arith, c.loop-x-test.false))
