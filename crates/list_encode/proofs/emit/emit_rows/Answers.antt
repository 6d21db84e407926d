use Prim.Native.Nat.{ℕ, ◌+◌, ◌-◌, ◌<◌}
use mathlib.Core.Path.{◌≡◌, refl, ap, ◌∙◌}
use native.Mathlib.Omega.{arith}
use borrow.Author.Rules.{rules}
use Rattle.list.specs.RowBytes.{unpacked}
use Rattle.list_rows.specs.Row.{rows_in, rows_from}
use Rattle.list_rows.specs.Emit.{code_ahead, left_after}
use Rattle.list_rows.proofs.Rows.{part_length}
use Rattle.list_rows.proofs.Sizes.{size-turn}
use Rattle.list_encode.proofs.Emission.{turn_inside, emit-done, emit-turn}
use Rattle.list_encode.proofs.emit.emit_rows.Goals as goal

pub loop-i-init : goal.loop-i-init
loop-i-init c = (refl, search rules, search rules, refl)

pub overflow_add-used : goal.overflow_add-used
overflow_add-used c =
    let x = c.loop-i in
    let a = c.args in
    let t = turn_inside a.store.now (unpacked a.rows.now) _ x.i x.used _ _ c.loop-i-test.true
    c.row_count-count.ensures.0 c.row_at-row.ensures c.stored_by-size.ensures.0 x.invariant.2 in
    omega arith

pub slice_bounds-put_row-end : goal.slice_bounds-put_row-end
slice_bounds-put_row-end c =
    let x = c.loop-i in
    let a = c.args in
    let t = turn_inside a.store.now (unpacked a.rows.now) _ x.i x.used _ _ c.loop-i-test.true
    c.row_count-count.ensures.0 c.row_at-row.ensures c.stored_by-size.ensures.0 x.invariant.2 in
    omega arith

pub put_row-requires : goal.put_row-requires
put_row-requires c =
    let x = c.loop-i in
    let a = c.args in
    let rows = unpacked a.rows.now in
    let size = c.stored_by-size.result in
    let t = turn_inside a.store.now rows _ x.i x.used _ _ c.loop-i-test.true
    c.row_count-count.ensures.0 c.row_at-row.ensures c.stored_by-size.ensures.0 x.invariant.2 in
    let s = size-turn rows x.i (omega arith) _ c.row_at-row.ensures x.left in
    let e : x.used + size - x.used ≡ size = omega arith in
    (omega arith, omega arith, rw e (part_length a.store.now x.used size t.0 ∙ c.stored_by-size.ensures.0))

pub overflow_add-used-in-loop-i : goal.overflow_add-used-in-loop-i
overflow_add-used-in-loop-i c =
    let x = c.loop-i in
    let a = c.args in
    let t = turn_inside a.store.now (unpacked a.rows.now) _ x.i x.used _ _ c.loop-i-test.true
    c.row_count-count.ensures.0 c.row_at-row.ensures c.stored_by-size.ensures.0 x.invariant.2 in
    omega arith

pub loop-i-preserved : goal.loop-i-preserved
loop-i-preserved c =
    let code = c.code_ahead-code.ensures in
    let stored = c.stored_by-size in
    let x = c.loop-i in
    let a = c.args in
    let rows = unpacked a.rows.now in
    let r = c.row_at-row.result in
    let size = stored.result in
    let t = turn_inside a.store.now rows _ x.i x.used _ _ c.loop-i-test.true
    c.row_count-count.ensures.0 c.row_at-row.ensures stored.ensures.0 x.invariant.2 in
    let more : x.i < rows_in rows = omega arith in
    let s = size-turn rows x.i more r c.row_at-row.ensures x.left in
    let e : x.used + size - x.used ≡ size = omega arith in
    let l : c.left_after-left.result ≡ left_after x.left (code_ahead (rows_from rows (x.i + 1)) r) r =
    c.left_after-left.ensures ∙ ap (λ (z : ℕ). left_after x.left z r) code in (
      emit-turn _ a.store.now rows x.buffer x.i x.left x.used x.end x.invariant.0
          _ r _ _ _ size more c.row_at-row.ensures stored.ensures.0 t.0 code
          (rw e at c.put_row.ensures) c.row_size-end.ensures.0 c.left_after-left.ensures,
      rw l (omega arith),
      t.1,
      search rules,
    )

pub returns : goal.returns
returns c =
    let a = c.args in
    let x = c.loop-i in
    emit-done _ a.store.now (unpacked a.rows.now) x.buffer x.i x.left x.used x.end x.invariant.0 (omega arith)
