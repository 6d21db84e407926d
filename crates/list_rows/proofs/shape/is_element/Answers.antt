use Prim.Native.Nat.{◌%◌}
use mathlib.Core.Path.{◌≡◌, refl, sym, ◌∙◌}
use native.Mathlib.Omega.{arith}
use lib.ListN.{length}
use borrow.Author.Rules.{rules}
use borrow.Author.Tests.{eqb-true}
use Rattle.list.specs.RowBytes.{unpacked}
use Rattle.list.proofs.RowBytes.{unpacked-length}
use Rattle.list_rows.specs.Described.{row_width}
use Rattle.list_rows.proofs.Shapes.{fits-inside, turn-over, turn-few, turn_end, turn-stop, turn-goes}
use Rattle.list_rows.proofs.shape.is_element.Goals as goal

pub loop-i-init : goal.loop-i-init
loop-i-init c = (refl, search rules)

pub returns-then-want-eq0 : goal.returns-then-want-eq0
returns-then-want-eq0 c =
    let a = c.args in
    let x = c.loop-i in
    turn-over _ a.store.now (unpacked a.rows.now) x.i x.want x.used x.invariant.0 (omega arith) c.if-want-eq0.true

pub returns-then-count-i : goal.returns-then-count-i
returns-then-count-i c =
    let a = c.args in
    let x = c.loop-i in
    turn-few _ a.store.now (unpacked a.rows.now) x.i x.want x.used x.invariant.0 (omega arith)

pub overflow_add-used : goal.overflow_add-used
overflow_add-used c =
    let fits = sym c.row_fits.ensures ∙ c.if-not-row_fits.false in
    let inside = fits-inside _ _ _ c.loop-i.invariant.1 fits in
    omega arith

pub loop-i-preserved : goal.loop-i-preserved
loop-i-preserved c =
    let a = c.args in
    let x = c.loop-i in
    let inside = fits-inside _ _ _ x.invariant.1 (sym c.row_fits.ensures ∙ c.if-not-row_fits.false) in (
      turn-goes _ a.store.now (unpacked a.rows.now) x.i x.want x.used x.invariant.0
          (omega arith) (omega arith) _ c.row_at-row.ensures _ c.row_fits.ensures
          _ _ c.if-not-row_fits.false c.gained_by.ensures.0 c.stored_by-used.ensures.0,
      rw c.stored_by-used.ensures.0 inside,
    )

pub returns-then-not-row_fits : goal.returns-then-not-row_fits
returns-then-not-row_fits c =
    let a = c.args in
    let x = c.loop-i in
    turn-stop _ a.store.now (unpacked a.rows.now) x.i x.want x.used x.invariant.0
    (omega arith) (omega arith)
    _ c.row_at-row.ensures _ c.row_fits.ensures c.if-not-row_fits.true

pub returns : goal.returns
returns c =
    let a = c.args in
    let x = c.loop-i in
    let whole : length a.rows.now % row_width ≡ 0 = eqb-true _ _ c.requires in
    turn_end _ a.store.now (unpacked a.rows.now) x.i x.want x.used x.invariant.0
    (omega (arith, c.loop-i-test.false, c.row_count-count.ensures.0, unpacked-length a.rows.now))
