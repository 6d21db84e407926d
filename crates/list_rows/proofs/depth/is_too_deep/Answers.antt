use mathlib.Core.Path.{refl, ◌∙◌}
use lib.ListN.{length-set}
use native.Mathlib.Omega.{arith}
use Rattle.list.specs.RowBytes.{unpacked}
use Rattle.list_rows.specs.Nesting.{too_deep}
use Rattle.list_rows.proofs.Deepening.{turn-short, turn-over, turn-close, turn-deep, turn-list, turn-value}
use Rattle.list_rows.proofs.depth.is_too_deep.Goals as goal

pub loop-i-init : goal.loop-i-init
unfolding too_deep
loop-i-init c = (rw (c.wide-left.ensures.0, c.row_at-front.ensures), omega arith, refl)

pub returns-then-level-eq0 : goal.returns-then-level-eq0
returns-then-level-eq0 c =
    let x = c.loop-i in
    turn-over _ (unpacked c.args.rows.now) x.i x.outer x.level x.left x.invariant.0 c.if-left-eq0.true c.if-level-eq0.true

pub loop-i-preserved-then-left-eq0 : goal.loop-i-preserved-then-left-eq0
loop-i-preserved-then-left-eq0 c =
    let x = c.loop-i in (
      turn-close _ (unpacked c.args.rows.now) x.i x.outer x.level x.left x.invariant.0 c.if-left-eq0.true c.if-level-eq0.false,
      omega arith,
      x.invariant.2,
    )

pub returns-then-level : goal.returns-then-level
returns-then-level c =
    let x = c.loop-i in
    turn-deep _ (unpacked c.args.rows.now) x.i x.outer x.level x.left x.invariant.0
    c.if-left-eq0.false (omega arith) _ c.row_at-row.ensures c.if-row-eq-LIST_CODE.true (omega (arith, c.if-level.true))

pub loop-i-preserved-then-row-eq-LIST_CODE : goal.loop-i-preserved-then-row-eq-LIST_CODE
loop-i-preserved-then-row-eq-LIST_CODE c =
    let x = c.loop-i in (
      turn-list _ (unpacked c.args.rows.now) x.i x.outer x.level x.left x.invariant.0
          c.if-left-eq0.false (omega arith) _ c.row_at-row.ensures c.if-row-eq-LIST_CODE.true (omega arith) (omega arith) _ c.wide-left-then-row-eq-LIST_CODE.ensures.0,
      omega arith,
      length-set x.outer x.level _ ∙ x.invariant.2,
    )

pub loop-i-preserved : goal.loop-i-preserved
loop-i-preserved c =
    let x = c.loop-i in (
      turn-value _ (unpacked c.args.rows.now) x.i x.outer x.level x.left x.invariant.0
          c.if-left-eq0.false (omega arith) _ c.row_at-row.ensures c.if-row-eq-LIST_CODE.false,
      x.invariant.1,
      x.invariant.2,
    )

pub returns : goal.returns
returns c =
    let x = c.loop-i in
    turn-short _ (unpacked c.args.rows.now) x.i x.outer x.level x.left x.invariant.0 (omega arith)
