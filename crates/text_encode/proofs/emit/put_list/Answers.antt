use Prim.Native.Nat.{◌-◌, ◌<◌}
use mathlib.Core.Path.{refl, ap, ◌∙◌}
use native.Mathlib.Omega.{arith}
use native.Mathlib.Numerals.{add-one}
use lib.ListN.{length, length-set}
use Rattle.list.specs.RowBytes.{unpacked}
use Rattle.list_rows.specs.Row.{rows_in}
use Rattle.list_rows.proofs.Nestings.{stack_of, stack-length, stack_push, stack-pop}
use Rattle.text_encode.specs.Spell.{Place}
use Rattle.text_encode.proofs.Turns.{next-none, started, all-ended, close-room, close-goes, rows-ended, full-ended, open-room, open-goes}
use Rattle.text_encode.proofs.emit.put_list.Goals as goal

pub loop-outer-init : goal.loop-outer-init
loop-outer-init c = (
  started (unpacked c.args.rows.now) c.args.store.now c.args.out.now.text.now c.args.out.now.end _ c.row_at-first.ensures
      c.requires.0 c.requires.1.fits,
  omega arith,
  refl,
  refl,
)

pub put_values-y-requires : goal.put_values-y-requires
put_values-y-requires c = (_, _, _, c.loop-outer.invariant.0)

pub returns-then-level-eq0 : goal.returns-then-level-eq0
returns-then-level-eq0 c =
    let l = c.loop-outer in
    let w = all-ended (c.put_values-y.ensures.goes_on _ _ _ l.invariant.0) c.if-y-eq0.true (ap (stack_of l.outer) c.if-level-eq0.true) in
    record { same_area = c.put_values-y.ensures.same_area ∙ l.invariant.3; text = w.0; end = w.1 }

pub close_list-x-requires : goal.close_list-x-requires
close_list-x-requires c =
    let l = c.loop-outer in
    record {
      fits = close-room (c.put_values-y.ensures.goes_on _ _ _ l.invariant.0) c.if-y-eq0.true _ _
          (stack-pop l.outer l.level (omega (arith, c.if-level-eq0.false)));
    }

pub loop-outer-smaller-then-y-eq0 : goal.loop-outer-smaller-then-y-eq0
loop-outer-smaller-then-y-eq0 c =
    omega (arith, c.if-level-eq0.false, c.put_values-y.ensures.stopped.onward, ap (λ (z : Place). z.row) c.close_list-x.ensures.to)

pub loop-outer-preserved-then-y-eq0 : goal.loop-outer-preserved-then-y-eq0
loop-outer-preserved-then-y-eq0 c =
    let l = c.loop-outer in
    let w = c.close_list-x.ensures in (
      close-goes (c.put_values-y.ensures.goes_on _ _ _ l.invariant.0) c.if-y-eq0.true _ _ (stack-pop l.outer l.level (omega (arith, c.if-level-eq0.false)))
          _ _ w.written.text w.to,
      omega arith,
      l.invariant.2,
      w.written.same_area ∙ c.put_values-y.ensures.same_area ∙ l.invariant.3,
    )

pub returns-then-count-y : goal.returns-then-count-y
returns-then-count-y c =
    let l = c.loop-outer in
    let w = rows-ended (c.put_values-y.ensures.goes_on _ _ _ l.invariant.0) (omega (arith, c.if-y-eq0.false)) (omega arith) in
    record { same_area = c.put_values-y.ensures.same_area ∙ l.invariant.3; text = w.0; end = w.1 }

pub returns-then-level : goal.returns-then-level
returns-then-level c =
    let l = c.loop-outer in
    let y = c.put_values-y.result in
    let more : 0 < y.left = omega (arith, c.if-y-eq0.false) in
    let long : y.row < rows_in (unpacked c.args.rows.now) = omega (arith, c.row_count-count.ensures.0, c.if-count-y.false) in
    let w = full-ended (c.put_values-y.ensures.goes_on _ _ _ l.invariant.0) more long _ refl
    (next-none _ _ _ c.put_values-y.ensures.stopped.no_value more long) (omega (arith, stack-length l.outer l.level, c.if-level.true)) in
    record { same_area = c.put_values-y.ensures.same_area ∙ l.invariant.3; text = w.0; end = w.1 }

pub open_list-x-requires : goal.open_list-x-requires
open_list-x-requires c =
    let l = c.loop-outer in
    let y = c.put_values-y.result in
    let more : 0 < y.left = omega (arith, c.if-y-eq0.false) in
    let long : y.row < rows_in (unpacked c.args.rows.now) = omega (arith, c.row_count-count.ensures.0, c.if-count-y.false) in (
      long,
      record {
        fits = omega (
          arith,
          open-room (c.put_values-y.ensures.goes_on _ _ _ l.invariant.0) more long _ refl
              (next-none _ _ _ c.put_values-y.ensures.stopped.no_value more long) (omega (arith, stack-length l.outer l.level, l.invariant.1, c.if-level.false)),
        );
      },
    )

pub loop-outer-smaller : goal.loop-outer-smaller
loop-outer-smaller c = omega (arith, c.row_count-count.ensures.0, c.if-count-y.false, c.put_values-y.ensures.stopped.onward, ap (λ (z : Place). z.row) c.open_list-x.ensures.to)

pub loop-outer-preserved : goal.loop-outer-preserved
loop-outer-preserved c =
    let l = c.loop-outer in
    let y = c.put_values-y.result in
    let more : 0 < y.left = omega (arith, c.if-y-eq0.false) in
    let long : y.row < rows_in (unpacked c.args.rows.now) = omega (arith, c.row_count-count.ensures.0, c.if-count-y.false) in
    let shallow : l.level < length l.outer = omega (arith, l.invariant.1, l.invariant.2, c.if-level.false) in
    let w = c.open_list-x.ensures in (
      rw (add-one l.level, stack_push l.outer l.level (y.left - 1) shallow)
          (open-goes (c.put_values-y.ensures.goes_on _ _ _ l.invariant.0) more long _ refl (next-none _ _ _ c.put_values-y.ensures.stopped.no_value more long)
          (omega (arith, stack-length l.outer l.level)) _ _ w.written.text w.to),
      omega (arith, l.invariant.1, c.if-level.false),
      length-set l.outer l.level _ ∙ l.invariant.2,
      w.written.same_area ∙ c.put_values-y.ensures.same_area ∙ l.invariant.3,
    )
