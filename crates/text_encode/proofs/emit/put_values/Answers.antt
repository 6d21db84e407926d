use Prim.Native.Nat.{ℕ, ◌*◌, ◌<◌}
use mathlib.Core.Path.{◌≡◌, refl, sym, ◌∙◌}
use mathlib.Core.Bool.{Bool, true}
use mathlib.Core.List.{List}
use native.Mathlib.Omega.{arith}
use Rattle.list.specs.Kind.{list_code}
use Rattle.list.specs.declared.Row.{Row}
use Rattle.list.specs.RowBytes.{unpacked, row_at}
use Rattle.list.proofs.RowBytes.{unpacked-length}
use Rattle.list_rows.specs.Row.{rows_in}
use Rattle.text_encode.specs.Spell.{value_next}
use Rattle.text_encode.proofs.Turns.{next-is, part-size, behind-row, value_room, gap-room, value-goes}
use Rattle.text_encode.proofs.emit.put_values.Goals as goal

-- the row that was read is that of a value which is next
value-at :
    (rows : List ℕ) (at left : ℕ) (b : Bool) (r : Row) → b ≡ value_next rows at left → b ≡ true → r ≡ row_at rows (3 * at)
    → (0 < left) × (at < rows_in rows) × (r.code ≡ list_code → ⊥)
value-at rows at left b r e h f =
    let n = next-is rows at left (sym e ∙ h) in
    (n.0, n.1, n.2 r f)

pub loop-row-init : goal.loop-row-init
loop-row-init c = (λ whole size outer g. g, omega arith, refl)

pub overflow_add-x : goal.overflow_add-x
overflow_add-x c =
    let n = value-at (unpacked c.args.rows.now) c.loop-row.x.row c.loop-row.x.left _ _ c.is_value_next.ensures c.loop-row-test.true c.row_at-row.ensures in
    omega (arith, n.1, unpacked-length c.args.rows.now)

pub overflow_sub-x : goal.overflow_sub-x
overflow_sub-x c =
    let n = value-at (unpacked c.args.rows.now) c.loop-row.x.row c.loop-row.x.left _ _ c.is_value_next.ensures c.loop-row-test.true c.row_at-row.ensures in
    omega (arith, n.0)

-- the store has the bytes of the row
pub overflow_add-end : goal.overflow_add-end
overflow_add-end c =
    let n = value-at (unpacked c.args.rows.now) c.loop-row.x.row c.loop-row.x.left _ _ c.is_value_next.ensures c.loop-row-test.true c.row_at-row.ensures in
    let p = c.requires in
    let g = c.loop-row.invariant.0 p.0 p.1 p.2 p.3 in
    omega (arith, behind-row g n.0 n.1 _ c.row_at-row.ensures, c.stored_by.ensures.0)

pub slice_bounds-put_value-end : goal.slice_bounds-put_value-end
slice_bounds-put_value-end c =
    let n = value-at (unpacked c.args.rows.now) c.loop-row.x.row c.loop-row.x.left _ _ c.is_value_next.ensures c.loop-row-test.true c.row_at-row.ensures in
    let p = c.requires in
    let g = c.loop-row.invariant.0 p.0 p.1 p.2 p.3 in
    omega (arith, behind-row g n.0 n.1 _ c.row_at-row.ensures, c.stored_by.ensures.0)

pub put_value-requires : goal.put_value-requires
put_value-requires c =
    let n = value-at (unpacked c.args.rows.now) c.loop-row.x.row c.loop-row.x.left _ _ c.is_value_next.ensures c.loop-row-test.true c.row_at-row.ensures in
    let p = c.requires in
    let g = c.loop-row.invariant.0 p.0 p.1 p.2 p.3 in
    let s = c.stored_by in
    let v = value_room g n.0 n.1 _ c.row_at-row.ensures n.2 _ s.ensures.0 in
    record { fits = rw (part-size c.loop-row.x.used s.result) (omega arith) }

pub put_gap-requires : goal.put_gap-requires
put_gap-requires c =
    let n = value-at (unpacked c.args.rows.now) c.loop-row.x.row c.loop-row.x.left _ _ c.is_value_next.ensures c.loop-row-test.true c.row_at-row.ensures in
    let p = c.requires in
    let g = c.loop-row.invariant.0 p.0 p.1 p.2 p.3 in
    let s = c.stored_by in
    record {
      fits = gap-room g n.0 n.1 _ c.row_at-row.ensures n.2 _ s.ensures.0 _ _ _ (part-size c.loop-row.x.used s.result)
          c.put_value.ensures.text c.put_value.ensures.end;
    }

pub loop-row-smaller : goal.loop-row-smaller
loop-row-smaller c =
    let n = value-at (unpacked c.args.rows.now) c.loop-row.x.row c.loop-row.x.left _ _ c.is_value_next.ensures c.loop-row-test.true c.row_at-row.ensures in
    omega (arith, n.0)

pub loop-row-preserved : goal.loop-row-preserved
loop-row-preserved c =
    let n = value-at (unpacked c.args.rows.now) c.loop-row.x.row c.loop-row.x.left _ _ c.is_value_next.ensures c.loop-row-test.true c.row_at-row.ensures in
    let s = c.stored_by in (
      λ whole size outer first.
          value-goes (c.loop-row.invariant.0 whole size outer first) n.0 n.1 _ c.row_at-row.ensures n.2 _ s.ensures.0 _ _ _
          (part-size c.loop-row.x.used s.result) c.put_value.ensures.text c.put_value.ensures.end _ _ c.put_gap.ensures.text c.put_gap.ensures.end,
      omega (arith, c.loop-row.invariant.1),
      c.put_gap.ensures.same_area ∙ c.put_value.ensures.same_area ∙ c.loop-row.invariant.2,
    )

pub returns : goal.returns
returns c =
    let i = c.loop-row.invariant in
    record {
      same_area = i.2;
      goes_on = i.0;
      stopped = record { onward = i.1; no_value = sym c.is_value_next.ensures ∙ c.loop-row-test.false };
    }
