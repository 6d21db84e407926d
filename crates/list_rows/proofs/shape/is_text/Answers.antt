-- `list_rows::shape::is_text` meets its contract: the bytes are looked through only where they are in the store.
use Prim.Native.Nat.{◌+◌, ◌-◌}
use mathlib.Core.Path.{◌≡◌, sym, ◌∙◌}
use native.Mathlib.Omega.{arith}
use Rattle.list_rows.specs.Shape.{textual}
use Rattle.list_rows.specs.Described.{part}
use Rattle.list_rows.proofs.Rows.{closed_is}
use Rattle.list_rows.proofs.Shapes.{placed-inside}
use Rattle.list_rows.proofs.shape.is_text.Goals as goal

pub overflow_add-used : goal.overflow_add-used
overflow_add-used c =
    let inside = placed-inside _ _ _ _ c.requires (sym c.is_placed.ensures ∙ c.if-is_placed.true) in
    omega (arith, c.wide.ensures.0, inside)

pub slice_bounds-has_zero-end : goal.slice_bounds-has_zero-end
slice_bounds-has_zero-end c =
    let inside = placed-inside _ _ _ _ c.requires (sym c.is_placed.ensures ∙ c.if-is_placed.true) in
    omega (arith, c.wide.ensures.0, inside)

pub returns-then-is_placed : goal.returns-then-is_placed
unfolding textual
returns-then-is_placed c =
    let a = c.args in
    let e : a.used + c.wide.result - a.used ≡ a.size = omega arith in
    rw (c.has_zero.ensures, ← c.is_placed.ensures, c.if-is_placed.true, e) (sym (closed_is (part a.store.now a.used a.size)))

pub returns : goal.returns
unfolding textual
returns c = rw (← c.is_placed.ensures, c.if-is_placed.false)
