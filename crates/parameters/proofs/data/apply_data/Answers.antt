-- `parameters::apply_data` meets its contract: the socket's row is changed in place.
use mathlib.Core.Path.{sym, ◌∙◌}
use native.Mathlib.Omega.{arith}
use Rattle.parameters.proofs.Rows.{place-within, part-changed}
use Rattle.parameters.proofs.data.apply_data.Goals as goal

pub overflow_mul-at : goal.overflow_mul-at
overflow_mul-at c =
    let a = c.args in
    let place = c.in_ok-i.ensures in
    omega (arith, place-within a.slots a.t.now a.socket _ (sym c.find_slot.ensures ∙ place.ok_part))

pub overflow_add-at : goal.overflow_add-at
overflow_add-at c =
    let a = c.args in
    let place = c.in_ok-i.ensures in
    omega (arith, place-within a.slots a.t.now a.socket _ (sym c.find_slot.ensures ∙ place.ok_part))

pub slice_bounds-change_row-end : goal.slice_bounds-change_row-end
slice_bounds-change_row-end c =
    let a = c.args in
    let place = c.in_ok-i.ensures in
    place-within a.slots a.t.now a.socket _ (sym c.find_slot.ensures ∙ place.ok_part)

pub returns : goal.returns
returns c =
    let a = c.args in
    let place = c.in_ok-i.ensures in
    part-changed a.t.now c.in_ok-i.i a.slots a.c.now a.payload.now a.socket _ (sym c.find_slot.ensures ∙ place.ok_part)
    c.change_row.ensures
