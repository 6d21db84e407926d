-- `list_rows::shape::row_fits` meets its contract: the kind that was found is that of the code.
use mathlib.Core.Path.{ap, ◌∙◌}
use borrow.Author.Tests.{eq-eqb, ne_eqb}
use Rattle.list_rows.specs.Shape.{found_fits, row_fits}
use Rattle.list_rows.proofs.Rows.{natural-is}
use Rattle.list_rows.proofs.shape.row_fits.Goals as goal

pub returns-then-row-eq-LIST_CODE : goal.returns-then-row-eq-LIST_CODE
unfolding row_fits
returns-then-row-eq-LIST_CODE c = rw (eq-eqb _ _ c.if-row-eq-LIST_CODE.true, natural-is c.args.row.second)

pub returns-in-Some : goal.returns-in-Some
unfolding row_fits
returns-in-Some c =
    let a = c.args in
    c.kind_fits.ensures
    ∙ rw (ne_eqb _ _ c.if-row-eq-LIST_CODE.false)
    (ap (found_fits a.store.now a.used a.row.second a.row.third)
    c.in-Some.ensures)

pub returns-in-None : goal.returns-in-None
unfolding row_fits
returns-in-None c =
    let a = c.args in
    rw (ne_eqb _ _ c.if-row-eq-LIST_CODE.false)
    (ap (found_fits a.store.now a.used a.row.second a.row.third)
    c.in-None.ensures)
