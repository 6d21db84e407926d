-- `text_encode::form::have_form` meets its contract. The invariant: the answer for all rows is that for the rows from row i on.
use mathlib.Core.Path.{◌≡◌}
use Rattle.list.specs.RowBytes.{unpacked}
use Rattle.list_rows.specs.Row.{rows_from}
use Rattle.text_encode.specs.Spell.{rows_form}
use Rattle.text_encode.proofs.form.have_form.Given as goal

abbrev pub invariant-loop-i : goal.invariant-loop-i
invariant-loop-i l = rows_form (unpacked l.rows) ≡ rows_form (rows_from (unpacked l.rows) l.i)
