-- `text_encode::emit::is_value_next` meets its contract: each test is the definition's.
use native.Mathlib.Omega.{arith}
use borrow.Author.Tests.{le-ltb, lt-ltb}
use Rattle.list.specs.RowBytes.{unpacked}
use Rattle.list_rows.specs.Row.{rows_in}
use Rattle.text_encode.specs.Spell.{value_next}
use Rattle.text_encode.proofs.emit.is_value_next.Goals as goal

pub returns-then-left-eq0 : goal.returns-then-left-eq0
unfolding value_next
returns-then-left-eq0 c = rw c.if-left-eq0.true

pub returns-then-row_count-at : goal.returns-then-row_count-at
unfolding value_next
returns-then-row_count-at c =
    let a = c.args in
    let count = rows_in (unpacked a.rows.now) in
    rw (lt-ltb 0 a.left (omega (arith, c.if-left-eq0.false)), le-ltb a.at count (omega (arith, c.if-row_count-at.true)))

pub returns : goal.returns
unfolding value_next
returns c =
    let a = c.args in
    let count = rows_in (unpacked a.rows.now) in
    rw (lt-ltb 0 a.left (omega (arith, c.if-left-eq0.false)), lt-ltb a.at count (omega (arith, c.if-row_count-at.false)), c.row_at-row.ensures)
