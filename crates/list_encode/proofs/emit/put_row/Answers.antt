-- `list_encode::emit::put_row` meets its contract: each test is the definition's.
use mathlib.Core.List.{◌++◌}
use native.Mathlib.Omega.{arith}
use borrow.Author.Tests.{eq-eqb, ne_eqb}
use Rattle.wire.proofs.Buffers.{put_is}
use Rattle.list.specs.Bytes.{number}
use Rattle.list_rows.specs.Emit.{row_bytes, row_size}
use Rattle.list_encode.proofs.emit.put_row.Goals as goal

pub returns-then-row-eq-LIST_CODE : goal.returns-then-row-eq-LIST_CODE
unfolding row_bytes row_size
returns-then-row-eq-LIST_CODE c =
    let a = c.args in
    rw (eq-eqb _ _ c.if-row-eq-LIST_CODE.true) (put_is a.buffer.now a.at (number a.code ++ number a.row.second) c.put_two_u32.ensures
    (omega (arith, rw (eq-eqb _ _ c.if-row-eq-LIST_CODE.true) at c.requires.0, c.requires.1)))

pub put_coded-requires : goal.put_coded-requires
unfolding row_size
put_coded-requires c =
    let p = c.requires in
    (rw (ne_eqb _ _ c.if-row-eq-LIST_CODE.false, eq-eqb _ _ c.if-left-eq0.true) at p.0, p.1, p.2)

pub returns-then-left-eq0 : goal.returns-then-left-eq0
unfolding row_bytes
returns-then-left-eq0 c =
    rw (ne_eqb _ _ c.if-row-eq-LIST_CODE.false, eq-eqb _ _ c.if-left-eq0.true) c.put_coded.ensures

pub put_value-requires : goal.put_value-requires
unfolding row_size
put_value-requires c =
    let p = c.requires in
    (omega (arith, rw (ne_eqb _ _ c.if-row-eq-LIST_CODE.false, ne_eqb _ _ c.if-left-eq0.false) at p.0), p.1, p.2)

pub returns : goal.returns
unfolding row_bytes
returns c =
    rw (ne_eqb _ _ c.if-row-eq-LIST_CODE.false, ne_eqb _ _ c.if-left-eq0.false) c.put_value.ensures
