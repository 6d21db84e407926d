-- `list_encode::encode` meets its contract: each return is a case of the definition.
use native.Mathlib.Omega.{arith}
use Rattle.std.proofs.lemmas.Result.{err_from_is_err_and}
use Rattle.list_rows.proofs.Judging.{to_write_lem}
use Rattle.list_encode.proofs.Encoding.{answer-room, answer-refused, answer-written}
use Rattle.list_encode.proofs.encode.Goals as goal

pub returns-then-buffer-lt-LIST_LIMIT : goal.returns-then-buffer-lt-LIST_LIMIT
returns-then-buffer-lt-LIST_LIMIT c =
    answer-room c.args.rows.now c.args.store.now c.args.buffer.now c.if-buffer-lt-LIST_LIMIT.true

pub emit_rows-requires : goal.emit_rows-requires
emit_rows-requires c =
    let a = c.args in
    let x = to_write_lem a.rows.now a.store.now _ c.in_ok-n.ensures in
    (omega arith, omega arith, c.if-buffer-lt-LIST_LIMIT.false)

pub returns : goal.returns
returns c =
    let a = c.args in
    answer-written a.rows.now a.store.now a.buffer.now c.if-buffer-lt-LIST_LIMIT.false _ _ c.in_ok-n.ensures c.emit_rows.ensures

pub returns-in_err-n : goal.returns-in_err-n
returns-in_err-n c =
    let a = c.args in
    let p = err_from_is_err_and c.from_residual.result c.from_residual.ensures.1 in
    rw (p.1, p.2) (answer-refused a.rows.now a.store.now a.buffer.now c.if-buffer-lt-LIST_LIMIT.false _ c.in_err-n.ensures)
