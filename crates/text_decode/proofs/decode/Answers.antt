-- `text_decode::decode` meets its contract: 20, then what judging says, then the list is filled in.
use mathlib.Core.Path.{sym, ap, ◌∙◌}
use Rattle.std.proofs.lemmas.Result.{err_from_is_err_and}
use Rattle.list_decode.proofs.Answers.{few-rows, small-store, enough}
use Rattle.text_check.specs.Check.{to_read}
use Rattle.text_decode.specs.Decode.{answered}
use Rattle.text_decode.proofs.Answers.{decoding-short, decoding-read, error-refused}
use Rattle.text_decode.proofs.decode.Goals as goal

pub returns-then-rows-lt-ROW_BYTES : goal.returns-then-rows-lt-ROW_BYTES
returns-then-rows-lt-ROW_BYTES c =
    let a = c.args in
    sym (decoding-short a.text.now a.rows.now a.store.now (few-rows a.rows.now a.store.now c.if-rows-lt-ROW_BYTES.true))

pub returns-then-store-lt-STORE_ROOM : goal.returns-then-store-lt-STORE_ROOM
returns-then-store-lt-STORE_ROOM c =
    let a = c.args in
    sym (decoding-short a.text.now a.rows.now a.store.now (small-store a.rows.now a.store.now c.if-store-lt-STORE_ROOM.true))

pub returns-in_err-judge : goal.returns-in_err-judge
returns-in_err-judge c =
    let a = c.args in
    let p = err_from_is_err_and c.from_residual.result c.from_residual.ensures.1 in
    let room = enough a.rows.now a.store.now c.if-rows-lt-ROW_BYTES.false c.if-store-lt-STORE_ROOM.false in
    let is = error-refused (to_read a.text.now) _ c.in_err-judge.ensures in
    rw (p.1, p.2) (sym (decoding-read a.text.now a.rows.now a.store.now room ∙ ap (answered a.rows.now a.store.now) is))

pub returns : goal.returns
returns c =
    let a = c.args in
    let room = enough a.rows.now a.store.now c.if-rows-lt-ROW_BYTES.false c.if-store-lt-STORE_ROOM.false in
    c.fill.ensures ∙ sym (decoding-read a.text.now a.rows.now a.store.now room)
