-- `stream::next` meets its contract: an answer before the list is the step's, and else list reading's outcome with a refusal counted from
-- the front of the stream.
use mathlib.Core.Path.{sym, ◌∙◌}
use native.Mathlib.Omega.{arith}
use Rattle.stream.proofs.Steps.{room, step-short, step_past, step_end, step-read, read-within}
use Rattle.stream.proofs.next.Goals as goal

pub returns-then-not-enough : goal.returns-then-not-enough
returns-then-not-enough c =
    let a = c.args in
    let r = room a.rows.now a.store.now ∙ c.if-not-enough.true in
    sym (step-short a.bytes.now a.offset a.rows.now a.store.now r)

pub returns-then-bytes-offset : goal.returns-then-bytes-offset
returns-then-bytes-offset c =
    let a = c.args in
    let r = room a.rows.now a.store.now ∙ c.if-not-enough.false in
    sym (step_past a.bytes.now a.offset a.rows.now a.store.now r c.if-bytes-offset.true)

pub returns-then-offset-bytes : goal.returns-then-offset-bytes
returns-then-offset-bytes c =
    let a = c.args in
    let r = room a.rows.now a.store.now ∙ c.if-not-enough.false in
    sym (step_end a.bytes.now a.offset a.rows.now a.store.now r c.if-offset-bytes.true)

pub overflow_add-result : goal.overflow_add-result
overflow_add-result c =
    let a = c.args in
    let r = room a.rows.now a.store.now ∙ c.if-not-enough.false in
    let w = read-within a.bytes.now a.offset a.rows.now a.store.now r (omega arith) _ _ _ c.in-Err.ensures in
    record { fits = omega arith }

pub returns-in-Ok : goal.returns-in-Ok
returns-in-Ok c =
    let a = c.args in
    let r = room a.rows.now a.store.now ∙ c.if-not-enough.false in
    step-read a.bytes.now a.offset a.rows.now a.store.now r (omega arith) _ _ _ c.in-Ok.ensures

pub returns-in-Err : goal.returns-in-Err
returns-in-Err c =
    let a = c.args in
    let r = room a.rows.now a.store.now ∙ c.if-not-enough.false in
    step-read a.bytes.now a.offset a.rows.now a.store.now r (omega arith) _ _ _ c.in-Err.ensures
