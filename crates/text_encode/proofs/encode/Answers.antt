-- `text_encode::encode` meets its contract: each return is a case of the definition.
use mathlib.Core.Path.{sym, ◌∙◌}
use native.Mathlib.Omega.{arith}
use borrow.Author.Rules.{rules}
use Rattle.std.proofs.lemmas.Result.{err_from_is_err_and}
use Rattle.wire.proofs.ByteLists.{all-bytes}
use Rattle.text_encode.proofs.Encoding.{answer-room, store-there, text-fits, answer-refused, answer-formless, answer-written}
use Rattle.text_encode.proofs.encode.Goals as goal

pub returns-then-area-lt-TEXT_ROOM : goal.returns-then-area-lt-TEXT_ROOM
returns-then-area-lt-TEXT_ROOM c =
    let a = c.args in
    answer-room a.rows.now a.store.now a.area.now c.if-area-lt-TEXT_ROOM.true

pub put_list-requires : goal.put_list-requires
put_list-requires c =
    let a = c.args in
    let h = c.in_ok-judge.ensures in
    let w = all-bytes a.rows.now (λ i. omega (arith, c.type_inv.rows i)) in
    let b = all-bytes a.store.now (λ i. omega (arith, c.type_inv.store i)) in
    let form = sym c.if-not-have_form.false ∙ c.have_form.ensures in (
      store-there a.rows.now a.store.now a.area.now _ h,
      record { fits = omega (arith, text-fits a.rows.now a.store.now a.area.now _ h w b form, c.if-area-lt-TEXT_ROOM.false) },
    )

pub returns : goal.returns
returns c =
    let a = c.args in
    let w = all-bytes a.rows.now (λ i. omega (arith, c.type_inv.rows i)) in
    let b = all-bytes a.store.now (λ i. omega (arith, c.type_inv.store i)) in
    let form = sym c.if-not-have_form.false ∙ c.have_form.ensures in
    answer-written a.rows.now a.store.now a.area.now c.if-area-lt-TEXT_ROOM.false _ c.in_ok-judge.ensures _ _ w b form
    (search rules) (omega (arith, c.put_list.ensures.end))

pub returns-then-not-have_form : goal.returns-then-not-have_form
returns-then-not-have_form c =
    let a = c.args in
    answer-formless a.rows.now a.store.now a.area.now c.if-area-lt-TEXT_ROOM.false _ c.in_ok-judge.ensures (sym c.if-not-have_form.true ∙ c.have_form.ensures)

pub returns-in_err-judge : goal.returns-in_err-judge
returns-in_err-judge c =
    let a = c.args in
    let p = err_from_is_err_and c.from_residual.result c.from_residual.ensures.1 in
    rw (p.1, p.2) (answer-refused a.rows.now a.store.now a.area.now c.if-area-lt-TEXT_ROOM.false _ c.in_err-judge.ensures)
