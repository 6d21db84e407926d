-- `text_decode::fill::put_element` meets its contract: one element more is counted, then a list is opened or a value is put.
use mathlib.Core.Path.{sym, ap, ◌∙◌}
use native.Mathlib.Omega.{arith}
use Prim.Native.Nat.{ℕ}
use lib.ListN.{length, get_or}
use Rattle.text_decode.proofs.Stages.{next-inside, stage-countable, open-room, stage-value, goes-opened, goes-valued}
use Rattle.text_decode.proofs.fill.put_element.Goals as goal

pub behind_space-at-requires : goal.behind_space-at-requires
behind_space-at-requires c = c.requires.ready.some_left

pub bump-requires : goal.bump-requires
bump-requires c =
    stage-countable c.requires.ready.stage c.requires.ready.some_left c.requires.other

pub bounds-text-at : goal.bounds-text-at
bounds-text-at c =
    let a = c.args in
    let st = c.requires.ready.stage in
    let left = c.requires.ready.some_left in
    rw c.behind_space-at.ensures (next-inside st left c.requires.other)

pub overflow_cast-x : goal.overflow_cast-x
overflow_cast-x c =
    let a = c.args in
    let st = c.requires.ready.stage in
    let left = c.requires.ready.some_left in
    let is = ap (λ (k : ℕ). get_or a.text.now k 0) (sym c.behind_space-at.ensures) ∙ c.if-text-at-eq40.true in
    omega (arith, (open-room st left c.requires.other is).1)

pub put_row-requires : goal.put_row-requires
put_row-requires c =
    let a = c.args in
    let st = c.requires.ready.stage in
    let left = c.requires.ready.some_left in
    let is = ap (λ (k : ℕ). get_or a.text.now k 0) (sym c.behind_space-at.ensures) ∙ c.if-text-at-eq40.true in
    rw c.bump.ensures (open-room st left c.requires.other is).0

pub overflow_add-result : goal.overflow_add-result
overflow_add-result c =
    let a = c.args in
    let st = c.requires.ready.stage in
    let left = c.requires.ready.some_left in
    omega (arith, c.behind_space-at.ensures, next-inside st left c.requires.other)

pub overflow_add-result-then-text-at-eq40 : goal.overflow_add-result-then-text-at-eq40
overflow_add-result-then-text-at-eq40 c =
    let a = c.args in
    let st = c.requires.ready.stage in
    let left = c.requires.ready.some_left in
    let is = ap (λ (k : ℕ). get_or a.text.now k 0) (sym c.behind_space-at.ensures) ∙ c.if-text-at-eq40.true in
    omega (arith, (open-room st left c.requires.other is).0, ap length c.bump.ensures)

pub returns-then-text-at-eq40 : goal.returns-then-text-at-eq40
returns-then-text-at-eq40 c =
    let a = c.args in
    let st = c.requires.ready.stage in
    let left = c.requires.ready.some_left in
    goes-opened a.text.now a.x a.rows.now a.store.now left c.requires.other c.requires.ready _ c.behind_space-at.ensures c.if-text-at-eq40.true _ _
    c.bump.ensures c.put_row.ensures

pub put_value-y-requires : goal.put_value-y-requires
put_value-y-requires c =
    let a = c.args in
    let st = c.requires.ready.stage in
    let left = c.requires.ready.some_left in
    rw (c.bump.ensures, c.behind_space-at.ensures) (stage-value st left c.requires.other (rw c.behind_space-at.ensures at c.if-text-at-eq40.false))

pub returns : goal.returns
returns c =
    let a = c.args in
    let st = c.requires.ready.stage in
    let left = c.requires.ready.some_left in
    goes-valued a.text.now a.x a.rows.now a.store.now left c.requires.other c.requires.ready _ c.behind_space-at.ensures c.if-text-at-eq40.false _ _ _ _
    c.bump.ensures c.put_value-y.ensures
