-- `setting::entry::entry_turn` meets its contract: both lengths are read, and the key's bytes compared.
use Prim.Native.Nat.{◌+◌, ◌-◌}
use mathlib.Core.Path.{◌≡◌, ap, ◌∙◌}
use native.Mathlib.Omega.{arith}
use Rattle.list.specs.Parse.{word}
use Rattle.setting.specs.Steps.{second_at}
use Rattle.setting.proofs.Turns.{part-word, turn-found, turn-next}
use Rattle.setting.proofs.entry.entry_turn.Goals as goal

-- the value's length is there
pub slice_bounds-u32_at-end-2 : goal.slice_bounds-u32_at-end-2
slice_bounds-u32_at-end-2 c =
    let a = c.args in
    omega (arith, c.requires.inside, c.u32_at.ensures ∙ part-word a.s.now (a.at + 8))

-- the key's length counts its closing zero, and its bytes are there
pub slice_bounds-is_same-count : goal.slice_bounds-is_same-count
slice_bounds-is_same-count c =
    let a = c.args in
    omega (arith, c.requires.key, c.u32_at.ensures ∙ part-word a.s.now (a.at + 8))

pub slice_bounds-is_same-start : goal.slice_bounds-is_same-start
slice_bounds-is_same-start c =
    let a = c.args in
    omega (arith, c.requires.key, c.u32_at.ensures ∙ part-word a.s.now (a.at + 8))

pub slice_bounds-is_same-end : goal.slice_bounds-is_same-end
slice_bounds-is_same-end c =
    let a = c.args in
    omega (arith, c.requires.inside, c.u32_at.ensures ∙ part-word a.s.now (a.at + 8))

-- the value's length counts its closing zero
pub overflow_sub-result : goal.overflow_sub-result
overflow_sub-result c =
    let a = c.args in
    let s = a.s.now in
    let second = a.at + 8 + 4 + c.u32_at.result in
    let e : second_at s a.at ≡ second = omega (arith, c.u32_at.ensures ∙ part-word s (a.at + 8)) in
    omega (arith, c.requires.setting, c.u32_at-length.ensures ∙ part-word s second, ap (word s) e)

pub returns-then-is_same : goal.returns-then-is_same
returns-then-is_same c =
    let a = c.args in
    let s = a.s.now in
    let first = a.at + 8 + 4 in
    let second = first + c.u32_at.result in
    let n = c.u32_at.ensures ∙ part-word s (a.at + 8) in
    turn-found s a.key.now a.at first second (second - 1 - first) _ _ (omega arith) (omega (arith, n)) (omega (arith, n))
    (c.u32_at-length.ensures ∙ part-word s second) c.is_same.ensures c.if-is_same.true

pub returns : goal.returns
returns c =
    let a = c.args in
    let s = a.s.now in
    let first = a.at + 8 + 4 in
    let second = first + c.u32_at.result in
    let n = c.u32_at.ensures ∙ part-word s (a.at + 8) in
    turn-next s a.key.now a.at first second (second - 1 - first) _ _ (omega arith) (omega (arith, n)) (omega (arith, n))
    (c.u32_at-length.ensures ∙ part-word s second) c.is_same.ensures c.if-is_same.false
