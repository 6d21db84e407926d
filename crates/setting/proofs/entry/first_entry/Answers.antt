use Prim.Native.Nat.{◌+◌, ◌-◌}
use mathlib.Core.Path.{◌≡◌, sym, ◌∙◌}
use native.Mathlib.Omega.{arith}
use Rattle.wire.proofs.ByteLists.{all-bytes}
use Rattle.setting.proofs.Search.{some-candidates, all_left, none_left, turn-here, turn-found, turn-next}
use Rattle.setting.proofs.entry.first_entry.Goals as goal

pub loop-done-init : goal.loop-done-init
loop-done-init c =
    let a = c.args in
    let p = c.requires in
    let all = all-bytes a.s.now (λ i. omega (arith, c.type_inv.s i)) in
    let m = some-candidates a.s.now a.n p.1 p.2 in
    let every : a.n - 0 ≡ a.n = omega arith in
    rw every (all_left a.s.now a.key.now p.0 all m.0 a.n m.1)

pub returns-in-Found : goal.returns-in-Found
returns-in-Found c =
    let l = c.loop-done in
    let f = sym c.element_turn.ensures ∙ c.in-Found.is in
    turn-found _ _ _ _ l.invariant (omega arith) _ _ f

pub loop-done-preserved : goal.loop-done-preserved
loop-done-preserved c =
    let l = c.loop-done in
    let next : c.args.n - (l.done + 1) ≡ c.args.n - l.done - 1 = omega arith in
    rw next (turn-next _ _ _ _ l.invariant (omega arith) _ (sym c.element_turn.ensures ∙ c.in-Next.is))

pub element_turn-requires : goal.element_turn-requires
element_turn-requires c = turn-here _ _ _ _ c.loop-done.invariant (omega arith)

pub returns : goal.returns
returns c = none_left _ _ _ _ c.loop-done.invariant (omega arith)
