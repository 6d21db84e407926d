-- `list_check::tail_fault` meets its contract.
use mathlib.Core.Path.{sym, ◌∙◌}
use native.Mathlib.Omega.{arith}
use Rattle.list.specs.Parse.{coded_at}
use Rattle.list_check.proofs.Told.{may-enclose, told_in, item-missing}
use Rattle.list_check.proofs.Typed.{size_small}
use Rattle.list_check.proofs.Mixed.{coded-missing, coded-unknown, coded-list, shallow, short}
use Rattle.list_check.proofs.tail_fault.Goals as goal

pub returns-then-s-pos : goal.returns-then-s-pos
unfolding coded_at
returns-then-s-pos c = rw (item-missing c.args.s.now c.args.pos 4 _ c.if-s-pos.true) c.missing.ensures

pub returns-then-depth-eq0 : goal.returns-then-depth-eq0
returns-then-depth-eq0 c =
    let a = c.args in
    let l = sym c.is_list_code.ensures ∙ c.if-is_list_code.true in
    let p = c.requires in
    let e = shallow _ _ _ _ c.if-depth-eq0.true in
    rw (coded-list _ a.s.now a.pos _ p.2 c.if-s-pos.false c.u32_at-code.ensures _ l e) c.refuse.ensures

pub returns-then-is_list_code : goal.returns-then-is_list_code
returns-then-is_list_code c =
    let a = c.args in
    let p = c.requires in
    let l = sym c.is_list_code.ensures ∙ c.if-is_list_code.true in
    let e = short _ _ _ _ c.if-depth-eq0.false p.1 in
    rw (coded-list _ a.s.now a.pos _ p.2 c.if-s-pos.false c.u32_at-code.ensures _ l e)
    (told_in _ _ _ c.missing-then-is_list_code.ensures c.in_list.ensures)

pub returns-in-Some : goal.returns-in-Some
returns-in-Some c =
    let a = c.args in
    let k = sym c.of_code.ensures ∙ c.in-Some.is in
    let p = c.requires in
    let small = size_small c.in-Some.kind in
    rw (coded-missing _ a.s.now a.pos _ p.2 c.if-s-pos.false c.u32_at-code.ensures _ k (omega (arith, small)))
    c.missing_value.ensures

pub returns-in-None : goal.returns-in-None
returns-in-None c =
    let a = c.args in
    let k = sym c.of_code.ensures ∙ c.in-None.is in
    let p = c.requires in
    let l = sym c.is_list_code.ensures ∙ c.if-is_list_code.false in
    rw (coded-unknown _ a.s.now a.pos _ p.2 c.if-s-pos.false c.u32_at-code.ensures k l) c.refuse-in-None.ensures

pub in_list-requires : goal.in_list-requires
in_list-requires c = may-enclose _ _ _ c.missing-then-is_list_code.ensures
