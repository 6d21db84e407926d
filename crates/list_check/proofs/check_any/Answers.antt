-- `list_check::check_any` meets its contract.
use mathlib.Core.Path.{sym, ◌∙◌}
use native.Mathlib.Omega.{arith}
use lib.Dec.{eqb}
use borrow.Author.Tests.{eqb-true}
use Rattle.wire.proofs.Chains.{and_left, and_right}
use Rattle.list.specs.Kind.{list_code}
use Rattle.list_check.proofs.Told.{told-end}
use Rattle.list_check.proofs.Front.{front-list, front-other, front-empty}
use Rattle.list_check.proofs.check_any.Goals as goal

-- the empty list
pub returns-then-empty : goal.returns-then-empty
returns-then-empty c =
    let code = c.u32_at-code.result in
    let count = c.u32_at-count.result in
    let mixed = eqb-true code list_code (and_left (eqb code list_code) (eqb count 0) c.if-empty.true) in
    let none = eqb-true count 0 (and_right (eqb code list_code) (eqb count 0) c.if-empty.true) in
    told-end _ (omega arith)
    ∙ sym (front-empty _ c.requires c.if-s.false code count c.u32_at-code.ensures c.u32_at-count.ensures mixed none)

pub check_list-requires : goal.check_list-requires
check_list-requires c =
    (c.if-s.false, c.requires, sym c.is_list_code.ensures ∙ c.if-is_list_code.true, c.u32_at-count.ensures, omega arith)

pub returns-then-is_list_code : goal.returns-then-is_list_code
returns-then-is_list_code c =
    let is = sym c.is_list_code.ensures ∙ c.if-is_list_code.true in
    c.check_list.ensures ∙ sym (front-list _ c.requires c.if-s.false _ _ c.u32_at-code.ensures c.u32_at-count.ensures is)

-- no list
pub returns : goal.returns
returns c =
    let other = sym c.is_list_code.ensures ∙ c.if-is_list_code.false in
    c.refuse.ensures ∙ sym (front-other _ c.requires c.if-s.false _ _ c.u32_at-code.ensures c.u32_at-count.ensures other)
