-- `list_check::close` meets its contract: 256 is the code of no elements, and where no kind is common to all.
use Prim.Native.Nat.{◌+◌}
use native.Mathlib.Omega.{arith}
use borrow.Author.Tests.{eq-eqb, ne_eqb}
use Rattle.list.specs.Kind.{list_code}
use Rattle.list.specs.Bytes.{code_for}
use Rattle.list_check.specs.Steps.{close_of}
use Rattle.list_check.proofs.Told.{told-end, may-enclose, told_in}
use borrow.Author.Rules.{rules}
use Rattle.list_check.proofs.close.Goals as goal

pub returns-then-seen-eq0 : goal.returns-then-seen-eq0
unfolding close_of code_for
returns-then-seen-eq0 c = rw (eq-eqb _ _ c.if-seen-eq0.true) (told-end _ (search rules))

pub returns-then-seen-eq-LIST_CODE : goal.returns-then-seen-eq-LIST_CODE
unfolding close_of code_for
returns-then-seen-eq-LIST_CODE c = rw c.if-seen-eq-LIST_CODE.true (told-end _ (search rules))

pub returns : goal.returns
unfolding close_of code_for
returns c =
    let some = c.if-seen-eq0.false in
    let seen = c.args.seen in
    rw (ne_eqb _ _ some, ne_eqb _ _ c.if-seen-eq-LIST_CODE.false, ne_eqb list_code (list_code + seen) (λ e. some (omega arith)))
    (told_in _ _ _ c.refuse.ensures c.in_list.ensures)

pub in_list-requires : goal.in_list-requires
in_list-requires c = may-enclose _ _ _ c.refuse.ensures
