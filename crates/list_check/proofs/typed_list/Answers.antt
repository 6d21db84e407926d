-- `list_check::typed_list` meets its contract. An empty typed list is refused; the code of another is the one its elements call for.
use mathlib.Core.Path.{sym, ◌∙◌}
use native.Mathlib.Omega.{arith}
use Rattle.list.specs.declared.Kind.TheVariants.{Int, Float, Str, Blob, Vocab}
use Rattle.list_check.proofs.Told.{may-enclose, told_in}
use Rattle.list_check.proofs.Codes.{no_code}
use Rattle.list_check.proofs.Typed.{typed-none, typed-is}
use Rattle.list_check.proofs.typed_list.Goals as goal

pub in_list-requires : goal.in_list-requires
in_list-requires c = may-enclose _ _ _ c.refuse.ensures

pub returns-then-n-eq0 : goal.returns-then-n-eq0
returns-then-n-eq0 c = λ k q. told_in _ _ _ c.refuse.ensures c.in_list.ensures ∙ sym (rw c.if-n-eq0.true (typed-none _ k _ _))

pub in_list-requires-in_default : goal.in_list-requires-in_default
in_list-requires-in_default c = may-enclose _ _ _ c.refuse-in_default.ensures

pub returns-in-1 : goal.returns-in-1
returns-in-1 c = typed-is _ Int _ _ _ _ c.in-1.is (omega (arith, c.if-n-eq0.false)) c.check_all.ensures

pub returns-in-9 : goal.returns-in-9
returns-in-9 c = typed-is _ Vocab _ _ _ _ c.in-9.is (omega (arith, c.if-n-eq0.false)) c.check_all-in-9.ensures

pub returns-in-10 : goal.returns-in-10
returns-in-10 c = typed-is _ Float _ _ _ _ c.in-10.is (omega (arith, c.if-n-eq0.false)) c.check_all-in-10.ensures

pub returns-in-4 : goal.returns-in-4
returns-in-4 c = typed-is _ Str _ _ _ _ c.in-4.is (omega (arith, c.if-n-eq0.false)) c.check_each.ensures

pub returns-in-12 : goal.returns-in-12
returns-in-12 c = typed-is _ Blob _ _ _ _ c.in-12.is (omega (arith, c.if-n-eq0.false)) c.check_each-in-12.ensures

pub returns-in_default : goal.returns-in_default
returns-in_default c = λ k q. absurd (no_code _ (λ e. omega arith) (λ e. omega arith) (λ e. omega arith) (λ e. omega arith) (λ e. omega arith) k q)
