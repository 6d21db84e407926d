-- `list_check::value_end` meets its contract.
use mathlib.Core.Path.{sym, ap, ◌∙◌}
use native.Mathlib.Omega.{arith}
use mathlib.Core.Logic.{⊎_elim}
use Prim.Native.Nat.{◌+◌, ◌≤◌}
use lib.ListN.{length}
use Rattle.list.specs.Kind.{size_of}
use Rattle.list.proofs.TypedRun.{Fixed}
use Rattle.list_check.specs.Check.{judged}
use Rattle.list_check.proofs.Told.{told-end}
use Rattle.list_check.proofs.Typed.{value-missing, fixed-there}
use Rattle.list_check.proofs.value_end.Goals as goal

pub returns-then-s-at : goal.returns-then-s-at
returns-then-s-at c =
    let a = c.args in
    let e = c.size-size.ensures in
    c.missing.ensures ∙ rw e (sym (ap judged (value-missing a.s.now a.kind a.at (omega (arith, c.if-s-at.true, e)))))

pub returns-in-Int : goal.returns-in-Int
returns-in-Int c =
    let a = c.args in
    let e = c.size-size.ensures in
    let x : Fixed a.kind = ⊎_elim (λ h. rw h tt) (⊎_elim (λ h. rw h tt) (λ h. rw h tt)) c.in-Int.is in
    let in_kind : a.at + size_of a.kind ≤ length a.s.now = omega (arith, c.if-s-at.false, e) in
    rw e (told-end _ (omega (arith, c.requires.1)) ∙ sym (fixed-there a.s.now a.kind a.at x c.requires.1 in_kind))
