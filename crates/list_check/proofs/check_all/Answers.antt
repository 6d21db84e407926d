-- `list_check::check_all` meets its contract.
use Prim.Native.Nat.{ℕ, ◌+◌, ◌-◌, ◌*◌, ◌/◌}
use mathlib.Core.Path.{◌≡◌, sym, ap, ◌∙◌}
use native.Mathlib.Omega.{arith}
use native.Mathlib.Nat.{div-add-mod'}
use lib.ListN.{length}
use Rattle.list.specs.Limits.{list_limit}
use Rattle.list.specs.Kind.{size_of}
use Rattle.list.specs.Refusal.{enclosed}
use Rattle.list.specs.Parse.{in_list}
use Rattle.list.proofs.TypedRun.{typed-run}
use Rattle.list_check.specs.Check.{accepted, refused, judged}
use Rattle.list_check.specs.Steps.{missing_at}
use Rattle.list_check.proofs.Told.{told-end, may-enclose, told_in}
use Rattle.list_check.proofs.Typed.{size_small, times-small, run-missing}
use Rattle.list_check.proofs.check_all.Goals as goal

pub missing-requires : goal.missing-requires
missing-requires c =
    let a = c.args in
    (omega (arith, div-add-mod' (length a.s.now - a.at) c.size-size.result), omega (arith, c.size-size.ensures, size_small a.kind))

pub returns-then-s-at : goal.returns-then-s-at
returns-then-s-at c =
    let size = c.size-size in
    let a = c.args in
    let p = c.requires in
    let e : size.result * a.n ≡ size_of a.kind * a.n = ap (λ (z : ℕ). z * a.n) size.ensures in
    told_in _ _ _ c.missing.ensures c.in_list.ensures
    ∙ ap (λ (z : ℕ). refused (enclosed (missing_at (a.at + (length a.s.now - a.at) / z * z) z))) size.ensures
    ∙ sym (run-missing a.s.now a.kind a.n a.at p.0 p.2 p.1 (omega (arith, c.if-s-at.true)))

pub returns : goal.returns
returns c =
    let a = c.args in
    let p = c.requires in
    let e : c.size-size.result * a.n ≡ size_of a.kind * a.n = ap (λ (z : ℕ). z * a.n) c.size-size.ensures in
    told-end _ (omega (arith, c.if-s-at.false, p.2))
    ∙ ap (λ (z : ℕ). accepted (a.at + z)) e
    ∙ sym (ap (λ x. judged (in_list x)) (typed-run list_limit a.s.now a.kind a.n a.at p.0 (omega (arith, c.if-s-at.false, p.2)) (omega (arith, c.if-s-at.false))))

pub overflow_mul-size : goal.overflow_mul-size
overflow_mul-size c = record { fits = omega (arith, times-small c.args.kind c.args.n _ c.size-size.ensures) }

pub overflow_add-at : goal.overflow_add-at
overflow_add-at c = record { fits = omega (arith, times-small c.args.kind c.args.n _ c.size-size.ensures) }

pub nonzero_div-s : goal.nonzero_div-s
nonzero_div-s c = omega (arith, c.size-size.ensures, size_small c.args.kind)

pub overflow_mul-s : goal.overflow_mul-s
overflow_mul-s c = record { fits = omega (arith, div-add-mod' (length c.args.s.now - c.args.at) c.size-size.result) }

pub overflow_add-at-then-s-at : goal.overflow_add-at-then-s-at
overflow_add-at-then-s-at c = record { fits = omega (arith, div-add-mod' (length c.args.s.now - c.args.at) c.size-size.result) }

pub in_list-requires : goal.in_list-requires
in_list-requires c = may-enclose _ _ _ c.missing.ensures
