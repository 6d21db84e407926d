use Prim.Native.Nat.{◌+◌, ◌-◌, ◌<◌}
use mathlib.Core.Path.{◌≡◌, sym, ◌∙◌}
use native.Mathlib.Omega.{arith}
use Rattle.list_check.proofs.Told.{told-end}
use Rattle.list_check.proofs.Typed.{each-stops, each_goes, each-done, value-enclose}
use Rattle.list_check.proofs.check_each.Goals as goal

pub returns-then-is_refused : goal.returns-then-is_refused
returns-then-is_refused c =
    let stops = sym c.is_refused.ensures ∙ c.if-is_refused.true in
    each-stops _ _ _ _ _ _ c.loop-done.invariant.0 (omega arith) c.value_end-next.ensures _ stops c.in_list.ensures

pub loop-done-preserved : goal.loop-done-preserved
loop-done-preserved c =
    let more : 0 < c.args.n - c.loop-done.done = omega arith in
    let next : c.args.n - (c.loop-done.done + 1) ≡ c.args.n - c.loop-done.done - 1 = omega arith in
    rw next (each_goes _ _ _ _ _ _ c.loop-done.invariant.0 more c.value_end-next.ensures (sym c.is_refused.ensures ∙ c.if-is_refused.false))

pub in_list-requires : goal.in_list-requires
in_list-requires c = value-enclose _ _ _ _ c.value_end-next.ensures (sym c.is_refused.ensures ∙ c.if-is_refused.true)

pub returns : goal.returns
returns c = told-end _ c.loop-done.invariant.1 ∙ sym (c.loop-done.invariant.0 ∙ each-done _ _ _ _ (omega arith))
