use mathlib.Core.Path.{◌≡◌, refl, sym, ◌∙◌}
use mathlib.Core.Bool.{true, false}
use Prim.Native.Nat.{◌^◌, ◌<◌}
use native.Mathlib.Omega.{arith}
use Rattle.wire.proofs.Chains.{every_more, every-stop}
use Rattle.wire.specs.Every.{every}
use Rattle.slot.specs.Slot.{param_count}
use Rattle.parameters.specs.Data.{all_flags, offset_of, named}
use Rattle.parameters.proofs.ByBytes.{width-by, flag_by}
use Rattle.parameters.proofs.Walks.{walk-named, walk-unnamed, flags-rest}
use Rattle.parameters.proofs.data.Layout.are_flags.Goals as goal
use Rattle.parameters.proofs.data.Layout.are_flags.Goals.{then-is_named+else-not-is_flag, else-is_named}

pub loop-p-init : goal.loop-p-init
unfolding every offset_of
loop-p-init c = (omega arith, λ k s g. (refl, refl))

pub returns-then-not-is_flag : goal.returns-then-not-is_flag
unfolding all_flags
returns-then-not-is_flag c k s g =
    let l = c.loop-p in
    let below : l.p < param_count = omega (arith, c.bits_of-p-end.ensures) in
    let n : true ≡ named c.args.map l.p = c.if-is_named.ensures in
    let at = (l.invariant.1 k s g).0 in
    let test = flag_by s g l.p below c.describe-q.ensures c.args.payload.now l.at in
    let fails = c.if-not-is_flag.ensures in
    every-stop param_count l.p _ below (rw (← n, ← at) (sym (fails ∙ test)))

pub loop-p-preserved : goal.loop-p-preserved
loop-p-preserved c =
    let l = c.loop-p in
    let map = c.args.map in
    let below : l.p < param_count = omega (arith, c.bits_of-p-end.ensures) in
    elim c.if-is_named.branch [
      | then-is_named+else-not-is_flag w ↦
          let n : true ≡ named map l.p = w.if-is_named.ensures in (
            omega (arith, l.invariant.0, w.width_of-at.ensures.1, w.at-is),
            λ k s g.
                let inv = l.invariant.1 k s g in
                let at = inv.0 in
                let width = width-by s g l.p below w.describe-q.ensures in
                let test = flag_by s g l.p below w.describe-q.ensures c.args.payload.now l.at in
                let holds = w.if-not-is_flag.ensures in (
                  walk-named k s map l.p at (sym n) (w.width_of-at.ensures.0 ∙ width) w.at-is,
                  every_more _ _ inv.1 (rw (← n, ← at) (sym (holds ∙ test))),
                ),
          )
      | else-is_named w ↦
          let n : false ≡ named map l.p = w.if-is_named.ensures in (
            omega (arith, l.invariant.0, w.at-is),
            λ k s g.
                let inv = l.invariant.1 k s g in
                (walk-unnamed k s map l.p inv.0 (sym n) w.at-is, every_more _ _ inv.1 (rw (← n))),
          )
    ]

pub returns : goal.returns
returns c k s g =
    let l = c.loop-p in
    let e : l.p ≡ c.bits_of-p-end.result = omega arith in
    let m : c.args.map < 2 ^ l.p = rw e c.bits_of-p-end.ensures.0 in
    flags-rest c.args.map l.p m (omega (arith, c.bits_of-p-end.ensures)) k s _ (l.invariant.1 k s g).1
