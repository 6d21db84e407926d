use mathlib.Core.Path.{◌≡◌, refl, sym, ◌∙◌}
use mathlib.Core.Bool.{true, false}
use Prim.Native.Nat.{◌^◌, ◌<◌}
use native.Mathlib.Omega.{arith}
use Rattle.slot.specs.Slot.{param_count}
use Rattle.parameters.specs.Data.{size_of, offset_of, named}
use Rattle.parameters.proofs.ByBytes.{width-by}
use Rattle.parameters.proofs.Walks.{walk-named, walk-unnamed, offset-rest}
use Rattle.parameters.proofs.data.Layout.size_of.Goals as goal
use Rattle.parameters.proofs.data.Layout.size_of.Goals.{then-is_named, else-is_named}

pub loop-p-init : goal.loop-p-init
unfolding offset_of
loop-p-init c = (omega arith, λ k s g. refl)

pub loop-p-preserved : goal.loop-p-preserved
loop-p-preserved c =
    let l = c.loop-p in
    let map = c.args.map in
    let below : l.p < param_count = omega (arith, c.bits_of-p-end.ensures) in
    elim c.if-is_named.branch [
      | then-is_named w ↦
          let n : true ≡ named map l.p = w.if-is_named.ensures in (
            omega (arith, l.invariant.0, w.width_of-at.ensures.1, w.at-is),
            λ k s g.
                let width = width-by s g l.p below w.describe-q.ensures in
                walk-named k s map l.p (l.invariant.1 k s g) (sym n) (w.width_of-at.ensures.0 ∙ width) w.at-is,
          )
      | else-is_named w ↦
          let n : false ≡ named map l.p = w.if-is_named.ensures in
          (omega (arith, l.invariant.0, w.at-is), λ k s g. walk-unnamed k s map l.p (l.invariant.1 k s g) (sym n) w.at-is)
    ]

pub returns : goal.returns
unfolding size_of
returns c k s g =
    let l = c.loop-p in
    let e : l.p ≡ c.bits_of-p-end.result = omega arith in
    let m : c.args.map < 2 ^ l.p = rw e c.bits_of-p-end.ensures.0 in
    l.invariant.1 k s g ∙ sym (offset-rest c.args.map l.p m (omega (arith, c.bits_of-p-end.ensures)) k s)
