use mathlib.Core.Path.{◌≡◌, refl, sym, ap, ◌∙◌}
use mathlib.Core.Bool.{true, false}
use Prim.Native.Nat.{◌^◌, ◌<◌}
use native.Mathlib.Omega.{arith}
use Rattle.wire.proofs.ByteLists.{all-bytes}
use Rattle.slot.specs.Slot.{param_count}
use Rattle.slot.specs.Row.{slot_of, slot_bytes}
use Rattle.slot.proofs.Rows.{row_back, row_fits}
use Rattle.parameters.specs.Data.{width_of, offset_of, stored_to, named}
use Rattle.parameters.proofs.ByBytes.{width-by}
use Rattle.parameters.proofs.Walks.{walk-named, walk-unnamed, stored-rest}
use Rattle.parameters.proofs.Rows.{store-value, store-none}
use Rattle.parameters.proofs.Widths.{width_is}
use Rattle.parameters.proofs.data.Layout.store.Goals as goal
use Rattle.parameters.proofs.data.Layout.store.Goals.{then-is_named, else-is_named}

pub loop-p-init : goal.loop-p-init
unfolding offset_of stored_to
loop-p-init c =
    let row = c.args.row.now in
    let all = all-bytes row (λ i. omega (arith, c.type_inv.row i)) in
    (omega arith, λ k g. (refl, record { bytes = sym (row_back row all c.requires); fits = row_fits row all }))

pub value_at-v-requires : goal.value_at-v-requires
value_at-v-requires c = rw c.width_of-w.ensures.0 (width_is _ _)

pub loop-p-preserved : goal.loop-p-preserved
loop-p-preserved c =
    let a = c.args in
    let l = c.loop-p in
    let s = slot_of a.row.now in
    let below : l.p < param_count = omega (arith, c.bits_of-p-end.ensures) in
    elim c.if-is_named.branch [
      | then-is_named w ↦
          let n : true ≡ named a.map l.p = w.if-is_named.ensures in (
            omega (arith, l.invariant.0, w.width_of-w.ensures.1, w.at-is),
            λ k g.
                let inv = l.invariant.1 k g in
                let at = inv.0 in
                let is-width : w.width_of-w.result ≡ width_of k s l.p =
                w.width_of-w.ensures.0 ∙ width-by s g l.p below w.describe-q.ensures in (
                  walk-named k s a.map l.p at (sym n) is-width w.at-is,
                  store-value k s a.map a.payload.now inv.1 w.value_at-v.result (sym n) below
                      (rw (← at, ← is-width) w.value_at-v.ensures) (omega arith) (w.row-is ∙ w.put_value.ensures),
                ),
          )
      | else-is_named w ↦
          let n : false ≡ named a.map l.p = w.if-is_named.ensures in (
            omega (arith, l.invariant.0, w.at-is),
            λ k g.
                let inv = l.invariant.1 k g in
                (walk-unnamed k s a.map l.p inv.0 (sym n) w.at-is, store-none k s a.map a.payload.now inv.1 (sym n) w.row-is),
          )
    ]

pub returns : goal.returns
returns c k g =
    let a = c.args in
    let l = c.loop-p in
    let e : l.p ≡ c.bits_of-p-end.result = omega arith in
    let m : a.map < 2 ^ l.p = rw e c.bits_of-p-end.ensures.0 in
    (l.invariant.1 k g).1.bytes
    ∙ ap slot_bytes (sym (stored-rest a.map l.p m (omega (arith, c.bits_of-p-end.ensures)) k (slot_of a.row.now) a.payload.now))
