use Prim.Native.Nat.{ℕ, ◌<◌}
use mathlib.Core.Path.{◌≡◌, sym, ap, ◌∙◌}
use mathlib.Core.List.{List}
use mathlib.Core.Option.{some}
use native.Mathlib.Omega.{arith}
use Rattle.std.specs.Prelude.{Option, Some}
use Rattle.slot.specs.Rows.{slot_at}
use Rattle.slot.specs.declared.Slot.{Slot}
use Rattle.table.specs.Places.{slot_count, socket_count, place_of, row_at, row_of}
use Rattle.publish.proofs.Pieces.{devices-at, devices-nowhere, devices-end}
use Rattle.publish.proofs.Loops.{left_as, left_at, left-room, left-put, left-none}
use Rattle.publish.proofs.rows.put_devices.Goals as goal
use Rattle.publish.proofs.rows.put_devices.Goals.{in-Some, in_default}

-- the row that was read at the place that was found is the socket's
row-found :
    (t : List ℕ) (socket i : ℕ) {p : Option ℕ} {s : Slot} → p ≡ place_of slot_count t socket → p ≡ Some i → s ≡ slot_at t i →
    row_of slot_count t socket ≡ some s
row-found t socket i e f g = ap (row_at t) (sym e ∙ f) ∙ ap some (sym g)

pub put_device-end-requires : goal.put_device-end-requires
put_device-end-requires c =
    let a = c.args in
    let l = c.loop-socket in
    let r = row-found a.t.now l.socket c.in-Some.i c.find_slot.ensures c.in-Some.is c.slot_at-s.ensures in
    left-room (left_as (devices-at socket_count slot_count a.c.now a.t.now l.socket _ (omega arith) r) l.invariant.1) c.requires

pub loop-socket-preserved : goal.loop-socket-preserved
loop-socket-preserved c =
    let l = c.loop-socket in
    let a = c.args in
    let low : l.socket < socket_count = omega arith in
    let e = c.find_slot.ensures in
    elim c.match-find_slot.branch [
      | in-Some w ↦ (
        omega (arith, w.count-is, l.invariant.0),
        let r = row-found a.t.now l.socket w.in-Some.i e w.in-Some.is w.slot_at-s.ensures in
            left_at w.buffer-is w.end-is w.count-is
            (left-put (left_as (devices-at socket_count slot_count a.c.now a.t.now l.socket _ low r) l.invariant.1) w.put_device-end.ensures),
      )
      | in_default w ↦ (
        omega (arith, w.count-is, l.invariant.0),
        let r = ap (row_at a.t.now) (sym e ∙ w.in_default.is) in
            left_at w.buffer-is w.end-is w.count-is
            (left_as (devices-nowhere socket_count slot_count a.c.now a.t.now l.socket low r) l.invariant.1),
      )
    ]

pub returns : goal.returns
returns c =
    let l = c.loop-socket in
    let a = c.args in
    left-none (left_as (devices-end socket_count slot_count a.c.now a.t.now l.socket (omega arith)) l.invariant.1)
