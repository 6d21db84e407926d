use Prim.Native.Nat.{◌<◌}
use mathlib.Core.Path.{ap}
use native.Mathlib.Omega.{arith}
use Rattle.catalogue.specs.Format.{kind_number}
use Rattle.value.specs.Meaning.{value_of}
use Rattle.value.proofs.Values.{value_same}
use Rattle.slot.specs.Slot.{param_count, bits_at}
use Rattle.publish.specs.Published.{element_of}
use Rattle.publish.proofs.Values.{no_nan}
use Rattle.publish.proofs.Pieces.{parameters-held, parameters-absent, parameters-end, put-value, bytes_of, held-is}
use Rattle.publish.proofs.Loops.{left-all, left_as, left_at, left-room, left-put, left-none}
use Rattle.publish.proofs.rows.put_parameters.Goals as goal
use Rattle.publish.proofs.rows.put_parameters.Goals.{then-s-p, else-s-p}

pub loop-p-init : goal.loop-p-init
loop-p-init c = (omega arith, left-all _ _ _)

pub put_parameter-end-requires : goal.put_parameter-end-requires
put_parameter-end-requires c =
    let a = c.args in
    let l = c.loop-p in
    let q = c.describe-kind in
    let e = value_same c.of_kind-v.result (value_of (kind_number q.result.kind) (bits_at a.s l.p)) c.of_kind-v.ensures in
    let b = bytes_of a.c.now a.s.device c.find_device-d.ensures c.parameter_bytes-bytes.ensures in
    let v = held-is a.c.now a.s l.p b (omega arith) q.ensures e in
    let held = parameters-held a.c.now a.s l.p (omega arith) c.if-s-p.true in
    (rw e (no_nan (kind_number q.result.kind) (bits_at a.s l.p)), rw v (left-room (left_as held l.invariant.1) c.requires))

pub loop-p-preserved : goal.loop-p-preserved
loop-p-preserved c =
    let a = c.args in
    let l = c.loop-p in
    let low : l.p < param_count = omega arith in
    let b = bytes_of a.c.now a.s.device c.find_device-d.ensures c.parameter_bytes-bytes.ensures in
    let held = parameters-held a.c.now a.s l.p low in
    let absent = parameters-absent a.c.now a.s l.p low in
    elim c.if-s-p.branch [
      | then-s-p w ↦ (
        omega (arith, w.count-is, l.invariant.0),
        let e = value_same w.of_kind-v.result (value_of (kind_number w.describe-kind.result.kind) (bits_at a.s l.p)) w.of_kind-v.ensures in
            let v = ap element_of (held-is a.c.now a.s l.p b low w.describe-kind.ensures e) in
            left_at w.buffer-is w.end-is w.count-is
            (left-put (left_as (held w.if-s-p.true) l.invariant.1) (put-value l.p _ _ v w.put_parameter-end.ensures)),
      )
      | else-s-p w ↦ (
        omega (arith, w.count-is, l.invariant.0),
        left_at w.buffer-is w.end-is w.count-is (left_as (absent w.if-s-p.false) l.invariant.1),
      )
    ]

pub returns : goal.returns
returns c =
    let a = c.args in
    let l = c.loop-p in
    let r = left-none (left_as (parameters-end a.c.now a.s l.p (omega arith)) l.invariant.1) in
    (r.0, r.1, omega (arith, l.invariant.0))
