use mathlib.Core.Path.{refl}
use native.Mathlib.Omega.{arith}
use Rattle.wire.proofs.Chains.{every-all, every_more, every-stop}
use Rattle.wire.specs.Every.{every}
use Rattle.slot.specs.Rows.{slot_at}
use Rattle.attach.specs.Attach.{uid_free}
use Rattle.attach.proofs.is_uid_free.Goals as goal

pub loop-i-init : goal.loop-i-init
unfolding every
loop-i-init c = refl

pub returns-then-is_elsewhere : goal.returns-then-is_elsewhere
unfolding uid_free
returns-then-is_elsewhere c =
    let a = c.args in
    every-stop a.slots c.loop-i.i _ (omega arith) (rw (
      ← c.is_elsewhere.ensures (slot_at a.t.now c.loop-i.i) c.head_at-h.ensures,
      c.if-is_elsewhere.true,
    ))

pub loop-i-preserved : goal.loop-i-preserved
loop-i-preserved c =
    every_more _ _ c.loop-i.invariant (rw (
      ← c.is_elsewhere.ensures (slot_at c.args.t.now c.loop-i.i) c.head_at-h.ensures,
      c.if-is_elsewhere.false,
    ))

pub returns : goal.returns
unfolding uid_free
returns c = every-all c.args.slots _ _ (omega arith) (omega arith) c.loop-i.invariant
