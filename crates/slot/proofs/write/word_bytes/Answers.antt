use Prim.Native.Nat.{◌+◌, ◌*◌}
use mathlib.Core.Path.{refl, ap, ◌∙◌}
use native.Mathlib.Omega.{arith}
use lib.ListN.{length, take, get_or}
use Rattle.wire.specs.Number.{le_bytes}
use Rattle.slot.specs.Slot.{param_count}
use Rattle.slot.specs.Row.{word_size, spelled}
use Rattle.slot.proofs.Filling.{length-put, spell-step, spell-all}
use Rattle.slot.proofs.write.word_bytes.Goals as goal

pub loop-p-init : goal.loop-p-init
unfolding spelled
loop-p-init c = (refl, refl)

pub loop-p-preserved : goal.loop-p-preserved
loop-p-preserved c =
    let l = c.loop-p in
    let bits = c.args.bits in
    let e = c.put_u32.ensures in (
      ap length e ∙ length-put l.bytes (word_size * l.p) (le_bytes word_size (get_or bits l.p 0)) ∙ l.invariant.0,
      ap (take (word_size * (l.p + 1))) e ∙ spell-step l.bytes l.p (λ p. get_or bits p 0) (omega (arith, l.invariant.0)) l.invariant.1,
    )

pub returns : goal.returns
returns c = let l = c.loop-p in spell-all param_count l.bytes l.p _ (omega arith) (omega arith) l.invariant.0 l.invariant.1
