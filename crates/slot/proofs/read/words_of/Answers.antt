use Prim.Native.Nat.{◌+◌, ◌*◌}
use mathlib.Core.Path.{refl, ap, ◌∙◌}
use native.Mathlib.Omega.{arith}
use lib.ListN.{take, set, length-set}
use Rattle.wire.specs.Number.{number_at}
use Rattle.slot.specs.Slot.{param_count, tabulate}
use Rattle.slot.specs.Row.{bits_from, word_size}
use Rattle.slot.proofs.Filling.{fill_step, fill-all}
use Rattle.slot.proofs.read.words_of.Goals as goal

pub loop-p-init : goal.loop-p-init
unfolding tabulate
loop-p-init c = (refl, refl)

pub loop-p-preserved : goal.loop-p-preserved
loop-p-preserved c =
    let l = c.loop-p in (
      length-set l.words l.p _ ∙ l.invariant.0,
      ap (λ x. take (l.p + 1) (set l.words l.p x)) c.word_of.ensures
          ∙ fill_step l.words l.p (λ p. number_at word_size _ (bits_from + word_size * p)) (omega (arith, l.invariant.0)) l.invariant.1,
    )

pub returns : goal.returns
returns c = let l = c.loop-p in fill-all param_count l.words l.p _ (omega arith) (omega arith) l.invariant.0 l.invariant.1
