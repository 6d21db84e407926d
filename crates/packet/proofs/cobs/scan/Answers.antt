use mathlib.Core.Path.{refl, sym, ap, ◌∙◌}
use lib.Seq.{take_all}
use Rattle.wire.specs.Zero.{has_zero}
use Rattle.wire.proofs.Zeros.{zero_more}
use Rattle.packet.proofs.Sums.{xor-next, xor-past}
use Rattle.packet.proofs.cobs.scan.Goals as goal

pub loop-b-init : goal.loop-b-init
unfolding has_zero
loop-b-init c = (refl, refl)

pub loop-b-preserved : goal.loop-b-preserved
loop-b-preserved c =
    let s = c.args.bytes.now in
    let l = c.loop-b in
    (rw l.invariant.0 (zero_more s l.b-index c.loop-b-test.true), sym (xor-next s l.b-index l.sum c.loop-b-test.true) ∙ l.invariant.1)

pub returns : goal.returns
returns c =
    let s = c.args.bytes.now in
    let l = c.loop-b in
    let end = c.loop-b-test.false in
    (l.invariant.0 ∙ ap has_zero (take_all l.b-index s end), sym (xor-past s l.b-index l.sum end) ∙ l.invariant.1)
