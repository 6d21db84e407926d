use Prim.Native.Nat.{◌+◌}
use mathlib.Core.Path.{refl}
use native.Mathlib.Omega.{arith}
use Rattle.text_decode.proofs.Knowns.{known_as}
use Rattle.text_decode.proofs.Letters.{letters-start, letters-inside, letters-fit, letters-done, letters-more}
use Rattle.text_decode.proofs.known.known_letters.Goals as goal

pub loop-end-init : goal.loop-end-init
loop-end-init c = letters-start c.args.text.now c.args.at

pub bounds-text-end : goal.bounds-text-end
bounds-text-end c = letters-inside c.loop-end.invariant c.requires

pub bounds-text-end-in-loop-end : goal.bounds-text-end-in-loop-end
bounds-text-end-in-loop-end c = letters-inside c.loop-end.invariant c.requires

pub overflow_cast-bits : goal.overflow_cast-bits
overflow_cast-bits c = omega (arith, (letters-more c.loop-end.invariant c.requires c.loop-end-test.true).letter)

pub overflow_mul-bits : goal.overflow_mul-bits
overflow_mul-bits c =
    let m = letters-more c.loop-end.invariant c.requires c.loop-end-test.true in
    omega (arith, m.counts, m.room)

pub overflow_add-bits : goal.overflow_add-bits
overflow_add-bits c =
    let m = letters-more c.loop-end.invariant c.requires c.loop-end-test.true in
    omega (arith, m.counts, m.room, letters-fit c.loop-end.invariant c.requires)

pub overflow_mul-unit : goal.overflow_mul-unit
overflow_mul-unit c = omega (arith, (letters-more c.loop-end.invariant c.requires c.loop-end-test.true).room)

pub overflow_add-end : goal.overflow_add-end
overflow_add-end c = omega (arith, letters-inside c.loop-end.invariant c.requires)

pub loop-end-smaller : goal.loop-end-smaller
loop-end-smaller c = omega (arith, letters-inside c.loop-end.invariant c.requires)

pub loop-end-preserved : goal.loop-end-preserved
loop-end-preserved c = (letters-more c.loop-end.invariant c.requires c.loop-end-test.true).next

pub overflow_cast-result : goal.overflow_cast-result
overflow_cast-result c = omega (arith, letters-fit c.loop-end.invariant c.requires)

pub overflow_add-result : goal.overflow_add-result
overflow_add-result c = omega (arith, letters-inside c.loop-end.invariant c.requires)

pub returns : goal.returns
returns c =
    let x = c.loop-end.invariant in
    known_as _ c.loop-end.bits (x.i + 1) c.args.at _ (letters-done x c.requires c.loop-end-test.false) refl (omega (arith, x.place))
