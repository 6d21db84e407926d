use native.Mathlib.Omega.{arith}
use Rattle.list_check.proofs.Zero.{zero-passed, zero-late}
use Rattle.list_check.proofs.first_zero.Goals as goal

pub loop-i-smaller : goal.loop-i-smaller
loop-i-smaller c = omega (arith, zero-passed _ _ c.loop-i.invariant c.loop-i-test.true)

pub loop-i-preserved : goal.loop-i-preserved
loop-i-preserved c = omega (arith, zero-passed _ _ c.loop-i.invariant c.loop-i-test.true)

pub returns : goal.returns
returns c = omega (arith, zero-late c.args.s.now _ c.loop-i-test.false)
