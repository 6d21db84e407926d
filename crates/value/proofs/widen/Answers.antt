-- `value::widen` meets its contract; a finite single may be cast, since no bits below the infinity's are a NaN's.
use native.Mathlib.Omega.{arith}
use borrow.Author.Tests.{lt-ltb, le-ltb}
use Rattle.value.proofs.Floats.{cast-asks, not-isnan, not-nan}
use Rattle.value.proofs.widen.Goals as goal

pub float_from_bits-result : goal.float_from_bits-result
float_from_bits-result c = not-nan c.args.bits (omega arith)

pub float_to_float-result : goal.float_to_float-result
float_to_float-result c = cast-asks c.args.bits (omega arith)

pub float_to_bits-result : goal.float_to_bits-result
float_to_bits-result c = not-isnan c.args.bits (omega arith)

pub returns-then-low-lt-INFINITY : goal.returns-then-low-lt-INFINITY
returns-then-low-lt-INFINITY c = rw (lt-ltb _ _ c.if-low-lt-INFINITY.true)

pub returns : goal.returns
returns c = rw (le-ltb _ _ c.if-low-lt-INFINITY.false) (omega arith)
