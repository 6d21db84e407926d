-- `type_byte` meets its contract, by its test.
use native.Mathlib.Omega.{arith}
use borrow.Author.Tests.{lt-ltb, le-ltb}
use Rattle.cinder.proofs.write_call.type_byte.Goals as goal

pub returns-then-number-lt256 : goal.returns-then-number-lt256
returns-then-number-lt256 c = rw (lt-ltb c.args.number 256 (omega (arith, c.if-number-lt256.true)))

pub returns : goal.returns
returns c = rw (le-ltb c.args.number 256 (omega (arith, c.if-number-lt256.false)))
