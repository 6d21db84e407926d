-- `list_check::is_closed` meets its contract.
use native.Mathlib.Omega.{arith}
use Rattle.list_check.proofs.Zero.{zero-late, closed-last, closed-open}
use borrow.Author.Rules.{rules}
use Rattle.list_check.proofs.is_closed.Goals as goal

pub first_zero-requires : goal.first_zero-requires
first_zero-requires c = omega (arith, zero-late c.args.run.now _ c.if-run-last-eq0.true)

pub returns-then-run-last-eq0 : goal.returns-then-run-last-eq0
returns-then-run-last-eq0 c = rw c.first_zero.ensures (closed-last c.args.run.now (search rules) c.if-run-last-eq0.true)

pub returns : goal.returns
returns c = closed-open c.args.run.now (search rules) c.if-run-last-eq0.false
