-- `output::digit` meets its contract: the digits below 10, and those behind.
use borrow.Author.Tests.{lt-ltb, le-ltb}
use borrow.Author.Rules.{rules}
use Rattle.output.proofs.digit.Goals as goal

pub returns-then-d-lt10 : goal.returns-then-d-lt10
returns-then-d-lt10 c = rw (lt-ltb c.args.d 10 (search rules))

pub returns : goal.returns
returns c = rw (le-ltb c.args.d 10 (search rules))
