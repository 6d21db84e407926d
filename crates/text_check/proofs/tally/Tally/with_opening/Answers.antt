-- `text_check::tally::Tally::with_opening` meets its contract: each return is a case of the definition.
use native.Mathlib.Numerals.{add-one}
use borrow.Author.Tests.{lt-ltb, le-ltb}
use Rattle.text_check.proofs.tally.Tally.with_opening.Goals as goal

pub returns-then-next-le-LIST_LIMIT : goal.returns-then-next-le-LIST_LIMIT
returns-then-next-le-LIST_LIMIT c = rw (add-one, le-ltb _ _ c.if-next-le-LIST_LIMIT.true)

pub returns-else-next-le-LIST_LIMIT : goal.returns-else-next-le-LIST_LIMIT
returns-else-next-le-LIST_LIMIT c = rw (add-one, lt-ltb _ _ c.if-next-le-LIST_LIMIT.false)
