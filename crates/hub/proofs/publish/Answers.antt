-- `publish` is `publish_of`: 11 and 9 come first.
use borrow.Author.Tests.{not-true, not-false}
use Rattle.hub.specs.Calls.{publish_of}
use Rattle.hub.proofs.publish.Goals as goal

pub returns-then-not-is_legal : goal.returns-then-not-is_legal
unfolding publish_of
returns-then-not-is_legal c = rw (← c.is_legal.ensures, not-true c.is_legal.result c.if-not-is_legal.true-raw)

pub returns-then-not-is_lawful : goal.returns-then-not-is_lawful
unfolding publish_of
returns-then-not-is_lawful c =
    rw (
      ← c.is_legal.ensures,
      not-false c.is_legal.result c.if-not-is_legal.false-raw,
      ← c.is_lawful.ensures,
      not-true c.is_lawful.result c.if-not-is_lawful.true-raw,
    )

pub returns : goal.returns
unfolding publish_of
returns c =
    rw (
      ← c.is_legal.ensures,
      not-false c.is_legal.result c.if-not-is_legal.false-raw,
      ← c.is_lawful.ensures,
      not-false c.is_lawful.result c.if-not-is_lawful.false-raw,
    )
    c.write_list.ensures
