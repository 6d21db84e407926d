-- `lawful::admit` meets its contract, by the tests that lead to each answer.
use borrow.Author.Tests.{lt-ltb, le-ltb, not-true, not-false}
use Rattle.lawful.specs.Lawful.{admission}
use Rattle.lawful.proofs.admit.Goals as goal

pub returns-then-not-is_legal : goal.returns-then-not-is_legal
unfolding admission
returns-then-not-is_legal c = rw (← c.is_legal.ensures, not-true _ c.if-not-is_legal.true-raw)

pub returns-then-not-is_lawful : goal.returns-then-not-is_lawful
unfolding admission
returns-then-not-is_lawful c =
    rw (
      ← c.is_legal.ensures,
      not-false _ c.if-not-is_legal.false-raw,
      ← c.is_lawful.ensures,
      not-true _ c.if-not-is_lawful.true-raw,
    )

pub returns-then-socket-from : goal.returns-then-socket-from
unfolding admission
returns-then-socket-from c =
    rw (
      ← c.is_legal.ensures,
      not-false _ c.if-not-is_legal.false-raw,
      ← c.is_lawful.ensures,
      not-false _ c.if-not-is_lawful.false-raw,
      le-ltb _ _ (rw c.from.ensures at c.if-socket-from.true),
    )

pub returns : goal.returns
unfolding admission
returns c =
    rw (
      ← c.is_legal.ensures,
      not-false _ c.if-not-is_legal.false-raw,
      ← c.is_lawful.ensures,
      not-false _ c.if-not-is_lawful.false-raw,
      lt-ltb _ _ (rw c.from.ensures at c.if-socket-from.false),
    )
