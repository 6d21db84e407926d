-- `catalogue::is_legal_type` meets its contract, by the tests that lead to each answer.
use borrow.Author.Tests.{eq-eqb, ne_eqb, le-leb, lt-leb}
use Rattle.catalogue.specs.Format.{type_legal}
use Rattle.catalogue.proofs.is_legal_type.Goals as goal

pub returns-then-n-gt-MAX_PARAMETERS : goal.returns-then-n-gt-MAX_PARAMETERS
unfolding type_legal
returns-then-n-gt-MAX_PARAMETERS c = rw (← c.number_at-n.ensures.0, lt-leb _ _ c.if-n-gt-MAX_PARAMETERS.true)

pub returns-then-i-eq0 : goal.returns-then-i-eq0
unfolding type_legal
returns-then-i-eq0 c = rw (← c.number_at-n.ensures.0, le-leb _ _ c.if-n-gt-MAX_PARAMETERS.false, eq-eqb _ _ c.if-i-eq0.true)

pub returns : goal.returns
unfolding type_legal
returns c =
    rw (
      ← c.number_at-n.ensures.0,
      ← c.byte_at-last.ensures,
      ← c.byte_at-this.ensures,
      le-leb _ _ c.if-n-gt-MAX_PARAMETERS.false,
      ne_eqb _ _ c.if-i-eq0.false,
    )
