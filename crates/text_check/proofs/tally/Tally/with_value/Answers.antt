-- `text_check::tally::Tally::with_value` meets its contract: each return is a case of the definition.
use mathlib.Core.Path.{sym, ◌∙◌}
use borrow.Author.Tests.{lt-ltb, le-ltb, eq-eqb, ne_eqb}
use Rattle.text_check.proofs.tally.Tally.with_value.Goals as goal

pub returns-then-next-gt-LIST_LIMIT : goal.returns-then-next-gt-LIST_LIMIT
returns-then-next-gt-LIST_LIMIT c = rw (lt-ltb _ _ c.if-next-gt-LIST_LIMIT.true)

pub returns-then-seen-eq-LIST_CODE : goal.returns-then-seen-eq-LIST_CODE
returns-then-seen-eq-LIST_CODE c = let e = c.common_code-seen.ensures in
    rw (le-ltb _ _ c.if-next-gt-LIST_LIMIT.false, eq-eqb _ _ (sym e ∙ c.if-seen-eq-LIST_CODE.true), c.if-seen-eq-LIST_CODE.true)

pub returns : goal.returns
returns c = let e = c.common_code-seen.ensures in
    rw (le-ltb _ _ c.if-next-gt-LIST_LIMIT.false, ne_eqb _ _ (λ q. c.if-seen-eq-LIST_CODE.false (e ∙ q)), e)
