-- `text_encode::form::row_has_form` meets its contract: each test is the definition's.
use borrow.Author.Tests.{eq-eqb, ne_eqb}
use Rattle.text_encode.specs.Spell.{row_form}
use Rattle.text_encode.proofs.form.row_has_form.Goals as goal

pub returns-then-row-eq-VOCAB : goal.returns-then-row-eq-VOCAB
unfolding row_form
returns-then-row-eq-VOCAB c = rw (eq-eqb _ _ c.if-row-eq-VOCAB.true) c.is_vocab.ensures

pub returns-then-row-eq-FLOAT : goal.returns-then-row-eq-FLOAT
unfolding row_form
returns-then-row-eq-FLOAT c = rw (ne_eqb _ _ c.if-row-eq-VOCAB.false, eq-eqb _ _ c.if-row-eq-FLOAT.true) c.is_finite.ensures

pub returns : goal.returns
unfolding row_form
returns c = rw (ne_eqb _ _ c.if-row-eq-VOCAB.false, ne_eqb _ _ c.if-row-eq-FLOAT.false)
