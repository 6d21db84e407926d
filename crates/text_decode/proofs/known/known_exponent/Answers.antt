-- `text_decode::known::known_exponent` meets its contract.
use borrow.Author.Tests.{eq-eqb, ne_eqb}
use Rattle.text_decode.proofs.known.known_exponent.Goals as goal

pub returns-then-lead-eq49 : goal.returns-then-lead-eq49
returns-then-lead-eq49 c = rw (eq-eqb _ _ c.if-lead-eq49.true)

pub returns : goal.returns
returns c = rw (ne_eqb _ _ c.if-lead-eq49.false)
