-- `text_decode::known::known_sign` meets its contract.
use borrow.Author.Tests.{eq-eqb, ne_eqb}
use Rattle.text.specs.Read.{sign_size}
use Rattle.text_value.proofs.Decimals.{first_char}
use Rattle.text_decode.proofs.known.known_sign.Goals as goal

pub returns-then-text-at-eq45 : goal.returns-then-text-at-eq45
unfolding sign_size
returns-then-text-at-eq45 c = rw (first_char, eq-eqb _ _ c.if-text-at-eq45.true)

pub returns : goal.returns
unfolding sign_size
returns c = rw (first_char, ne_eqb _ _ c.if-text-at-eq45.false)
