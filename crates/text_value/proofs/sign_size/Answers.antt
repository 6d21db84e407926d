-- `text_value::sign_size` meets its contract.
use mathlib.Core.Path.{sym, ◌∙◌}
use native.Mathlib.Omega.{arith}
use borrow.Author.Tests.{eq-eqb, ne_eqb}
use Rattle.text.specs.Read.{sign_size}
use Rattle.text_value.proofs.Decimals.{first_char, inside}
use Rattle.text_value.proofs.sign_size.Goals as goal

pub returns-then-byte_at-eq45 : goal.returns-then-byte_at-eq45
unfolding sign_size
returns-then-byte_at-eq45 c =
    let a = c.args in (
      rw (first_char, ← c.byte_at.ensures, eq-eqb _ _ c.if-byte_at-eq45.true),
      omega arith,
      omega (arith, inside a.text.now a.at 44 (sym c.byte_at.ensures ∙ c.if-byte_at-eq45.true)),
    )

pub returns : goal.returns
unfolding sign_size
returns c = (rw (first_char, ← c.byte_at.ensures, ne_eqb _ _ c.if-byte_at-eq45.false), omega arith, omega arith)
