-- `text_value::blob::gap_size` meets its contract.
use borrow.Author.Tests.{eq-eqb, ne_eqb}
use Rattle.text_value.proofs.blob.gap_size.Goals as goal

pub returns-then-first : goal.returns-then-first
returns-then-first c = rw c.if-first.true

pub returns-then-byte_at-eq32 : goal.returns-then-byte_at-eq32
returns-then-byte_at-eq32 c = rw (c.if-first.false, ← c.byte_at.ensures, eq-eqb _ _ c.if-byte_at-eq32.true)

pub returns : goal.returns
returns c = rw (c.if-first.false, ← c.byte_at.ensures, ne_eqb _ _ c.if-byte_at-eq32.false)
