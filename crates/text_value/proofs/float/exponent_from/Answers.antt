-- `text_value::float::exponent_from` meets its contract: each test is the definition's.
use native.Mathlib.Omega.{arith}
use borrow.Author.Tests.{eq-eqb, ne_eqb}
use Rattle.text_value.proofs.float.exponent_from.Goals as goal

pub returns-then-lead-eq49 : goal.returns-then-lead-eq49
returns-then-lead-eq49 c = (rw (eq-eqb _ _ c.if-lead-eq49.true), omega arith)

pub returns-then-lead-scale : goal.returns-then-lead-scale
returns-then-lead-scale c = (rw (ne_eqb _ _ c.if-lead-eq49.false, ← c.small_scale.ensures, c.if-lead-scale.true), omega arith)

pub returns : goal.returns
returns c = (rw (ne_eqb _ _ c.if-lead-eq49.false, ← c.small_scale.ensures, c.if-lead-scale.false), tt)
