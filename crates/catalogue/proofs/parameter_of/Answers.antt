-- `catalogue::parameter_of` meets its contract, by its test and the byte.
use mathlib.Core.Path.{ap}
use borrow.Author.Tests.{lt-ltb, le-ltb}
use Rattle.std.specs.Prelude.{Some}
use Rattle.catalogue.specs.Lookup.{parameter_in}
use Rattle.catalogue.specs.declared.Parameter.{Parameter}
use Rattle.catalogue.proofs.parameter_of.Goals as goal

pub returns-then-index-d : goal.returns-then-index-d
unfolding parameter_in
returns-then-index-d c = rw (lt-ltb _ _ c.if-index-d.true, ← c.parameter_byte.ensures) (ap (λ (q : Parameter). Some q) c.describe.ensures)

pub returns : goal.returns
unfolding parameter_in
returns c = rw (le-ltb _ _ c.if-index-d.false)
