-- `output::flush` meets its contract: what is in use is part of the buffer, or nothing is handed over.
use mathlib.Core.Path.{sym}
use lib.Seq.{length-take-le}
use borrow.Author.Tests.{le-leb, lt-leb}
use Rattle.output.proofs.flush.Goals as goal

pub returns-then-out-used : goal.returns-then-out-used
returns-then-out-used c = rw (lt-leb _ _ c.if-out-used.true)

pub slice_bounds-write_all-end : goal.slice_bounds-write_all-end
slice_bounds-write_all-end c = sym (length-take-le _ _ c.if-out-used.false)

pub returns : goal.returns
returns c = rw (le-leb _ _ c.if-out-used.false)
