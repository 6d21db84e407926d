-- `slot::read::is_row` meets its contract: the length and the first flag are judged, then the flags.
use lib.ListN.{length, get_or}
use borrow.Author.Tests.{eq-eqb, ne_eqb, le-leb, lt-leb}
use Rattle.slot.specs.Row.{slot_size, is_row}
use Rattle.slot.proofs.read.is_row.Goals as goal

pub returns-then-row-le1 : goal.returns-then-row-le1
unfolding is_row
returns-then-row-le1 c =
    let k = c.in-Some.ensures.cases in
    let row = c.in-Some.row.now in
    rw (eq-eqb (length c.args.row.now) slot_size k.long, ← k.same, le-leb (get_or row 0 0) 1 c.if-row-le1.true) c.are_flags.ensures

pub returns-else-row-le1 : goal.returns-else-row-le1
unfolding is_row
returns-else-row-le1 c =
    let k = c.in-Some.ensures.cases in
    let row = c.in-Some.row.now in
    rw (eq-eqb (length c.args.row.now) slot_size k.long, ← k.same, lt-leb (get_or row 0 0) 1 c.if-row-le1.false)

pub returns-in-None : goal.returns-in-None
unfolding is_row
returns-in-None c = rw (ne_eqb (length c.args.row.now) slot_size c.in-None.ensures.cases)
