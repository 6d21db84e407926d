-- `next` is safe: the records of a packet and of a line have four bytes before their own.
use borrow.Author.Rules.{rules}
use Rattle.replay.proofs.Sizes.{receive-size, line-size}
use Rattle.replay.proofs.record.next.Goals as goal

pub slice_bounds-record-count : goal.slice_bounds-record-count
slice_bounds-record-count c = let four = receive-size c.args.s.now c.in-1.is in search rules

pub slice_bounds-record-start : goal.slice_bounds-record-start
slice_bounds-record-start c = let four = receive-size c.args.s.now c.in-1.is in search rules

pub slice_bounds-record-count-in-7 : goal.slice_bounds-record-count-in-7
slice_bounds-record-count-in-7 c = let four = line-size c.args.s.now c.in-7.is in search rules

pub slice_bounds-record-start-in-7 : goal.slice_bounds-record-start-in-7
slice_bounds-record-start-in-7 c = let four = line-size c.args.s.now c.in-7.is in search rules
