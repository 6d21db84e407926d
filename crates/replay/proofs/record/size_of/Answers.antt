-- `size_of` is `record_size`, one arm for each record.
use Rattle.std.proofs.Common.{◌≢◌, arith}
use borrow.Author.Tests.{ne_eqb}
use Rattle.replay.specs.Record.{record_size}
use Rattle.replay.proofs.record.size_of.Goals as goal

pub returns-in-1 : goal.returns-in-1
unfolding record_size
returns-in-1 c = rw (← c.byte_at.ensures, c.in-1.is, ← c.u16_at.ensures)

pub returns-in-2 : goal.returns-in-2
unfolding record_size
returns-in-2 c = rw (← c.byte_at.ensures, c.in-2.is)

pub returns-in-3 : goal.returns-in-3
unfolding record_size
returns-in-3 c = rw (← c.byte_at.ensures, c.in-3.is)

pub returns-in-4 : goal.returns-in-4
unfolding record_size
returns-in-4 c = rw (← c.byte_at.ensures, c.in-4.is)

pub returns-in-5 : goal.returns-in-5
unfolding record_size
returns-in-5 c = rw (← c.byte_at.ensures, c.in-5.is)

pub returns-in-6 : goal.returns-in-6
unfolding record_size
returns-in-6 c = rw (← c.byte_at.ensures, c.in-6.is)

pub returns-in-7 : goal.returns-in-7
unfolding record_size
returns-in-7 c = rw (← c.byte_at.ensures, c.in-7.is, ← c.u16_at-in-7.ensures)

pub returns-in_default : goal.returns-in_default
unfolding record_size
returns-in_default c =
    let k = c.byte_at.result in
    let not-1 : k ≢ 1 = omega arith in
    let not-2 : k ≢ 2 = omega arith in
    let not-3 : k ≢ 3 = omega arith in
    let not-4 : k ≢ 4 = omega arith in
    let not-5 : k ≢ 5 = omega arith in
    let not-6 : k ≢ 6 = omega arith in
    let not-7 : k ≢ 7 = omega arith in
    rw (
      ← c.byte_at.ensures,
      ne_eqb _ _ not-1,
      ne_eqb _ _ not-2,
      ne_eqb _ _ not-3,
      ne_eqb _ _ not-4,
      ne_eqb _ _ not-5,
      ne_eqb _ _ not-6,
      ne_eqb _ _ not-7,
    )
