-- `parameters::data::Layout::judge` meets its contract, by the tests that lead to each answer.
use borrow.Author.Tests.{eq-eqb, ne_eqb}
use Rattle.parameters.specs.Data.{judged}
use Rattle.parameters.proofs.data.Layout.judge.Goals as goal

pub returns-then-not-are_readable : goal.returns-then-not-are_readable
unfolding judged
returns-then-not-are_readable c k s g =
    let readable = c.if-not-are_readable.ensures k s g in
    rw (← c.u32_at-map.ensures, ← readable)

pub returns-then-size_of-payload : goal.returns-then-size_of-payload
unfolding judged
returns-then-size_of-payload c k s g =
    let readable = c.if-not-are_readable.ensures k s g in
    let size = c.size_of.ensures k s g in
    rw (← c.u32_at-map.ensures, ← readable, ← size, ne_eqb _ _ c.if-size_of-payload.true)

pub returns-then-not-are_flags : goal.returns-then-not-are_flags
unfolding judged
returns-then-not-are_flags c k s g =
    let readable = c.if-not-are_readable.ensures k s g in
    let size = c.size_of.ensures k s g in
    let flags = c.if-not-are_flags.ensures k s g in
    rw (← c.u32_at-map.ensures, ← readable, ← size, eq-eqb _ _ c.if-size_of-payload.false, ← flags)

pub returns : goal.returns
unfolding judged
returns c k s g =
    let readable = c.if-not-are_readable.ensures k s g in
    let size = c.size_of.ensures k s g in
    let flags = c.if-not-are_flags.ensures k s g in
    rw (← c.u32_at-map.ensures, ← readable, ← size, eq-eqb _ _ c.if-size_of-payload.false, ← flags)
