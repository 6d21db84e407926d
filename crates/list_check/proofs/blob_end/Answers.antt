-- `list_check::blob_end` meets its contract.
use Prim.Native.Nat.{◌+◌}
use borrow.Author.Tests.{le-leb, lt-leb}
use Rattle.list.specs.Parse.{value_at, blob_at}
use Rattle.list_check.proofs.Told.{told-end, item-missing, there}
use borrow.Author.Rules.{rules}
use Rattle.list_check.proofs.blob_end.Goals as goal

pub returns-then-length-ge-NEGATIVE : goal.returns-then-length-ge-NEGATIVE
unfolding value_at blob_at
returns-then-length-ge-NEGATIVE c =
    let a = c.args in
    let p = c.requires in
    rw (there a.s.now a.at 4 p.1 p.0, ← c.u32_at-length.ensures, le-leb _ _ c.if-length-ge-NEGATIVE.true) c.refuse.ensures

pub returns-then-s-first : goal.returns-then-s-first
unfolding value_at blob_at
returns-then-s-first c =
    let a = c.args in
    let p = c.requires in
    rw (there a.s.now a.at 4 p.1 p.0, ← c.u32_at-length.ensures, lt-leb _ _ c.if-length-ge-NEGATIVE.false)
    (rw (item-missing a.s.now (a.at + 4) c.u32_at-length.result _ c.if-s-first.true) c.missing.ensures)

pub returns : goal.returns
unfolding value_at blob_at
returns c =
    let a = c.args in
    let p = c.requires in
    rw (there a.s.now a.at 4 p.1 p.0, ← c.u32_at-length.ensures, lt-leb _ _ c.if-length-ge-NEGATIVE.false, there a.s.now (a.at + 4) c.u32_at-length.result p.1 c.if-s-first.false)
    (told-end _ (search rules))
