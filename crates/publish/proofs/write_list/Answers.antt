-- `publish::write_list` meets its contract. There is room for the list: it never passes 3,752 bytes.
use native.Mathlib.Omega.{arith}
use borrow.Author.Tests.{lt-ltb, le-ltb}
use Rattle.publish.specs.Outcome.{written_of}
use Rattle.publish.proofs.Size.{published-size}
use Rattle.publish.proofs.write_list.Goals as goal

pub returns-then-buffer-lt-LIST_LIMIT : goal.returns-then-buffer-lt-LIST_LIMIT
unfolding written_of
returns-then-buffer-lt-LIST_LIMIT c = rw (lt-ltb _ _ c.if-buffer-lt-LIST_LIMIT.true)

pub put_list-requires : goal.put_list-requires
put_list-requires c =
    let a = c.args in
    omega (arith, published-size a.catalogue.now a.table.now, c.if-buffer-lt-LIST_LIMIT.false)

pub returns : goal.returns
unfolding written_of
returns c = let x = c.put_list.ensures in rw (le-ltb _ _ c.if-buffer-lt-LIST_LIMIT.false, x.0, x.1)
