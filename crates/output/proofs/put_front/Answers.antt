-- `output::put_front` meets its contract: the bytes are part of the list, or nothing is put.
use mathlib.Core.Path.{sym}
use native.Mathlib.Omega.{arith}
use lib.ListN.{length}
use lib.Seq.{length-take-le}
use borrow.Author.Tests.{le-leb, lt-leb}
use Rattle.output.proofs.put_front.Goals as goal

pub slice_bounds-put_bytes-end : goal.slice_bounds-put_bytes-end
slice_bounds-put_bytes-end c = sym (length-take-le _ _ (omega arith))

pub returns-then-n-list : goal.returns-then-n-list
returns-then-n-list c =
    let a = c.args in
    rw (le-leb a.n (length a.list.now) (omega arith)) c.put_bytes.ensures

pub returns : goal.returns
returns c =
    let a = c.args in
    rw (lt-leb a.n (length a.list.now) (omega arith))
