-- `output::put_byte` meets its contract: both digits are stored, or none.
use native.Mathlib.Omega.{arith}
use lib.ListN.{length-set}
use borrow.Author.Rules.{rules}
use Rattle.output.proofs.Putting.{put_two, put-no-byte}
use Rattle.output.proofs.put_byte.Goals as goal

pub returns-then-out-lt2 : goal.returns-then-out-lt2
returns-then-out-lt2 c =
    let a = c.args in
    put-no-byte a.out.now a.used a.b (omega arith)

pub returns-then-out-used : goal.returns-then-out-used
returns-then-out-used c =
    let a = c.args in
    put-no-byte a.out.now a.used a.b (omega arith)

pub bounds-out-used-2 : goal.bounds-out-used-2
bounds-out-used-2 c = simp length-set (search rules)

pub returns : goal.returns
returns c =
    let a = c.args in
    put_two a.out.now a.used a.b _ _ (search rules) (omega arith) c.digit.ensures c.digit-2.ensures
