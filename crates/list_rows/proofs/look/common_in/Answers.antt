use native.Mathlib.Omega.{arith}
use Rattle.list.specs.RowBytes.{unpacked}
use Rattle.list_rows.proofs.Sizes.{common-done, common-turn}
use Rattle.list_rows.proofs.look.common_in.Goals as goal

pub returns-then-left-eq0 : goal.returns-then-left-eq0
returns-then-left-eq0 c =
    let x = c.loop-i in
    common-done _ (unpacked c.args.rows.now) x.i x.left x.seen x.invariant (λ more. absurd (more c.if-left-eq0.true))

pub loop-i-preserved : goal.loop-i-preserved
loop-i-preserved c =
    let x = c.loop-i in
    common-turn _ (unpacked c.args.rows.now) x.i x.left x.seen x.invariant
    _ (omega arith) (omega arith) (rw c.row_at-row.ensures at c.common_code-seen.ensures)

pub returns : goal.returns
returns c =
    let x = c.loop-i in
    common-done _ (unpacked c.args.rows.now) x.i x.left x.seen x.invariant (λ more. omega arith)
