use Prim.Native.Nat.{ℕ, ◌+◌}
use mathlib.Core.Path.{◌≡◌, ap, ◌∙◌}
use native.Mathlib.Omega.{arith}
use borrow.Author.Rules.{rules}
use Rattle.list.specs.Limits.{list_limit}
use Rattle.list.specs.RowBytes.{unpacked}
use Rattle.list_rows.specs.Row.{rows_from}
use Rattle.list_rows.specs.Emit.{code_ahead, left_after, size_from}
use Rattle.list_rows.proofs.Sizes.{size-short, size-turn, capped-over, capped_is}
use Rattle.list_rows.proofs.size.measure.Goals as goal

pub loop-i-init : goal.loop-i-init
loop-i-init c = (omega arith, search rules)

pub returns-then-total-gt-LIST_LIMIT : goal.returns-then-total-gt-LIST_LIMIT
returns-then-total-gt-LIST_LIMIT c =
    let x = c.loop-i in
    let rows = unpacked c.args.rows.now in
    let r = c.row_at-row.result in
    let s = size-turn rows x.i (omega arith) r c.row_at-row.ensures x.left in
    capped-over list_limit _ (x.total + c.row_size-total.result)
    (size_from (rows_from rows (x.i + 1)) (left_after x.left (code_ahead (rows_from rows (x.i + 1)) r) r))
    (omega (arith, x.invariant.0, c.row_size-total.ensures.0, s)) c.if-total-gt-LIST_LIMIT.true

pub loop-i-preserved : goal.loop-i-preserved
loop-i-preserved c =
    let x = c.loop-i in
    let rows = unpacked c.args.rows.now in
    let r = c.row_at-row.result in
    let s = size-turn rows x.i (omega arith) r c.row_at-row.ensures x.left in
    let l : c.left_after-left.result ≡ left_after x.left (code_ahead (rows_from rows (x.i + 1)) r) r =
    c.left_after-left.ensures ∙ ap (λ (z : ℕ). left_after x.left z r) c.code_ahead.ensures in
    (rw l (omega (arith, x.invariant.0, c.row_size-total.ensures.0, s)), search rules)

pub returns : goal.returns
returns c =
    let x = c.loop-i in
    capped_is list_limit _ _ _ x.invariant.0 (size-short (unpacked c.args.rows.now) x.i x.left (omega arith)) x.invariant.1
