use mathlib.Core.Bool.{true}
use native.Mathlib.Omega.{arith}
use lib.ListN.{drop}
use Rattle.text.specs.Read.{bytes_at}
use Rattle.text_check.proofs.Spans.{further-start, blob-open, blob-end, blob-wrong, blob-turn}
use Rattle.text_check.proofs.span.blob_span.Goals as goal

pub loop-i-init : goal.loop-i-init
loop-i-init c = let s = c.args in (omega arith, omega arith, further-start s.at (bytes_at true 0 (drop s.at s.text.now)))

pub returns-then-text-i-eq125 : goal.returns-then-text-i-eq125
returns-then-text-i-eq125 c = let x = c.loop-i in
    (blob-end _ _ x.i x.stored x.invariant.0 x.invariant.2 c.loop-i-test.true c.if-text-i-eq125.true, (omega arith, omega arith))

pub returns-in_err-i : goal.returns-in_err-i
returns-in_err-i c = let x = c.loop-i in
    rw c.from_residual.ensures (blob-wrong _ _ x.i x.stored x.invariant.0 x.invariant.2 c.loop-i-test.true c.if-text-i-eq125.false c.in_err-i.ensures.0, tt)

pub overflow_add-i : goal.overflow_add-i
overflow_add-i c = let x = c.loop-i in
    let e = c.in_ok-i.ensures in
    let t = blob-turn _ _ x.i x.stored x.invariant.0 x.invariant.2 _ c.loop-i-test.true c.if-text-i-eq125.false e.0 e.1 in
    omega arith

pub loop-i-smaller : goal.loop-i-smaller
loop-i-smaller c = let x = c.loop-i in
    let e = c.in_ok-i.ensures in
    let t = blob-turn _ _ x.i x.stored x.invariant.0 x.invariant.2 _ c.loop-i-test.true c.if-text-i-eq125.false e.0 e.1 in
    omega arith

pub loop-i-preserved : goal.loop-i-preserved
loop-i-preserved c = let x = c.loop-i in
    let e = c.in_ok-i.ensures in
    let t = blob-turn _ _ x.i x.stored x.invariant.0 x.invariant.2 _ c.loop-i-test.true c.if-text-i-eq125.false e.0 e.1 in
    (omega arith, omega arith, t.2)

pub returns : goal.returns
returns c = let x = c.loop-i in
    (blob-open _ _ x.i x.stored x.invariant.0 x.invariant.2 c.loop-i-test.false, tt)
