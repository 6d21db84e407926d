use native.Mathlib.Omega.{arith}
use lib.ListN.{drop}
use Rattle.text.specs.Read.{chars_at}
use Rattle.text_check.proofs.Spans.{further-start, string-open, string-end, string-wrong, string-turn}
use Rattle.text_check.proofs.span.string_span.Goals as goal

pub loop-i-init : goal.loop-i-init
loop-i-init c = let s = c.args in (omega arith, omega arith, further-start s.at (chars_at 0 (drop s.at s.text.now)))

pub returns-then-text-i-eq34 : goal.returns-then-text-i-eq34
returns-then-text-i-eq34 c = let x = c.loop-i in
    (string-end _ _ x.i x.stored x.invariant.0 x.invariant.2 c.loop-i-test.true c.if-text-i-eq34.true, (omega arith, omega arith))

pub returns-in_err-i : goal.returns-in_err-i
returns-in_err-i c = let x = c.loop-i in
    rw c.from_residual.ensures (string-wrong _ _ x.i x.stored x.invariant.0 x.invariant.2 c.loop-i-test.true c.if-text-i-eq34.false c.in_err-i.ensures.0, tt)

pub overflow_add-i : goal.overflow_add-i
overflow_add-i c = let x = c.loop-i in
    let e = c.in_ok-i.ensures in
    let t = string-turn _ _ x.i x.stored x.invariant.0 x.invariant.2 _ c.loop-i-test.true c.if-text-i-eq34.false e.0 e.1 in
    omega arith

pub loop-i-smaller : goal.loop-i-smaller
loop-i-smaller c = let x = c.loop-i in
    let e = c.in_ok-i.ensures in
    let t = string-turn _ _ x.i x.stored x.invariant.0 x.invariant.2 _ c.loop-i-test.true c.if-text-i-eq34.false e.0 e.1 in
    omega arith

pub loop-i-preserved : goal.loop-i-preserved
loop-i-preserved c = let x = c.loop-i in
    let e = c.in_ok-i.ensures in
    let t = string-turn _ _ x.i x.stored x.invariant.0 x.invariant.2 _ c.loop-i-test.true c.if-text-i-eq34.false e.0 e.1 in
    (omega arith, omega arith, t.2)

pub returns : goal.returns
returns c = let x = c.loop-i in
    (string-open _ _ x.i x.stored x.invariant.0 x.invariant.2 c.loop-i-test.false, tt)
