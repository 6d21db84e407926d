use mathlib.Core.Path.{refl, ◌∙◌}
use native.Mathlib.Omega.{arith}
use Rattle.wire.specs.Zero.{has_zero}
use Rattle.wire.proofs.Buffers.{cut-rest, cut-within}
use Rattle.wire.proofs.Zeros.{stride-none, zero-searched, zero-unfound}
use Rattle.wire.proofs.zero_at.Goals as goal

pub loop-stride-init : goal.loop-stride-init
unfolding has_zero
loop-stride-init c = record { size = cc; rest = cc; within = omega arith; none = refl }

pub overflow_add-passed : goal.overflow_add-passed
overflow_add-passed c =
    let l = c.loop-stride in
    let s = c.in-Some.ensures.steps in
    let w = cut-within c.args.s.now _ _ _ l.passed 32 l.invariant.within l.invariant.rest s.1.0 (s.1.1 ∙ l.invariant.size) in
    omega arith

pub loop-stride-preserved : goal.loop-stride-preserved
loop-stride-preserved c =
    let l = c.loop-stride in
    let s = c.in-Some.ensures.steps in
    record {
      size = s.0 ∙ l.invariant.size;
      rest = cut-rest c.args.s.now _ _ _ l.passed 32 l.invariant.rest s.1.0 (s.1.1 ∙ l.invariant.size);
      within = cut-within c.args.s.now _ _ _ l.passed 32 l.invariant.within l.invariant.rest s.1.0 (s.1.1 ∙ l.invariant.size);
      none = stride-none c.args.s.now _ _ _ l.passed 32 l.invariant.none l.invariant.rest s.1.0 (s.1.1 ∙ l.invariant.size) (cc);
    }

pub slice_bounds-first_zero-count : goal.slice_bounds-first_zero-count
slice_bounds-first_zero-count c = c.loop-stride.invariant.within

pub returns-in-Some-first_zero : goal.returns-in-Some-first_zero
returns-in-Some-first_zero c =
    let l = c.loop-stride in
    zero-searched c.args.s.now l.passed _ l.invariant.within l.invariant.none c.in-Some-first_zero.ensures

pub returns-in-None-first_zero : goal.returns-in-None-first_zero
returns-in-None-first_zero c =
    let l = c.loop-stride in
    zero-unfound c.args.s.now l.passed l.invariant.within l.invariant.none c.in-None-first_zero.ensures
