use Prim.Native.Nat.{◌-◌, ◌^◌, ◌<◌}
use mathlib.Core.Path.{refl, sym, ap, ◌∙◌}
use native.Mathlib.Omega.{arith}
use Rattle.wire.proofs.ByteLists.{all-bytes}
use Rattle.list.specs.Limits.{list_limit}
use Rattle.list_skip.specs.declared.Stride.{Stride}
use Rattle.list_skip.proofs.Ends.{stride-forward, opens_small, skip-next, skip-past, skip-none}
use Rattle.list_skip.proofs.skip_in.Goals as goal

pub loop-left-init : goal.loop-left-init
loop-left-init c =
    let small : c.args.n < 2 ^ 32 = omega arith in
    record { steps = list_limit; enough = omega (arith, c.requires); few = omega (arith, small); same = refl }

pub returns-then-s-pos : goal.returns-then-s-pos
returns-then-s-pos c =
    let g = c.loop-left.invariant in
    sym (skip-past c.args.s.now g.steps c.loop-left.left c.loop-left.pos c.if-s-pos.true) ∙ g.same

-- the elements that an stride opens are a number
pub overflow_add-left : goal.overflow_add-left
overflow_add-left c =
    let s = c.args.s.now in
    let all = all-bytes s (λ j. omega (arith, c.type_inv.s j)) in
    let o = opens_small s c.loop-left.pos all in
    record { fits = omega (arith, o, ap (λ (x : Stride). x.opens) c.stride_at-i.ensures, c.loop-left.invariant.few, c.if-s-pos.false, c.requires) }

pub loop-left-smaller : goal.loop-left-smaller
loop-left-smaller c =
    omega (arith, stride-forward c.args.s.now c.loop-left.pos, ap (λ (x : Stride). x.next) c.stride_at-i.ensures, c.if-s-pos.false)

pub loop-left-preserved : goal.loop-left-preserved
loop-left-preserved c =
    let s = c.args.s.now in
    let g = c.loop-left.invariant in
    let h = c.if-s-pos.false in
    let all = all-bytes s (λ j. omega (arith, c.type_inv.s j)) in
    let o = opens_small s c.loop-left.pos all in
    let f = stride-forward s c.loop-left.pos in
    let next = ap (λ (x : Stride). x.next) c.stride_at-i.ensures in
    let opens = ap (λ (x : Stride). x.opens) c.stride_at-i.ensures in
    let e = skip-next s g.steps c.loop-left.left c.loop-left.pos c.loop-left-test.true h (omega (arith, g.enough, h)) in
    record {
      steps = g.steps - 1;
      enough = omega (arith, g.enough, f, next, h);
      few = omega (arith, g.few, o, opens, f, next);
      same = rw (next, opens) (e ∙ g.same);
    }

pub returns : goal.returns
returns c =
    let g = c.loop-left.invariant in
    sym (skip-none c.args.s.now g.steps c.loop-left.left c.loop-left.pos c.loop-left-test.false) ∙ g.same
