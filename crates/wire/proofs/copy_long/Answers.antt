use mathlib.Core.Path.{◌≡◌, refl, ap, ◌∙◌}
use native.Mathlib.Omega.{arith}
use lib.ListN.{length, length-drop}
use Rattle.wire.proofs.Buffers.{cut-rest, cut-within, cut-copied, copied_all}
use Rattle.wire.proofs.copy_long.Goals as goal

pub loop-block-init : goal.loop-block-init
loop-block-init c = record { size = cc; rest = cc; within = omega arith; copied = refl }

pub loop-block-preserved : goal.loop-block-preserved
loop-block-preserved c =
    let l = c.loop-block in
    let s = c.in-Some.ensures.steps in
    let w = cut-within c.args.src.now _ _ _ l.at _ l.invariant.within l.invariant.rest s.1.0 refl in
    record {
      size = s.0 ∙ l.invariant.size;
      rest = cut-rest c.args.src.now _ _ _ l.at _ l.invariant.rest s.1.0 refl;
      within = w;
      copied = cut-copied l.dst c.args.src.now _ _ _ _ l.at l.invariant.rest s.1.0 w l.invariant.copied c.copy_block.ensures;
    }

pub returns : goal.returns
returns c =
    let l = c.loop-block in
    let e : length (l.block-iterator.rest.now) ≡ 0 = c.in-None.ensures.steps.1.0 in
    let f = simp length-drop at (ap length l.invariant.rest) in
    copied_all _ _ l.at (omega (arith, e, f)) (l.auto.dst ∙ c.requires) l.invariant.copied
