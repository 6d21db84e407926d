use Prim.Native.Nat.{ℕ}
use mathlib.Core.Path.{ap, ◌∙◌}
use native.Mathlib.Omega.{arith}
use lib.Bits.{bit_xor}
use lib.ListN.{get_or}
use borrow.Author.Rules.{rules}
use Rattle.packet.proofs.Zeros.{zero-at}
use Rattle.packet.proofs.Walks.{walk_start, walk-next, sum-next, walk_end}
use Rattle.packet.proofs.cobs.walk.Goals as goal

pub loop-i-init : goal.loop-i-init
loop-i-init c = (walk_start c.args.part.now, c.requires.2)

pub loop-i-smaller : goal.loop-i-smaller
loop-i-smaller c = omega (arith, zero-at c.args.part.now c.loop-i.i c.requires.1 (search rules))

pub loop-i-preserved : goal.loop-i-preserved
loop-i-preserved c =
    let e = c.args.part.now in
    let w = c.loop-i.invariant in
    let p = zero-at e c.loop-i.i c.requires.1 (search rules) in (
      walk-next e c.loop-i.i w.0 (search rules) p,
      ap (λ (x : ℕ). bit_xor x (get_or e c.loop-i.i 0)) w.1 ∙ sum-next e c.loop-i.i w.0 (search rules) p,
    )

pub returns : goal.returns
returns c = let r = walk_end c.args.part.now c.loop-i.i c.loop-i.invariant.0 c.loop-i-test.false in
    (r.0, c.loop-i.invariant.1 ∙ r.1)
