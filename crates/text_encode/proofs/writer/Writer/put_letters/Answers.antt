use Prim.Native.Nat.{◌%◌, ◌/◌}
use mathlib.Core.List.{[], ◌∷◌}
use native.Mathlib.Omega.{arith}
use borrow.Author.Rules.{rules}
use Rattle.text.specs.Text.{letters}
use Rattle.text_encode.proofs.Writing.{left-all, left-room, left-next, left-none}
use Rattle.text_encode.proofs.Letters.{letters-more, letters-none}
use Rattle.text_encode.proofs.writer.Writer.put_letters.Goals as goal

pub loop-left-init : goal.loop-left-init
loop-left-init c = (left-all c.args.self.now (letters c.args.bits) c.requires, search rules)

pub put-requires : goal.put-requires
put-requires c =
    let x = c.loop-left in
    left-room (x.left % 256 ∷ []) (letters (x.left / 256)) x.invariant.0 (letters-more x.left x.invariant.1 c.loop-left-test.true)

pub loop-left-smaller : goal.loop-left-smaller
loop-left-smaller c = omega (arith, c.loop-left-test.true)

pub loop-left-preserved : goal.loop-left-preserved
loop-left-preserved c =
    let x = c.loop-left in (
      left-next (x.left % 256 ∷ []) (letters (x.left / 256)) x.invariant.0 (letters-more x.left x.invariant.1 c.loop-left-test.true) c.put.ensures,
      search rules,
    )

pub returns : goal.returns
returns c = left-none c.loop-left.invariant.0 (letters-none c.loop-left.left c.loop-left-test.false)
