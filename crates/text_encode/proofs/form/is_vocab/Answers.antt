use Prim.Native.Nat.{◌/◌}
use mathlib.Core.Path.{sym, ap, ◌∙◌}
use mathlib.Core.Bool.{Bool, ◌&&◌}
use native.Mathlib.Omega.{arith}
use Rattle.text_encode.proofs.Vocabs.{all_vocab, vocab-turn, vocab-end, no-vocab, vocab-is}
use Rattle.text_encode.proofs.form.is_vocab.Goals as goal

pub returns-then-bits-eq0 : goal.returns-then-bits-eq0
returns-then-bits-eq0 c = no-vocab _ c.if-bits-eq0.true

pub loop-left-init : goal.loop-left-init
loop-left-init c = (vocab-is c.args.bits c.if-bits-eq0.false (omega arith), omega arith)

pub returns-then-not-is_letter : goal.returns-then-not-is_letter
returns-then-not-is_letter c =
    let x = c.loop-left in
    sym (x.invariant.0 ∙ vocab-turn x.left c.loop-left-test.true x.invariant.1
    ∙ ap (λ (b : Bool). b && all_vocab (x.left / 256)) (sym c.is_letter.ensures ∙ c.if-not-is_letter.true))

pub loop-left-preserved : goal.loop-left-preserved
loop-left-preserved c =
    let x = c.loop-left in (
      x.invariant.0 ∙ vocab-turn x.left c.loop-left-test.true x.invariant.1
          ∙ ap (λ (b : Bool). b && all_vocab (x.left / 256)) (sym c.is_letter.ensures ∙ c.if-not-is_letter.false),
      omega (arith, x.invariant.1),
    )

pub returns : goal.returns
returns c = sym (c.loop-left.invariant.0 ∙ vocab-end _ c.loop-left-test.false)
