use mathlib.Core.Path.{refl, sym, ◌∙◌}
use mathlib.Core.Logic.{⊎_elim}
use native.Mathlib.Omega.{arith}
use Prim.Native.Nat.{◌+◌, ◌^◌, ◌<◌}
use native.Mathlib.Nat.{mul_comm}
use lib.ListN.{length}
use Rattle.text_value.proofs.Decimals.{in_items}
use Rattle.text_value.proofs.Fixeds.{power-next, power-most}
use Rattle.text_value.proofs.Bounds.{vocab-placed}
use Rattle.text_value.proofs.Letters.{letter-next, vocab-past, vocab-start, vocab-end, vocab-empty, vocab-close, vocab-stop, vocab-turn}
use Rattle.text_value.proofs.letter.vocab_at.Goals as goal

pub returns-in_err-c-items : goal.returns-in_err-c-items
returns-in_err-c-items c =
    let a = c.args in
    rw c.from_residual.ensures (vocab-past a.text.now a.at (⊎_elim (λ h. omega arith) (λ h. omega arith) c.in_err-c-items.ensures.lookup.0), tt)

pub loop-i-init : goal.loop-i-init
loop-i-init c =
    let a = c.args in
    (vocab-start a.text.now a.at, omega arith, refl, omega arith)

pub returns-then-i-eq0 : goal.returns-then-i-eq0
returns-then-i-eq0 c =
    let x = c.loop-i in
    let a = c.args in
    let part = c.in_ok-c-items.ensures.lookup.0 in
    let long : a.at + x.i < length a.text.now = omega (arith, part, c.loop-i-test.true) in
    let q = in_items a.text.now _ a.at x.i part.2 long in
    (vocab-empty _ x.bits x.unit x.i a.at a.text.now x.invariant.0 long (sym q ∙ c.if-c-eq93.true) c.if-i-eq0.true, tt)

pub overflow_cast-result : goal.overflow_cast-result
overflow_cast-result c =
    let x = c.loop-i in
    omega (arith, power-most 256 x.i 4 (omega arith) x.invariant.1, x.invariant.2, x.invariant.3)

pub returns-then-c-eq93 : goal.returns-then-c-eq93
returns-then-c-eq93 c =
    let x = c.loop-i in
    let a = c.args in
    let part = c.in_ok-c-items.ensures.lookup.0 in
    let long : a.at + x.i < length a.text.now = omega (arith, part, c.loop-i-test.true) in
    let q = in_items a.text.now _ a.at x.i part.2 long in
    vocab-placed a.text.now a.at _ (omega arith)
    (vocab-close _ x.bits x.unit x.i a.at a.text.now x.invariant.0 long (sym q ∙ c.if-c-eq93.true) c.if-i-eq0.false)

pub returns-then-i-is_letter : goal.returns-then-i-is_letter
returns-then-i-is_letter c =
    let x = c.loop-i in
    let a = c.args in
    let part = c.in_ok-c-items.ensures.lookup.0 in
    let long : a.at + x.i < length a.text.now = omega (arith, part, c.loop-i-test.true) in
    let q = in_items a.text.now _ a.at x.i part.2 long in
    let other = rw (c.is_letter.ensures, q) at c.if-i-is_letter.true in
    (vocab-stop _ x.bits x.unit x.i a.at a.text.now x.invariant.0 long (λ e. c.if-c-eq93.false (q ∙ e)) other, tt)

pub overflow_mul-bits : goal.overflow_mul-bits
overflow_mul-bits c =
    let x = c.loop-i in
    let a = c.args in
    let part = c.in_ok-c-items.ensures.lookup.0 in
    let long : a.at + x.i < length a.text.now = omega (arith, part, c.loop-i-test.true) in
    let q = in_items a.text.now _ a.at x.i part.2 long in
    let taken = rw (c.is_letter.ensures, q) at c.if-i-is_letter.false in
    let n = letter-next _ x.unit x.i x.invariant.1 taken x.invariant.2 in
    rw q (omega (arith, n))

pub overflow_add-bits : goal.overflow_add-bits
overflow_add-bits c =
    let x = c.loop-i in
    let a = c.args in
    let part = c.in_ok-c-items.ensures.lookup.0 in
    let long : a.at + x.i < length a.text.now = omega (arith, part, c.loop-i-test.true) in
    let q = in_items a.text.now _ a.at x.i part.2 long in
    let taken = rw (c.is_letter.ensures, q) at c.if-i-is_letter.false in
    let n = letter-next _ x.unit x.i x.invariant.1 taken x.invariant.2 in
    rw q (omega (arith, n))

pub overflow_mul-unit : goal.overflow_mul-unit
overflow_mul-unit c =
    let x = c.loop-i in
    let a = c.args in
    let part = c.in_ok-c-items.ensures.lookup.0 in
    let long : a.at + x.i < length a.text.now = omega (arith, part, c.loop-i-test.true) in
    let q = in_items a.text.now _ a.at x.i part.2 long in
    let taken = rw (c.is_letter.ensures, q) at c.if-i-is_letter.false in
    let n = letter-next _ x.unit x.i x.invariant.1 taken x.invariant.2 in
    omega (arith, n)

pub loop-i-preserved : goal.loop-i-preserved
loop-i-preserved c =
    let x = c.loop-i in
    let a = c.args in
    let part = c.in_ok-c-items.ensures.lookup.0 in
    let long : a.at + x.i < length a.text.now = omega (arith, part, c.loop-i-test.true) in
    let q = in_items a.text.now _ a.at x.i part.2 long in
    let taken = rw (c.is_letter.ensures, q) at c.if-i-is_letter.false in
    let n = letter-next _ x.unit x.i x.invariant.1 taken x.invariant.2 in
    rw q (
      vocab-turn _ x.bits x.unit x.i a.at a.text.now x.invariant.0 long (λ e. c.if-c-eq93.false (q ∙ e)) n.0 n.1,
      omega arith,
      rw (power-next 256 x.i, x.invariant.2) (mul_comm (256 ^ x.i) 256),
      omega arith,
    )

pub returns : goal.returns
returns c =
    let x = c.loop-i in
    let a = c.args in
    let part = c.in_ok-c-items.ensures.lookup.0 in
    (vocab-end _ x.bits x.unit x.i a.at a.text.now x.invariant.0 (omega (arith, part, c.loop-i-test.false)), tt)
