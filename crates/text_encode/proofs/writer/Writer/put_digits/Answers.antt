use Prim.Native.Nat.{◌+◌, ◌≤◌}
use mathlib.Core.Path.{sym, ◌∙◌}
use native.Mathlib.Omega.{arith}
use lib.ListN.{length, length-set}
use borrow.Author.Rules.{rules}
use Rattle.digits.proofs.Fixing.{fixed-length}
use Rattle.text_encode.proofs.Writing.{digits-first, digit-only, digit-none}
use Rattle.text_encode.proofs.writer.Writer.put_digits.Goals as goal

pub overflow_add-self : goal.overflow_add-self
overflow_add-self c =
    let w = c.args.self.now in
    let room : w.end + c.args.count ≤ length w.text.now = omega (arith, c.requires.fits, fixed-length 10 c.args.count c.args.n) in
    search rules

pub overflow_add-self-in-loop-i : goal.overflow_add-self-in-loop-i
overflow_add-self-in-loop-i c =
    let w = c.args.self.now in
    let room : w.end + c.args.count ≤ length w.text.now = omega (arith, c.requires.fits, fixed-length 10 c.args.count c.args.n) in
    search rules

pub bounds-self-at : goal.bounds-self-at
bounds-self-at c =
    let w = c.args.self.now in
    let room : w.end + c.args.count ≤ length w.text.now = omega (arith, c.requires.fits, fixed-length 10 c.args.count c.args.n) in
    omega arith

pub overflow_add-self-in-loop-i-2 : goal.overflow_add-self-in-loop-i-2
overflow_add-self-in-loop-i-2 c =
    let w = c.args.self.now in
    let room : w.end + c.args.count ≤ length w.text.now = omega (arith, c.requires.fits, fixed-length 10 c.args.count c.args.n) in
    search rules

pub bounds-self-at-in-loop-i : goal.bounds-self-at-in-loop-i
bounds-self-at-in-loop-i c =
    let w = c.args.self.now in
    let room : w.end + c.args.count ≤ length w.text.now = omega (arith, c.requires.fits, fixed-length 10 c.args.count c.args.n) in
    simp length-set (omega arith)

pub loop-i-preserved : goal.loop-i-preserved
loop-i-preserved c =
    let x = c.loop-i in (
      x.invariant.0 ∙ digits-first x.self.text.now c.args.self.now.end x.i x.left c.loop-i-test.true c.digit.ensures c.digit-in-loop-i.ensures,
      omega arith,
      simp length-set x.invariant.2,
      x.invariant.3,
      x.invariant.4,
    )

pub returns-then-i-eq1 : goal.returns-then-i-eq1
returns-then-i-eq1 c =
    let x = c.loop-i in
    record {
      same_area = x.invariant.4;
      text = sym (x.invariant.0 ∙ digit-only x.self.text.now c.args.self.now.end x.i x.left c.if-i-eq1.true c.digit-then-i-eq1.ensures);
      end = omega (arith, fixed-length 10 c.args.count c.args.n);
    }

pub returns-else-i-eq1 : goal.returns-else-i-eq1
returns-else-i-eq1 c =
    let x = c.loop-i in
    let none : x.i ≤ 0 = omega (arith, c.loop-i-test.false, c.if-i-eq1.false) in
    record {
      same_area = x.invariant.4;
      text = sym (x.invariant.0 ∙ digit-none x.self.text.now c.args.self.now.end 10 x.i x.left none);
      end = omega (arith, fixed-length 10 c.args.count c.args.n);
    }
