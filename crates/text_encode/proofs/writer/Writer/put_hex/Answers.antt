use Prim.Native.Nat.{◌+◌, ◌≤◌}
use mathlib.Core.Path.{sym, ◌∙◌}
use native.Mathlib.Omega.{arith}
use lib.ListN.{length, length-set}
use borrow.Author.Rules.{rules}
use Rattle.digits.proofs.Fixing.{fixed-length}
use Rattle.text_encode.proofs.Writing.{digit-first, digit-none}
use Rattle.text_encode.proofs.writer.Writer.put_hex.Goals as goal

pub overflow_add-self : goal.overflow_add-self
overflow_add-self c =
    let w = c.args.self.now in
    let room : w.end + c.args.width ≤ length w.text.now = omega (arith, c.requires.fits, fixed-length 16 c.args.width c.args.n) in
    search rules

pub overflow_add-self-in-loop-i : goal.overflow_add-self-in-loop-i
overflow_add-self-in-loop-i c =
    let w = c.args.self.now in
    let room : w.end + c.args.width ≤ length w.text.now = omega (arith, c.requires.fits, fixed-length 16 c.args.width c.args.n) in
    search rules

pub bounds-self-at : goal.bounds-self-at
bounds-self-at c =
    let w = c.args.self.now in
    let room : w.end + c.args.width ≤ length w.text.now = omega (arith, c.requires.fits, fixed-length 16 c.args.width c.args.n) in
    omega arith

pub loop-i-preserved : goal.loop-i-preserved
loop-i-preserved c =
    let x = c.loop-i in (
      x.invariant.0 ∙ digit-first x.self.text.now c.args.self.now.end 16 x.i x.left (omega arith) c.digit.ensures,
      omega arith,
      simp length-set x.invariant.2,
      x.invariant.3,
      x.invariant.4,
    )

pub returns : goal.returns
returns c =
    let x = c.loop-i in
    record {
      same_area = x.invariant.4;
      text = sym (x.invariant.0 ∙ digit-none x.self.text.now c.args.self.now.end 16 x.i x.left (omega arith));
      end = omega (arith, fixed-length 16 c.args.width c.args.n);
    }
