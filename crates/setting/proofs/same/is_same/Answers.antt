use Prim.Native.Nat.{◌+◌, ◌-◌}
use mathlib.Core.Path.{sym, ◌∙◌}
use native.Mathlib.Omega.{arith}
use lib.ListN.{length}
use Rattle.wire.proofs.Numbers.{part-number}
use Rattle.wire.proofs.ByteLists.{all-bytes}
use Rattle.setting.proofs.Equal.{differ, part_step, word-differs, word_same}
use Rattle.setting.proofs.same.is_same.Goals as goal

pub returns-then-a-b : goal.returns-then-a-b
returns-then-a-b c =
    let a = c.args in
    sym (differ length a.a.now a.b.now c.if-a-b.true)

pub returns-then-u64_at : goal.returns-then-u64_at
returns-then-u64_at c =
    let a = c.args in
    let x = c.u64_at.ensures ∙ part-number 8 (c.loop-i.i + 8 - c.loop-i.i) a.a.now c.loop-i.i (omega arith) in
    let y = c.u64_at-in-loop-i.ensures ∙ part-number 8 (c.loop-i.i + 8 - c.loop-i.i) a.b.now c.loop-i.i (omega arith) in
    sym (word-differs a.a.now a.b.now c.loop-i.i 8 (λ e. c.if-u64_at.true (x ∙ e ∙ sym y))) ∙ c.loop-i.invariant.0

pub loop-i-preserved : goal.loop-i-preserved
loop-i-preserved c =
    let a = c.args in
    let t = c.loop-i-test.true in
    let one = c.if-a-b.false in
    let x = c.u64_at.ensures ∙ part-number 8 (c.loop-i.i + 8 - c.loop-i.i) a.a.now c.loop-i.i (omega arith) in
    let y = c.u64_at-in-loop-i.ensures ∙ part-number 8 (c.loop-i.i + 8 - c.loop-i.i) a.b.now c.loop-i.i (omega arith) in
    let e = word_same a.a.now a.b.now c.loop-i.i 8 (all-bytes a.a.now (λ k. omega (arith, c.type_inv.a k)))
    (all-bytes a.b.now (λ k. omega (arith, c.type_inv.b k))) (omega arith) (omega arith) (sym x ∙ c.if-u64_at.false ∙ y) in
    (sym (part_step a.a.now a.b.now c.loop-i.i 8 e) ∙ c.loop-i.invariant.0, omega arith)

pub returns : goal.returns
returns c = c.is_same_from.ensures ∙ c.loop-i.invariant.0
