use mathlib.Core.Path.{sym, ◌∙◌}
use native.Mathlib.Omega.{arith}
use Rattle.setting.proofs.Equal.{part_step, byte-same, byte-differs, none_left}
use Rattle.setting.proofs.same.is_same_from.Goals as goal

pub returns-then-a-i : goal.returns-then-a-i
returns-then-a-i c =
    let a = c.args in
    sym (byte-differs a.a.now a.b.now c.loop-i.i c.if-a-i.true) ∙ c.loop-i.invariant

pub loop-i-preserved : goal.loop-i-preserved
loop-i-preserved c =
    let a = c.args in
    let e = byte-same a.a.now a.b.now c.loop-i.i (omega arith) (omega (arith, c.requires.0)) c.if-a-i.false in
    sym (part_step a.a.now a.b.now c.loop-i.i 1 e) ∙ c.loop-i.invariant

pub returns : goal.returns
returns c =
    let a = c.args in
    sym (none_left a.a.now a.b.now c.loop-i.i (omega arith) (omega (arith, c.requires.0))) ∙ c.loop-i.invariant
