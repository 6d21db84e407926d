use Prim.Native.Nat.{◌+◌, ◌-◌}
use mathlib.Core.Path.{◌≡◌, sym, ◌∙◌}
use native.Mathlib.Omega.{arith}
use Rattle.list_skip.proofs.Ends.{run-next, run_past, run_none}
use Rattle.list_skip.proofs.run_end.Goals as goal

pub returns-then-s-pos : goal.returns-then-s-pos
returns-then-s-pos c =
    sym (run_past c.args.s.now (c.args.n - c.loop-done.done) c.loop-done.pos c.if-s-pos.true) ∙ c.loop-done.invariant

pub loop-done-preserved : goal.loop-done-preserved
loop-done-preserved c =
    let a = c.args in
    let h = c.if-s-pos.false in
    let next : a.n - (c.loop-done.done + 1) ≡ a.n - c.loop-done.done - 1 = omega arith in
    let e = c.u32_at.ensures in
    let n = run-next a.s.now (a.n - c.loop-done.done) c.loop-done.pos (omega arith) h in
    rw (next, e) (n ∙ c.loop-done.invariant)

pub returns : goal.returns
returns c =
    sym (run_none c.args.s.now (c.args.n - c.loop-done.done) c.loop-done.pos (omega arith)) ∙ c.loop-done.invariant
