use mathlib.Core.Path.{◌≡◌, refl, ◌∙◌}
use native.Mathlib.Omega.{arith}
use Rattle.catalogue.proofs.Bytes.{no-bytes, fill_none, filled}
use Rattle.catalogue.proofs.parameter_bytes.Goals as goal

pub loop-p-init : goal.loop-p-init
loop-p-init c = (refl, fill_none c.bytes_behind-rest.result.now)

pub returns-after-loop-p : goal.returns-after-loop-p
returns-after-loop-p c =
    let l = c.loop-p in
    let m = c.min-most.ensures in
    let n = c.min-count.ensures in
    let e : l.p ≡ c.min-count.result = omega (arith, l.auto, c.loop-p-test.false) in
    rw c.in-Some.is
    record {
      all = l.invariant.0;
      each = λ p h. l.invariant.1 p ∙ rw e (filled c.args.s.now c.in-Some.d c.bytes_behind-rest.result.now c.min-count.result c.bytes_behind-rest.ensures (rw m at n) p h);
    }

pub returns-in_default : goal.returns-in_default
returns-in_default c = rw c.in_default.is (no-bytes c.args.s.now)
