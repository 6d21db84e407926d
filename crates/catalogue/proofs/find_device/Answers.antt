use Prim.Native.Nat.{◌+◌, ◌-◌}
use mathlib.Core.Path.{◌≡◌, refl, ◌∙◌}
use native.Mathlib.Omega.{arith}
use borrow.Author.Tests.{eq-eqb, ne_eqb}
use Rattle.catalogue.specs.Format.{parameters_before}
use Rattle.catalogue.specs.Lookup.{device_from}
use Rattle.catalogue.proofs.Steps.{device-step, parameters-more}
use Rattle.catalogue.proofs.find_device.Goals as goal

pub loop-i-init : goal.loop-i-init
unfolding parameters_before
loop-i-init c =
    let n = c.number_at-n.result in
    let e : n - 0 ≡ n = omega arith in
    (refl, omega arith, rw e)

pub returns-then-byte_at-number : goal.returns-then-byte_at-number
returns-then-byte_at-number c =
    rw (
      ← c.number_at-n.ensures.0,
      c.loop-i.invariant.2,
      device-step (c.number_at-n.result - c.loop-i.i) _ _ _ (omega arith),
      ← c.byte_at.ensures,
      eq-eqb _ _ c.if-byte_at-number.true,
      ← c.loop-i.invariant.0,
      ← c.number_at-count.ensures.0,
    )

pub loop-i-preserved : goal.loop-i-preserved
loop-i-preserved c =
    let n = c.number_at-n.result in
    let i = c.loop-i.i in
    let e : n - i - 1 ≡ n - (i + 1) = omega arith in (
      rw (parameters-more, ← c.number_at-count.ensures.0, ← c.loop-i.invariant.0),
      omega arith,
      c.loop-i.invariant.2 ∙ rw (
        device-step (n - i) _ _ _ (omega arith),
        ← c.byte_at.ensures,
        ne_eqb _ _ c.if-byte_at-number.false,
        e,
      ),
    )

pub returns : goal.returns
unfolding device_from
returns c =
    let n = c.number_at-n.result in
    let z : n - c.loop-i.i ≡ 0 = omega arith in
    rw (← c.number_at-n.ensures.0, c.loop-i.invariant.2, z)
