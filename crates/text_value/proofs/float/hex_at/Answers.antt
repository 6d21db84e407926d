use mathlib.Core.Path.{◌≡◌}
use native.Mathlib.Omega.{arith}
use borrow.Author.Tests.{not-true, not-false}
use Prim.Native.Nat.{◌+◌, ◌-◌}
use lib.ListN.{drop, length-drop}
use lib.Seq.{length-take-le}
use Rattle.text_value.proofs.Decimals.{in_part}
use Rattle.text_value.proofs.Fixeds.{hex-turn, hex-end, hex-bad, power-next, power-most}
use Rattle.text_value.proofs.float.hex_at.Goals as goal

pub loop-c-init : goal.loop-c-init
loop-c-init c =
    let a = c.args in
    let e : a.width - 0 ≡ a.width = omega arith in
    let f : a.at + 0 ≡ a.at = omega arith in
    ((rw (e, f), omega arith), omega arith, omega arith)

pub overflow_mul-value : goal.overflow_mul-value
overflow_mul-value c =
    let x = c.loop-c in
    omega (arith, power-most 16 x.c-index 8 (omega arith) (omega (arith, x.invariant.1, c.requires)), x.invariant.2)

pub overflow_add-value-in-loop-c : goal.overflow_add-value-in-loop-c
overflow_add-value-in-loop-c c =
    let x = c.loop-c in
    let a = c.args in
    let d = length-take-le (a.at + a.width - a.at) (drop a.at a.text.now) (omega (arith, length-drop a.at a.text.now, c.requires)) in
    let q = in_part a.text.now a.at (a.at + a.width - a.at) x.c-index (omega (arith, d, c.loop-c-test.true)) in
    omega (
      arith,
      power-most 16 x.c-index 8 (omega arith) (omega (arith, x.invariant.1, c.requires)),
      x.invariant.2,
      q,
      c.type_inv.text (a.at + x.c-index),
    )

pub loop-c-preserved : goal.loop-c-preserved
loop-c-preserved c =
    let x = c.loop-c in
    let a = c.args in
    let d = length-take-le (a.at + a.width - a.at) (drop a.at a.text.now) (omega (arith, length-drop a.at a.text.now, c.requires)) in
    let q = in_part a.text.now a.at (a.at + a.width - a.at) x.c-index (omega (arith, d, c.loop-c-test.true)) in (
      hex-turn a.text.now a.at a.width x.c-index x.value _ x.good c.is_hex-good.result q x.invariant.0 c.is_hex-good.ensures
          (omega (arith, d, c.loop-c-test.true)) c.requires.0,
      omega (arith, d, c.loop-c-test.true),
      rw (power-next 16 x.c-index) (omega (arith, x.invariant.2, q, c.type_inv.text (a.at + x.c-index))),
    )

pub returns-then-not-good : goal.returns-then-not-good
returns-then-not-good c =
    let x = c.loop-c in
    let a = c.args in
    (hex-bad a.text.now a.at a.width x.c-index x.value x.good x.invariant.0 (not-true x.good c.if-not-good.true-raw), tt)

pub overflow_cast-result : goal.overflow_cast-result
overflow_cast-result c =
    let x = c.loop-c in
    let a = c.args in
    let d = length-take-le (a.at + a.width - a.at) (drop a.at a.text.now) (omega (arith, length-drop a.at a.text.now, c.requires)) in
    let done = hex-end a.text.now a.at a.width x.c-index x.value x.good x.invariant.0 (not-false x.good c.if-not-good.false-raw)
    (omega (arith, d, c.loop-c-test.false)) in
    omega (arith, power-most 16 x.c-index 8 (omega arith) (omega (arith, x.invariant.1, c.requires)), done.1)

pub returns : goal.returns
returns c =
    let x = c.loop-c in
    let a = c.args in
    let d = length-take-le (a.at + a.width - a.at) (drop a.at a.text.now) (omega (arith, length-drop a.at a.text.now, c.requires)) in
    let done = hex-end a.text.now a.at a.width x.c-index x.value x.good x.invariant.0 (not-false x.good c.if-not-good.false-raw)
    (omega (arith, d, c.loop-c-test.false)) in
    (done.0, omega (arith, power-most 16 x.c-index a.width (omega arith) x.invariant.1, done.1))
