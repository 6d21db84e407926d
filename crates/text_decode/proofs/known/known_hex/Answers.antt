use Prim.Native.Nat.{◌+◌, ◌-◌}
use mathlib.Core.Path.{◌≡◌, ◌∙◌}
use native.Mathlib.Omega.{arith}
use Rattle.text_value.proofs.Fixeds.{fixed-end, power-next, power-most}
use Rattle.text_decode.proofs.Knowns.{hex-turn}
use Rattle.text_decode.proofs.known.known_hex.Goals as goal

pub loop-i-init : goal.loop-i-init
loop-i-init c =
    let a = c.args in
    let e : a.width - 0 ≡ a.width = omega arith in
    let f : a.at + 0 ≡ a.at = omega arith in
    (rw (e, f), omega arith, omega arith)

pub overflow_mul-value : goal.overflow_mul-value
overflow_mul-value c =
    let x = c.loop-i in
    omega (arith, power-most 16 x.i 8 (omega arith) (omega (arith, x.invariant.1, c.requires.0)), x.invariant.2)

pub overflow_add-at : goal.overflow_add-at
overflow_add-at c =
    let x = c.loop-i in
    omega (arith, (hex-turn _ (c.args.width - x.i) x.value c.args.text.now (c.args.at + x.i) x.invariant.0 c.requires.1 (omega arith)).0)

pub bounds-text-at : goal.bounds-text-at
bounds-text-at c =
    let x = c.loop-i in
    (hex-turn _ (c.args.width - x.i) x.value c.args.text.now (c.args.at + x.i) x.invariant.0 c.requires.1 (omega arith)).0

pub hex_digit-requires : goal.hex_digit-requires
hex_digit-requires c =
    let x = c.loop-i in
    (hex-turn _ (c.args.width - x.i) x.value c.args.text.now (c.args.at + x.i) x.invariant.0 c.requires.1 (omega arith)).1

pub overflow_add-value : goal.overflow_add-value
overflow_add-value c =
    let x = c.loop-i in
    let t = hex-turn _ (c.args.width - x.i) x.value c.args.text.now (c.args.at + x.i) x.invariant.0 c.requires.1 (omega arith) in
    omega (arith, power-most 16 x.i 8 (omega arith) (omega (arith, x.invariant.1, c.requires.0)), x.invariant.2, c.hex_digit.ensures, t.1)

pub loop-i-preserved : goal.loop-i-preserved
loop-i-preserved c =
    let x = c.loop-i in
    let a = c.args in
    let t = hex-turn _ (a.width - x.i) x.value a.text.now (a.at + x.i) x.invariant.0 c.requires.1 (omega arith) in
    let e : a.width - x.i - 1 ≡ a.width - (x.i + 1) = omega arith in
    let f : a.at + x.i + 1 ≡ a.at + (x.i + 1) = omega arith in
    let d = c.hex_digit.ensures in
    (t.2 ∙ rw (e, f, d), omega arith, rw (power-next 16 x.i) (omega (arith, x.invariant.2, d, t.1)))

pub overflow_cast-result : goal.overflow_cast-result
overflow_cast-result c =
    let x = c.loop-i in
    omega (arith, power-most 16 x.i 8 (omega arith) (omega (arith, x.invariant.1, c.requires.0)), x.invariant.2)

pub returns : goal.returns
returns c =
    let x = c.loop-i in
    let a = c.args in
    fixed-end _ (a.width - x.i) x.value a.text.now (a.at + x.i) x.invariant.0 (omega arith)
