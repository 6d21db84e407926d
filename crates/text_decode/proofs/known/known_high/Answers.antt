-- `text_decode::known::known_high` meets its contract.
use Prim.Native.Nat.{◌+◌}
use mathlib.Core.Path.{◌∙◌}
use native.Mathlib.Omega.{arith}
use lib.Dec.{eqb}
use lib.ListN.{get_or}
use Rattle.text_decode.proofs.Knowns.{known_as, known_is, of-got, of_some, same_some, cond-most, float_known, high-known}
use Rattle.text_decode.proofs.known.known_high.Goals as goal

pub overflow_add-at : goal.overflow_add-at
overflow_add-at c =
    let x = float_known c.args.sign c.args.text.now c.args.at c.requires.1 in
    omega (arith, x.room)

pub known_scale-scale-requires : goal.known_scale-scale-requires
known_scale-scale-requires c =
    let x = float_known c.args.sign c.args.text.now c.args.at c.requires.1 in
    of-got x.scale-is

pub overflow_add-at-2 : goal.overflow_add-at-2
overflow_add-at-2 c =
    let x = float_known c.args.sign c.args.text.now c.args.at c.requires.1 in
    omega (arith, x.room)

pub bounds-text-at : goal.bounds-text-at
bounds-text-at c =
    let x = float_known c.args.sign c.args.text.now c.args.at c.requires.1 in
    omega (arith, x.room)

pub overflow_add-at-3 : goal.overflow_add-at-3
overflow_add-at-3 c =
    let x = float_known c.args.sign c.args.text.now c.args.at c.requires.1 in
    omega (arith, x.room)

pub known_hex-fraction-requires : goal.known_hex-fraction-requires
known_hex-fraction-requires c =
    let x = float_known c.args.sign c.args.text.now c.args.at c.requires.1 in
    (omega arith, of_some x.fraction-is)

pub overflow_mul-result-2 : goal.overflow_mul-result-2
overflow_mul-result-2 c =
    let x = float_known c.args.sign c.args.text.now c.args.at c.requires.1 in
    omega (
      arith,
      c.known_exponent-exponent.ensures,
      cond-most (eqb (get_or c.args.text.now (c.args.at + 2) 0) 49) c.known_scale-scale.result.bits 2046
          (omega (arith, x.most, (known_is c.known_scale-scale.ensures x.scale x.k x.scale-is).0)),
    )

pub overflow_add-result : goal.overflow_add-result
overflow_add-result c =
    let x = float_known c.args.sign c.args.text.now c.args.at c.requires.1 in
    omega (
      arith,
      x.small,
      same_some (c.known_hex-fraction.ensures ∙ x.fraction-is),
      c.known_exponent-exponent.ensures,
      cond-most (eqb (get_or c.args.text.now (c.args.at + 2) 0) 49) c.known_scale-scale.result.bits 2046
          (omega (arith, x.most, (known_is c.known_scale-scale.ensures x.scale x.k x.scale-is).0)),
    )

pub overflow_add-result-2 : goal.overflow_add-result-2
overflow_add-result-2 c =
    let x = float_known c.args.sign c.args.text.now c.args.at c.requires.1 in
    omega (
      arith,
      c.requires.0,
      x.small,
      same_some (c.known_hex-fraction.ensures ∙ x.fraction-is),
      c.known_exponent-exponent.ensures,
      cond-most (eqb (get_or c.args.text.now (c.args.at + 2) 0) 49) c.known_scale-scale.result.bits 2046
          (omega (arith, x.most, (known_is c.known_scale-scale.ensures x.scale x.k x.scale-is).0)),
    )

pub returns : goal.returns
returns c =
    let x = float_known c.args.sign c.args.text.now c.args.at c.requires.1 in
    let r = known_is c.known_scale-scale.ensures x.scale x.k x.scale-is in
    known_as _ _ (18 + x.k) c.args.at _ (high-known c.args.sign c.args.text.now c.args.at x)
    (rw (c.known_exponent-exponent.ensures, r.0, same_some (c.known_hex-fraction.ensures ∙ x.fraction-is)))
    (omega (arith, r.1))
