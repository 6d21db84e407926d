-- `publish::parameter::put_parameter` meets its contract, case by case of the value. A float that is no NaN may be cast.
use mathlib.Core.Path.{sym, ap, ◌∙◌}
use mathlib.Core.Bool.{not}
use native.Mathlib.Omega.{arith}
use lib.Ieee.{binary64, to_bits, fits, is_nan}
use lib.Ieee.Fits.{fits_widens, and_i}
use mir.Facts.{to_z-of_z}
use mir.Syntax.{w32}
use mir.Val.{of_z, SFits}
use borrow.Author.Rules.{rules}
use Rattle.list.specs.Tree.{int}
use Rattle.publish.specs.Published.{double, element_of}
use Rattle.publish.specs.Put.{NoNan}
use Rattle.publish.proofs.Pieces.{int-size, double-size, put-value}
use Rattle.publish.proofs.parameter.put_parameter.Goals as goal

pub put_int_pair-requires : goal.put_int_pair-requires
unfolding element_of
put_int_pair-requires c =
    let e = int-size c.args.index _ (element_of c.args.v) (ap element_of c.in-Int.is) in
    omega (arith, e, c.requires.1)

pub float_to_float-x : goal.float_to_float-x
unfolding NoNan
float_to_float-x c =
    let x = c.in-Float.x in
    and_i (fits binary64 x) (not (is_nan x)) (fits_widens x c.row_known-1.given) (rw c.in-Float.is at c.requires.0)

pub float_to_bits-x : goal.float_to_bits-x
unfolding NoNan
float_to_bits-x c = rw c.in-Float.is at c.requires.0

pub put_double_pair-requires : goal.put_double_pair-requires
unfolding element_of
put_double_pair-requires c =
    let e = double-size c.args.index _ (element_of c.args.v) (ap element_of c.in-Float.is) in
    omega (arith, e, c.requires.1)

pub put_int_pair-requires-in-Bool : goal.put_int_pair-requires-in-Bool
unfolding element_of
put_int_pair-requires-in-Bool c =
    let e = int-size c.args.index _ (element_of c.args.v) (ap element_of c.in-Bool.is) in
    omega (arith, e, c.requires.1)

pub put_double_pair-requires-in-Nan : goal.put_double_pair-requires-in-Nan
unfolding element_of
put_double_pair-requires-in-Nan c =
    let e = double-size c.args.index _ (element_of c.args.v) (ap element_of c.in-Nan.is) in
    omega (arith, e, c.requires.1)

pub returns-in-Int : goal.returns-in-Int
unfolding element_of
returns-in-Int c =
    let a = c.args in
    let z = c.in-Int.i in
    let h : SFits w32 z = search rules in
    put-value a.index (int c.int_bits.result) (element_of a.v)
    (ap int (c.int_bits.ensures ∙ ap (of_z w32) (to_z-of_z h)) ∙ sym (ap element_of c.in-Int.is))
    c.put_int_pair.ensures

pub returns-in-Float : goal.returns-in-Float
unfolding element_of
returns-in-Float c =
    let a = c.args in
    put-value a.index (double (to_bits binary64 c.in-Float.x)) (element_of a.v)
    (sym (ap element_of c.in-Float.is))
    c.put_double_pair.ensures

pub returns-in-Bool : goal.returns-in-Bool
unfolding element_of
returns-in-Bool c =
    let a = c.args in
    put-value a.index (int c.flag_bits.result) (element_of a.v)
    (ap int c.flag_bits.ensures ∙ sym (ap element_of c.in-Bool.is))
    c.put_int_pair-in-Bool.ensures

pub returns-in-Nan : goal.returns-in-Nan
unfolding element_of
returns-in-Nan c =
    let a = c.args in
    put-value a.index (double c.widen.result) (element_of a.v)
    (ap double c.widen.ensures ∙ sym (ap element_of c.in-Nan.is))
    c.put_double_pair-in-Nan.ensures
