-- `text_decode::element::put_number` meets its contract.
use mathlib.Core.Path.{refl, sym, ◌∙◌}
use native.Mathlib.Omega.{arith}
use lib.ListN.{drop}
use Rattle.text.specs.Read.{sign_size}
use Rattle.text_decode.proofs.Knowns.{sign-most, number-inside, number-is-float, number-is-int}
use Rattle.text_decode.proofs.Values.{fixed_same, fixed-here}
use Rattle.text_decode.proofs.element.put_number.Goals as goal

pub known_sign-sign-requires : goal.known_sign-sign-requires
known_sign-sign-requires c =
    let a = c.args in
    omega (arith, number-inside a.text.now a.x.pos (sign_size (drop a.x.pos a.text.now)) refl c.requires.there)

pub overflow_add-x : goal.overflow_add-x
overflow_add-x c =
    let a = c.args in
    omega (arith, number-inside a.text.now a.x.pos c.known_sign-sign.result c.known_sign-sign.ensures c.requires.there)

pub put_float-requires : goal.put_float-requires
put_float-requires c =
    let a = c.args in
    let is = number-is-float a.text.now a.x.pos c.known_sign-sign.result c.known_sign-sign.ensures c.requires.there
    (sym c.is_float.ensures ∙ c.if-is_float.true) in
    (omega (arith, c.known_sign-sign.ensures, sign-most (drop a.x.pos a.text.now)), fixed-here is.0 c.requires)

pub returns-then-is_float : goal.returns-then-is_float
returns-then-is_float c =
    let a = c.args in
    let is = number-is-float a.text.now a.x.pos c.known_sign-sign.result c.known_sign-sign.ensures c.requires.there
    (sym c.is_float.ensures ∙ c.if-is_float.true) in
    fixed_same is.0 c.put_float.ensures

pub put_int-requires : goal.put_int-requires
put_int-requires c =
    let a = c.args in
    let is = number-is-int a.text.now a.x.pos c.known_sign-sign.result c.known_sign-sign.ensures c.requires.there
    (sym c.is_float.ensures ∙ c.if-is_float.false) in
    (c.known_sign-sign.ensures, fixed-here is.0 c.requires)

pub returns : goal.returns
returns c =
    let a = c.args in
    let is = number-is-int a.text.now a.x.pos c.known_sign-sign.result c.known_sign-sign.ensures c.requires.there
    (sym c.is_float.ensures ∙ c.if-is_float.false) in
    fixed_same is.0 c.put_int.ensures
