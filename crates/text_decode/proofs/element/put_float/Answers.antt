-- `text_decode::element::put_float` meets its contract.
use Prim.Native.Nat.{◌+◌}
use mathlib.Core.Path.{refl}
use native.Mathlib.Omega.{arith}
use lib.ListN.{drop}
use Rattle.text.specs.Read.{float_at, float_value}
use Rattle.text_decode.proofs.Knowns.{got-first, float_known, of_some}
use Rattle.text_decode.proofs.Values.{float-put}
use Rattle.text_decode.proofs.element.put_float.Goals as goal

pub overflow_add-at : goal.overflow_add-at
overflow_add-at c =
    let there = got-first (float_at c.args.sign (drop (c.args.x.pos + c.args.sign) c.args.text.now)) float_value c.requires.1.there in
    let x = float_known c.args.sign c.args.text.now (c.args.x.pos + c.args.sign) there in
    omega (arith, x.room)

pub known_high-high-requires : goal.known_high-high-requires
known_high-high-requires c =
    let there = got-first (float_at c.args.sign (drop (c.args.x.pos + c.args.sign) c.args.text.now)) float_value c.requires.1.there in
    (c.requires.0, there)

pub overflow_add-at-2 : goal.overflow_add-at-2
overflow_add-at-2 c =
    let there = got-first (float_at c.args.sign (drop (c.args.x.pos + c.args.sign) c.args.text.now)) float_value c.requires.1.there in
    let x = float_known c.args.sign c.args.text.now (c.args.x.pos + c.args.sign) there in
    omega (arith, x.room)

pub known_hex-requires : goal.known_hex-requires
known_hex-requires c =
    let there = got-first (float_at c.args.sign (drop (c.args.x.pos + c.args.sign) c.args.text.now)) float_value c.requires.1.there in
    let x = float_known c.args.sign c.args.text.now (c.args.x.pos + c.args.sign) there in
    (omega arith, of_some x.low-is)

pub returns : goal.returns
returns c =
    let there = got-first (float_at c.args.sign (drop (c.args.x.pos + c.args.sign) c.args.text.now)) float_value c.requires.1.there in
    let x = float_known c.args.sign c.args.text.now (c.args.x.pos + c.args.sign) there in
    float-put x c.known_high-high.ensures c.known_hex.ensures refl c.put_row.ensures
