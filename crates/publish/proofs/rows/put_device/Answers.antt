-- `publish::rows::put_device` meets its contract: the parameters, and then the front of the row before them.
use native.Mathlib.Omega.{arith}
use Rattle.publish.proofs.Pieces.{device-size, device-put}
use Rattle.publish.proofs.rows.put_device.Goals as goal

pub put_parameters-x-requires : goal.put_parameters-x-requires
put_parameters-x-requires c = let a = c.args in omega (arith, device-size a.c.now a.s, c.requires)

pub put_front-requires : goal.put_front-requires
put_front-requires c =
    let a = c.args in
    let x = c.put_parameters-x in
    (omega (arith, device-size a.c.now a.s, c.requires, x.auto), x.ensures.2)

pub returns : goal.returns
returns c =
    let a = c.args in
    let x = c.put_parameters-x.ensures in
    device-put a.c.now a.s x.0 x.1 c.put_front.ensures
