-- `settle` names a packet that was judged good, or its error, and leaves the phase behind it.
use Rattle.std.proofs.Common.{refl, arith, ne_eqb}
use Rattle.errors.specs.Number.{number_of}
use Rattle.errors.proofs.Numbers.{some-number}
use Rattle.packet_line.specs.State.{state_bytes}
use Rattle.packet_line.proofs.Areas.{set-phase, clean-long}
use Rattle.packet_line.proofs.part.settle.Goals as goal

pub bounds-line-0 : goal.bounds-line-0
bounds-line-0 c = omega (arith, clean-long _ c.requires)

pub returns-in-Ok : goal.returns-in-Ok
unfolding state_bytes
returns-in-Ok c = rw c.in-Ok.is (refl, refl, set-phase _ 0 c.requires)

pub bounds-line-0-in-Err : goal.bounds-line-0-in-Err
bounds-line-0-in-Err c = omega (arith, clean-long _ c.requires)

pub returns-in-Err : goal.returns-in-Err
unfolding state_bytes
returns-in-Err c =
    let n = some-number c.in-Err.error in
    let e = ne_eqb (number_of c.in-Err.error) 0 (λ z. omega arith) in
    rw (c.in-Err.is, c.refused.ensures, e) (refl, refl, set-phase _ 1 c.requires)
