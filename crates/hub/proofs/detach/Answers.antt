-- `detach` is `detached`, by the cases of the admission.
use mathlib.Core.Path.{sym}
use Rattle.std.proofs.Common.{rules}
use Rattle.hub.proofs.Judgements.{socket-byte, detached-when, detached-not}
use Rattle.hub.proofs.detach.Goals as goal

pub overflow_cast-socket : goal.overflow_cast-socket
overflow_cast-socket c =
    let told = c.in-Ok.is in
    record { fits = socket-byte _ _ _ c.admit.ensures told }

pub returns-in-Ok : goal.returns-in-Ok
returns-in-Ok c =
    let told = c.in-Ok.is in
    detached-when _ _ _ c.admit.ensures _ told c.leave.ensures

pub returns-in-Err : goal.returns-in-Err
returns-in-Err c =
    let told = c.in-Err.is in
    rw (sym (detached-not _ _ _ c.admit.ensures told)) (search rules)
