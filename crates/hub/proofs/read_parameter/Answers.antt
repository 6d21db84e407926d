-- `read_parameter` is `read_of`, by the cases of the admission.
use mathlib.Core.Path.{sym}
use Rattle.std.proofs.Common.{rules}
use Rattle.hub.proofs.Judgements.{socket-byte, read-when, read-not}
use Rattle.hub.proofs.read_parameter.Goals as goal

pub overflow_cast-socket : goal.overflow_cast-socket
overflow_cast-socket c =
    let told = c.in-Ok.is in
    record { fits = socket-byte _ _ _ c.admit.ensures told }

pub returns-in-Ok : goal.returns-in-Ok
returns-in-Ok c =
    let told = c.in-Ok.is in
    read-when _ _ _ c.admit.ensures _ _ told c.read.ensures

pub returns-in-Err : goal.returns-in-Err
returns-in-Err c =
    let told = c.in-Err.is in
    rw (sym (read-not _ _ _ c.admit.ensures c.args.index told)) (search rules)
