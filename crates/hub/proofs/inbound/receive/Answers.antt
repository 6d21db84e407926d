-- `receive` is `received_of`, by the cases of the admission.
use mathlib.Core.Path.{sym}
use Rattle.std.proofs.Common.{rules}
use Rattle.hub.proofs.Judgements.{socket-byte, table-lawful, received-when, received-not}
use Rattle.hub.proofs.inbound.receive.Goals as goal

pub overflow_cast-socket : goal.overflow_cast-socket
overflow_cast-socket c =
    let told = c.in_ok-admit.was in
    record { fits = socket-byte _ _ _ c.admit.ensures told }

pub take_in-requires : goal.take_in-requires
take_in-requires c =
    let told = c.in_ok-admit.was in
    table-lawful _ _ _ c.admit.ensures told

pub returns : goal.returns
returns c =
    let told = c.in_ok-admit.was in
    received-when _ _ _ c.admit.ensures _ _ told c.take_in.ensures

pub returns-in_err-admit : goal.returns-in_err-admit
returns-in_err-admit c =
    let a = c.args in
    let told = c.in_err-admit.was in
    rw (sym (received-not _ _ _ c.admit.ensures a.bytes.now told)) (search rules)
