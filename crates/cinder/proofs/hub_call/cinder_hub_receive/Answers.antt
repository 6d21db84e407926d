-- `cinder_hub_receive` is `receive_call`: the hub's answer in numbers.
use Prim.Native.Nat.{ℕ}
use mathlib.Core.Path.{sym, ap, ◌∙◌}
use Rattle.cinder.specs.PacketCall.{reading_result}
use Rattle.cinder.specs.declared.packet_call.PacketResult.{PacketResult}
use Rattle.cinder.proofs.HubAnswers.{receipt-told}
use Rattle.cinder.proofs.hub_call.cinder_hub_receive.Goals as goal

pub returns-in-Ok : goal.returns-in-Ok
returns-in-Ok c = receipt-told _ _ _ _ _ _ _ (c.from.ensures ∙ ap reading_result (sym c.in-Ok.is)) c.receive.ensures

abbrev refusing : ℕ → PacketResult
refusing n = record { error = n; consumed = 0 }

pub returns-in-Err : goal.returns-in-Err
returns-in-Err c =
    receipt-told _ _ _ _ _ _ _ (ap refusing c.number.ensures ∙ ap reading_result (sym c.in-Err.is)) c.receive.ensures
