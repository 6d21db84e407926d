-- `cinder_hub_detach` is `detach_call`, by the cases of the hub's answer.
use mathlib.Core.Path.{refl}
use Rattle.cinder.proofs.HubAnswers.{verdict-told}
use Rattle.cinder.proofs.hub_call.cinder_hub_detach.Goals as goal

pub returns-in-Ok : goal.returns-in-Ok
returns-in-Ok c = verdict-told _ _ _ _ _ _ _ c.in-Ok.is refl c.detach.ensures

pub returns-in-Err : goal.returns-in-Err
returns-in-Err c = verdict-told _ _ _ _ _ _ _ c.in-Err.is c.number.ensures c.detach.ensures
