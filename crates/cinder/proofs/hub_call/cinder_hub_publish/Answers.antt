-- `cinder_hub_publish` is `publish_call`: the hub's answer in numbers.
use mathlib.Core.Path.{sym, ap, ◌∙◌}
use Rattle.cinder.specs.WriteCall.{writing_result}
use Rattle.cinder.proofs.HubAnswers.{published-told}
use Rattle.cinder.proofs.hub_call.cinder_hub_publish.Goals as goal

pub returns-in-Ok : goal.returns-in-Ok
returns-in-Ok c = published-told _ _ _ _ _ _ (c.from.ensures ∙ ap writing_result (sym c.in-Ok.is)) c.publish.ensures

pub returns-in-Err : goal.returns-in-Err
returns-in-Err c = published-told _ _ _ _ _ _ (c.from-in-Err.ensures ∙ ap writing_result (sym c.in-Err.is)) c.publish.ensures
