-- `cinder_list_decode` is `list_call`, by the cases of list reading's answer.
use Rattle.list_decode.specs.Decode.{reading_of}
use Rattle.cinder.specs.ListCall.{list_numbers, list_call}
use Rattle.cinder.proofs.ListAnswers.{in-numbers}
use Rattle.cinder.proofs.list_call.cinder_list_decode.Goals as goal

pub returns-in-Ok : goal.returns-in-Ok
unfolding list_call
returns-in-Ok c = in-numbers list_numbers reading_of _ _ _ _ _ _ c.in-Ok.is c.from.ensures c.decode.ensures

pub returns-in-Err : goal.returns-in-Err
unfolding list_call
returns-in-Err c = in-numbers list_numbers reading_of _ _ _ _ _ _ c.in-Err.is c.from-in-Err.ensures c.decode.ensures
