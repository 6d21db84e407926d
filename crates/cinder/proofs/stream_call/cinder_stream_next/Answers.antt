-- `cinder_stream_next` is `stream_call`, by the cases of the step's answer.
use mathlib.Core.Path.{ap, ◌∙◌}
use Rattle.std.specs.Prelude.{Ok}
use Rattle.stream.specs.Step.{found_of}
use Rattle.cinder.specs.StreamCall.{step_numbers, stream_call}
use Rattle.cinder.proofs.ListAnswers.{in-numbers}
use Rattle.cinder.proofs.stream_call.cinder_stream_next.Goals as goal

pub returns-in-Ok-Some : goal.returns-in-Ok-Some
unfolding stream_call
returns-in-Ok-Some c = in-numbers step_numbers found_of _ _ _ _ _ _ (c.in-Ok-Some.is ∙ ap Ok c.in-Ok-Some.field-0-is) c.from.ensures c.next.ensures

pub returns-in-Ok-None : goal.returns-in-Ok-None
unfolding stream_call
returns-in-Ok-None c = in-numbers step_numbers found_of _ _ _ _ _ _ (c.in-Ok-None.is ∙ ap Ok c.in-Ok-None.field-0-is) c.from-in-Ok-None.ensures c.next.ensures

pub returns-in-Err : goal.returns-in-Err
unfolding stream_call
returns-in-Err c = in-numbers step_numbers found_of _ _ _ _ _ _ c.in-Err.is c.from-in-Err.ensures c.next.ensures
