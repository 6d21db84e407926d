-- `cinder_text_encode` is `text_write_call`: text writing's answer in numbers.
use mathlib.Core.Path.{sym, ap, ◌∙◌}
use Rattle.cinder.specs.WriteCall.{writing_result}
use Rattle.cinder.specs.TextCall.{text_write_call}
use Rattle.cinder.proofs.WriteAnswers.{rows_written}
use Rattle.cinder.proofs.text_call.cinder_text_encode.Goals as goal

pub returns-in-Ok : goal.returns-in-Ok
unfolding text_write_call
returns-in-Ok c = rows_written _ _ _ _ (c.from.ensures ∙ ap writing_result (sym c.in-Ok.is)) c.encode.ensures

pub returns-in-Err : goal.returns-in-Err
unfolding text_write_call
returns-in-Err c = rows_written _ _ _ _ (c.from-in-Err.ensures ∙ ap writing_result (sym c.in-Err.is)) c.encode.ensures
