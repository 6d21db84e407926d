-- `cinder_text_decode` is `text_read_call`: text reading's answer in numbers.
use mathlib.Core.Path.{refl}
use Rattle.text_decode.specs.Decode.{reading_of}
use Rattle.cinder.specs.TextCall.{text_numbers, text_read_call}
use Rattle.cinder.proofs.ListAnswers.{in-numbers}
use Rattle.cinder.proofs.text_call.cinder_text_decode.Goals as goal

pub returns : goal.returns
unfolding text_read_call
returns c = in-numbers text_numbers reading_of _ _ _ _ _ _ refl c.from.ensures c.decode.ensures
