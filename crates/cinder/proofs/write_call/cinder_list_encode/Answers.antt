-- `cinder_list_encode` is `list_write_call`: list writing's answer in numbers.
use Rattle.cinder.specs.WriteCall.{list_write_call}
use Rattle.cinder.proofs.WriteAnswers.{rows_written}
use Rattle.cinder.proofs.write_call.cinder_list_encode.Goals as goal

pub returns : goal.returns
unfolding list_write_call
returns c = rows_written _ _ _ _ c.from.ensures c.encode.ensures
