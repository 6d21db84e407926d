-- `decode` is `decoded`: a buffer of zeros, filled.
use Rattle.packet.proofs.DecodeStages.{fill-means}
use Rattle.packet.proofs.read.decode.Goals as goal

pub returns : goal.returns
returns c = fill-means _ _ _ c.decode_into-answer.ensures
