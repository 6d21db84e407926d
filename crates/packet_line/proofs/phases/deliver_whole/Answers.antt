-- `deliver_whole` judges a packet that is all there.
use Rattle.packet_line.proofs.Starts.{unjudged, judged-here}
use Rattle.packet_line.proofs.Starts.{unjudged, judged-here}
use Rattle.packet_line.proofs.phases.deliver_whole.Goals as goal

pub returns-then-bytes-lt2 : goal.returns-then-bytes-lt2
returns-then-bytes-lt2 c = unjudged _ _

pub returns-then-bytes : goal.returns-then-bytes
returns-then-bytes c = unjudged _ _

pub returns : goal.returns
returns c = let e = c.deliver.ensures in judged-here _ _ _ _ e.0 e.1
