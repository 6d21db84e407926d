-- `cinder_packet_encode` is `packet_write_call`: packet writing's answer in numbers.
use Rattle.cinder.proofs.WriteAnswers.{packet-written}
use Rattle.cinder.proofs.write_call.cinder_packet_encode.Goals as goal

pub returns : goal.returns
returns c = packet-written _ _ _ _ _ _ _ c.type_byte.ensures c.from.ensures c.encode.ensures
