-- `text_encode::writer::Writer::put_float` meets its contract: sign, frame and scale, one behind the other.
use Rattle.text_encode.proofs.Writing.{wrote_more}
use Rattle.text_encode.proofs.writer.Writer.put_float.Goals as goal

pub returns : goal.returns
returns c = wrote_more c.put_sign.ensures (wrote_more c.put_frame.ensures (rw c.scale_of.ensures.0 at c.put_scale.ensures))
