-- `text_encode::writer::Writer::put_decimal` meets its contract.
use Rattle.text_encode.proofs.writer.Writer.put_decimal.Goals as goal

pub put_digits-requires : goal.put_digits-requires
put_digits-requires c = rw c.digit_count-count.ensures.1 at c.requires

pub returns : goal.returns
returns c = rw c.digit_count-count.ensures.1 c.put_digits.ensures
