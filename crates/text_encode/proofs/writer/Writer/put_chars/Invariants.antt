-- `text_encode::writer::Writer::put_chars` meets its contract: the characters of the bytes from the index on are still to be written.
use lib.ListN.{drop}
use Rattle.text.specs.Text.{chars_text}
use Rattle.text_encode.proofs.Writing.{Left}
use Rattle.text_encode.proofs.writer.Writer.put_chars.Given as goal

abbrev pub invariant-loop-b : goal.invariant-loop-b
invariant-loop-b l = Left l.initial.self (chars_text l.bytes) l.self (chars_text (drop l.b-index l.bytes))
