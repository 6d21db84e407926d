-- `text_encode::writer::Writer::put_bytes` meets its contract: the numbers of the bytes from the index on are still to be written.
use mathlib.Core.Bool.{true}
use lib.ListN.{drop}
use Rattle.text.specs.Text.{bytes_text}
use Rattle.text_encode.proofs.Writing.{Left}
use Rattle.text_encode.proofs.writer.Writer.put_bytes.Given as goal

abbrev pub invariant-loop-b : goal.invariant-loop-b
invariant-loop-b l = Left l.initial.self (bytes_text true l.bytes) l.self (bytes_text l.first (drop l.b-index l.bytes))
