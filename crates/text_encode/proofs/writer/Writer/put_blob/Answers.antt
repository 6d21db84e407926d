-- `text_encode::writer::Writer::put_blob` meets its contract: a piece between two characters.
use mathlib.Core.List.{[], ◌∷◌, ◌++◌}
use mathlib.Core.Bool.{true}
use Rattle.text.specs.Text.{bytes_text}
use Rattle.text_encode.proofs.Writing.{room_first, room_next, wrote_more}
use Rattle.text_encode.proofs.writer.Writer.put_blob.Goals as goal

pub put-requires : goal.put-requires
put-requires c = room_first (123 ∷ []) (bytes_text true c.args.bytes.now ++ (125 ∷ [])) c.requires

pub put_bytes-requires : goal.put_bytes-requires
put_bytes-requires c = room_first (bytes_text true c.args.bytes.now) (125 ∷ []) (room_next (bytes_text true c.args.bytes.now ++ (125 ∷ [])) c.put.ensures c.requires)

pub put-requires-2 : goal.put-requires-2
put-requires-2 c = room_next (125 ∷ []) c.put_bytes.ensures (room_next (bytes_text true c.args.bytes.now ++ (125 ∷ [])) c.put.ensures c.requires)

pub returns : goal.returns
returns c = wrote_more c.put.ensures (wrote_more c.put_bytes.ensures c.put-2.ensures)
