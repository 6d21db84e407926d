-- `text_encode::writer::Writer::put_string` meets its contract: a piece between two characters.
use mathlib.Core.List.{[], ◌∷◌, ◌++◌}
use Rattle.text.specs.Text.{chars_text}
use Rattle.text_encode.proofs.Writing.{room_first, room_next, wrote_more}
use Rattle.text_encode.proofs.writer.Writer.put_string.Goals as goal

pub put-requires : goal.put-requires
put-requires c = room_first (34 ∷ []) (chars_text c.args.bytes.now ++ (34 ∷ [])) c.requires

pub put_chars-requires : goal.put_chars-requires
put_chars-requires c = room_first (chars_text c.args.bytes.now) (34 ∷ []) (room_next (chars_text c.args.bytes.now ++ (34 ∷ [])) c.put.ensures c.requires)

pub put-requires-2 : goal.put-requires-2
put-requires-2 c = room_next (34 ∷ []) c.put_chars.ensures (room_next (chars_text c.args.bytes.now ++ (34 ∷ [])) c.put.ensures c.requires)

pub returns : goal.returns
returns c = wrote_more c.put.ensures (wrote_more c.put_chars.ensures c.put-2.ensures)
