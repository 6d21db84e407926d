-- `text_encode::writer::Writer::put_vocab` meets its contract: a piece between two characters.
use mathlib.Core.List.{[], ◌∷◌, ◌++◌}
use Rattle.text.specs.Text.{letters}
use Rattle.text_encode.proofs.Writing.{room_first, room_next, wrote_more}
use Rattle.text_encode.proofs.writer.Writer.put_vocab.Goals as goal

pub put-requires : goal.put-requires
put-requires c = room_first (91 ∷ []) (letters c.args.bits ++ (93 ∷ [])) c.requires

pub put_letters-requires : goal.put_letters-requires
put_letters-requires c = room_first (letters c.args.bits) (93 ∷ []) (room_next (letters c.args.bits ++ (93 ∷ [])) c.put.ensures c.requires)

pub put-requires-2 : goal.put-requires-2
put-requires-2 c = room_next (93 ∷ []) c.put_letters.ensures (room_next (letters c.args.bits ++ (93 ∷ [])) c.put.ensures c.requires)

pub returns : goal.returns
returns c = wrote_more c.put.ensures (wrote_more c.put_letters.ensures c.put-2.ensures)
