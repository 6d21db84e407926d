-- `text_encode::emit::close_list` meets its contract: a bracket, and a space behind it.
use mathlib.Core.List.{[], ◌∷◌}
use lib.Dec.{eqb}
use Rattle.text.specs.Text.{gap}
use Rattle.text_encode.proofs.Writing.{room_first, room_next, wrote_more}
use Rattle.text_encode.proofs.emit.close_list.Goals as goal

pub put-requires : goal.put-requires
put-requires c = room_first (41 ∷ []) (gap (eqb c.args.left 0)) c.requires

pub put_gap-requires : goal.put_gap-requires
put_gap-requires c = room_next (gap (eqb c.args.left 0)) c.put.ensures c.requires

pub returns : goal.returns
returns c =
    let w = wrote_more c.put.ensures c.put_gap.ensures in
    record { written = w; to = rw w.end }
