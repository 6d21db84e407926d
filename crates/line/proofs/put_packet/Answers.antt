-- `line::put_packet` meets its contract: the packet's own bytes are handed on.
use mathlib.Core.Path.{sym}
use lib.Seq.{length-take-le}
use borrow.Author.Rules.{rules}
use Rattle.line.proofs.put_packet.Goals as goal

pub slice_bounds-put_packet_at-end : goal.slice_bounds-put_packet_at-end
slice_bounds-put_packet_at-end c = sym (length-take-le _ _ (search rules))

pub put_packet_at-requires : goal.put_packet_at-requires
put_packet_at-requires c = (search rules, rw c.byte_at.ensures c.requires.1.accepted)

pub returns : goal.returns
returns c = rw (← c.byte_at.ensures) c.put_packet_at.ensures
