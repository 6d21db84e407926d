-- `text_decode::put::put_string` meets its contract.
-- The invariant: the bytes of the characters from `pos` on are left to copy.
use Prim.Native.Nat.{◌-◌}
use lib.ListN.{length, drop}
use Rattle.text.specs.Read.{chars_at}
use Rattle.text_decode.proofs.Copies.{Copying}
use Rattle.text_decode.proofs.put.put_string.Given as goal

abbrev pub invariant-loop-pos : goal.invariant-loop-pos
invariant-loop-pos l = Copying (chars_at 0 (drop l.at l.text)) l.at l.used l.initial.store (chars_at 0 (drop l.pos l.text)) l.pos l.end l.store

abbrev pub decreases-loop-pos : goal.decreases-loop-pos
decreases-loop-pos l = length l.text - l.pos
