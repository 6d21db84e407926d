-- `text_decode::known::known_letters` meets its contract.
-- The invariant: the letters before offset `end` make `bits`, and the others are left.
use Prim.Native.Nat.{◌-◌}
use lib.ListN.{length}
use Rattle.text_decode.proofs.Letters.{Letters}
use Rattle.text_decode.proofs.known.known_letters.Given as goal

abbrev pub invariant-loop-end : goal.invariant-loop-end
invariant-loop-end l = Letters l.text l.at l.bits l.unit l.end

abbrev pub decreases-loop-end : goal.decreases-loop-end
decreases-loop-end l = length l.text - l.end
