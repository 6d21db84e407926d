-- `text_check::tally_of` meets its contract.
-- The invariant: the answer for the whole text is that for the tokens from `pos` on, behind the tally so far.
use Prim.Native.Nat.{◌-◌}
use lib.ListN.{length}
use Rattle.text_check.proofs.Turns.{Goes}
use Rattle.text_check.proofs.tally_of.Given as goal

abbrev pub invariant-loop-pos : goal.invariant-loop-pos
invariant-loop-pos l = Goes l.text l.pos l.first l.tally

abbrev pub decreases-loop-pos : goal.decreases-loop-pos
decreases-loop-pos l = length l.text - l.pos
