-- `text_decode::fill::fill` meets its contract. The loop's invariant: the tokens behind `pos` are left to write.
use Prim.Native.Nat.{◌-◌}
use lib.ListN.{length}
use Rattle.text_decode.specs.Stage.{Stage}
use Rattle.text_decode.proofs.Accepting.{told}
use Rattle.text_decode.proofs.fill.fill.Given as goal

abbrev pub invariant-loop-x : goal.invariant-loop-x
invariant-loop-x l = Stage (told l.text) l.text l.initial.rows l.initial.store l.x l.rows l.store

abbrev pub decreases-loop-x : goal.decreases-loop-x
decreases-loop-x l = length l.text - l.x.pos
