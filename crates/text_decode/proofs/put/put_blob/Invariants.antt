-- `text_decode::put::put_blob` meets its contract.
-- The invariant: the bytes of the characters from `pos` on are left to copy, the first of all where `end` is still `used`.
use Prim.Native.Nat.{◌-◌}
use lib.ListN.{length}
use Rattle.text_decode.proofs.Copies.{BlobCopying}
use Rattle.text_decode.proofs.put.put_blob.Given as goal

abbrev pub invariant-loop-pos : goal.invariant-loop-pos
invariant-loop-pos l = BlobCopying l.text l.at l.used l.initial.store l.pos l.end l.store

abbrev pub decreases-loop-pos : goal.decreases-loop-pos
decreases-loop-pos l = length l.text - l.pos
