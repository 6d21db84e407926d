-- `wire::copy_long` meets its contract. The loop's invariant: the first `at` bytes of the buffer are those of the source,
-- and the blocks left are cut from those behind.
use Prim.Native.Nat.{◌≤◌}
use mathlib.Core.Path.{◌≡◌}
use lib.ListN.{length, take, drop}
use Rattle.wire.proofs.copy_long.Given as goal

abbrev pub invariant-loop-block : goal.invariant-loop-block
invariant-loop-block l = record {
  size : l.block-iterator.size ≡ 65536;
  rest : l.block-iterator.rest.now ≡ drop l.at l.src;
  within : l.at ≤ length l.src;
  copied : take l.at l.dst ≡ take l.at l.src;
}
