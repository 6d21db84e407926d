-- `wire::zero_at` meets its contract. The loop's invariant: no zero is among the bytes passed, and the strides left are cut from those behind.
use Prim.Native.Nat.{◌≤◌}
use mathlib.Core.Path.{◌≡◌}
use mathlib.Core.Bool.{false}
use lib.ListN.{length, take, drop}
use Rattle.wire.specs.Zero.{has_zero}
use Rattle.wire.proofs.zero_at.Given as goal

abbrev pub invariant-loop-stride : goal.invariant-loop-stride
invariant-loop-stride l = record {
  size : l.stride-iterator.size ≡ 32;
  rest : l.stride-iterator.rest.now ≡ drop l.passed l.s;
  within : l.passed ≤ length l.s;
  none : has_zero (take l.passed l.s) ≡ false;
}
