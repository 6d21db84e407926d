-- `list_skip::skip_in` meets its contract. The loop's invariant: stepping on from here leads where stepping from the first did, and enough steps
-- are left, since every stride has a byte; what is still to come is a number, since every stride opens less than 2^32 elements.
use Prim.Native.Nat.{ℕ, ◌+◌, ◌-◌, ◌*◌, ◌^◌, ◌≤◌}
use mathlib.Core.Path.{◌≡◌}
use mathlib.Core.List.{List}
use lib.ListN.{length}
use Rattle.list.specs.Limits.{list_limit}
use Rattle.list_skip.specs.Skip.{skip_from}
use Rattle.list_skip.proofs.skip_in.Given as goal

pub record Going (s : List ℕ) (at n pos left : ℕ) : Type 0 where
  pub steps : ℕ
  pub enough : length s ≤ steps + pos
  pub few : left ≤ 2 ^ 32 * (pos + 1)
  pub same : skip_from steps s left pos ≡ skip_from list_limit s n at

abbrev pub invariant-loop-left : goal.invariant-loop-left
invariant-loop-left l = Going l.s l.at l.n l.pos l.left

abbrev pub decreases-loop-left : goal.decreases-loop-left
decreases-loop-left l = length l.s - l.pos
