-- `text_value::digit::more_decimal` meets its contract.
-- The invariant: the number of all digits is that of the digits from offset i on behind `value`.
use mathlib.Core.Path.{◌≡◌}
use Prim.Native.Nat.{◌+◌, ◌-◌, ◌≤◌, ◌<◌, ◌^◌}
use lib.ListN.{length, drop}
use Rattle.digits.specs.Decimal.{more_decimal}
use Rattle.text_value.proofs.digit.more_decimal.Given as goal

abbrev pub invariant-loop-i : goal.invariant-loop-i
invariant-loop-i l =
    (more_decimal l.limit l.first 1 (drop l.at l.text) ≡ more_decimal l.limit l.value (l.i - l.at + 1) (drop l.i l.text))
    × (l.at ≤ l.i) × (l.i ≤ length l.text) × (l.value < 2 ^ 32)

abbrev pub decreases-loop-i : goal.decreases-loop-i
decreases-loop-i l = length l.text - l.i
