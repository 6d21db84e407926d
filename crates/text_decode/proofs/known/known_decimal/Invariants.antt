-- `text_decode::known::known_decimal` meets its contract.
-- The invariant: the number of all digits is that of the digits from offset `end` on behind `bits`.
use Prim.Native.Nat.{◌-◌, ◌^◌, ◌≤◌}
use mathlib.Core.Path.{◌≡◌}
use lib.ListN.{length, drop}
use Rattle.digits.specs.Decimal.{more_decimal}
use Rattle.text_decode.specs.Pieces.{known_decimal}
use Rattle.text_decode.proofs.known.known_decimal.Given as goal

abbrev pub invariant-loop-bits : goal.invariant-loop-bits
invariant-loop-bits l =
    (known_decimal (drop l.at l.text) ≡ more_decimal (2 ^ 32 - 1) l.bits (l.end - l.at) (drop l.end l.text)) × (l.at ≤ l.end)

abbrev pub decreases-loop-bits : goal.decreases-loop-bits
decreases-loop-bits l = length l.text - l.end
