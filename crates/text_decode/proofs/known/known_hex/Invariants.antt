-- `text_decode::known::known_hex` meets its contract.
-- The invariant: the number of all digits is that of the digits from offset at + i on behind `value`.
use Prim.Native.Nat.{◌+◌, ◌-◌, ◌^◌, ◌≤◌, ◌<◌}
use mathlib.Core.Path.{◌≡◌}
use lib.ListN.{drop}
use Rattle.digits.specs.Fixed.{fixed_from}
use Rattle.text_decode.proofs.known.known_hex.Given as goal

abbrev pub invariant-loop-i : goal.invariant-loop-i
invariant-loop-i l =
    (fixed_from 16 l.width 0 (drop l.at l.text) ≡ fixed_from 16 (l.width - l.i) l.value (drop (l.at + l.i) l.text)) × (l.i ≤ l.width) × (l.value < 16 ^ l.i)
