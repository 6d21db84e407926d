-- `text_value::float::hex_at` meets its contract.
-- The invariant: while all characters were digits, the number of all digits is that of the digits behind the first ones, which make `value`.
use Prim.Native.Nat.{◌+◌, ◌*◌, ◌^◌, ◌≤◌}
use Rattle.text_value.proofs.Fixeds.{Hex}
use Rattle.text_value.proofs.float.hex_at.Given as goal

abbrev pub invariant-loop-c : goal.invariant-loop-c
invariant-loop-c l = Hex l.text l.at l.width l.c-index l.value l.good × (l.c-index ≤ l.width) × (l.value + 3 ≤ 3 * 16 ^ l.c-index)
