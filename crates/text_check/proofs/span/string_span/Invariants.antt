-- `text_check::span::string_span` meets its contract.
-- The invariant: what is read from the start is the string bytes and the characters so far, and what is read from character i on.
use Prim.Native.Nat.{◌+◌, ◌-◌, ◌≤◌}
use mathlib.Core.Path.{◌≡◌}
use lib.ListN.{length, drop}
use Rattle.digits.specs.Read.{and_read}
use Rattle.text.specs.Read.{chars_at}
use Rattle.text_check.specs.Answers.{counted}
use Rattle.text_check.proofs.Spans.{further}
use Rattle.text_check.proofs.span.string_span.Given as goal

abbrev pub invariant-loop-i : goal.invariant-loop-i
invariant-loop-i l =
    (l.at ≤ l.i) × (l.at + l.stored ≤ l.i)
    × (and_read (chars_at 0 (drop l.at l.text)) counted ≡ further l.stored (l.i - l.at) (chars_at 0 (drop l.i l.text)))

abbrev pub decreases-loop-i : goal.decreases-loop-i
decreases-loop-i l = length l.text - l.i
