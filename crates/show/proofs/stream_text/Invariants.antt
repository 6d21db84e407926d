-- `show::stream_text` meets its contract. The loop's invariant: the text so far and the text from here on are the whole, and the lines have at
-- most four characters for each byte before the offset. The measure is what is left of the bytes.
use Prim.Native.Nat.{ℕ, ◌-◌, ◌*◌, ◌≤◌}
use mathlib.Core.Path.{◌≡◌}
use lib.ListN.{length, take}
use Rattle.report.specs.Limits.{input_limit}
use Rattle.report.specs.Text.{text_of}
use Rattle.report.proofs.Answers.{Left}
use Rattle.show.specs.Limits.{lines_room}
use Rattle.show.specs.Text.{line_of}
use Rattle.show.proofs.stream_text.Given as goal

abbrev pub invariant-loop-list : goal.invariant-loop-list
invariant-loop-list l =
    (length l.bytes ≤ input_limit) × (length l.out.buffer ≡ lines_room) × (l.offset ≤ length l.bytes) × (l.out.used ≤ 4 * l.offset)
    × ((k : ℕ) × Left line_of l.bytes (text_of line_of l.bytes) l.offset k (take l.out.used l.out.buffer))

abbrev pub decreases-loop-list : goal.decreases-loop-list
decreases-loop-list l = length l.bytes - l.offset
