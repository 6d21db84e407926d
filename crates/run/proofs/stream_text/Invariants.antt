-- `run::stream_text` meets its contract. The loop's invariant: the text so far and the text from here on are the whole; each list before the k-th
-- has the bytes of the shortest list or more, and a line of bounded length. The measure is what is left of the bytes.
use Prim.Native.Nat.{◌+◌, ◌-◌, ◌*◌, ◌≤◌}
use mathlib.Core.Path.{◌≡◌}
use lib.ListN.{length, take}
use Rattle.report.specs.Limits.{input_limit, least_list}
use Rattle.report.specs.Text.{text_of}
use Rattle.report.proofs.Answers.{Left}
use Rattle.run.specs.Limits.{longest_line, text_room}
use Rattle.run.specs.Text.{line_of}
use Rattle.run.proofs.stream_text.Given as goal

abbrev pub invariant-loop-list : goal.invariant-loop-list
invariant-loop-list l =
    (length l.bytes ≤ input_limit) × (length l.out.buffer ≡ text_room) × (l.offset ≤ length l.bytes) × (1 ≤ l.k) × (least_list * l.k ≤ l.offset + least_list)
    × (l.out.used + longest_line ≤ longest_line * l.k) × Left line_of l.bytes (text_of line_of l.bytes) l.offset l.k (take l.out.used l.out.buffer)

abbrev pub decreases-loop-list : goal.decreases-loop-list
decreases-loop-list l = length l.bytes - l.offset
