-- The sizes of the program, each named once.
use Rattle.std.specs.Prelude.{ℕ, ◌+◌, ◌*◌}
use Rattle.digits.specs.Decimal.{digit_room}
use Rattle.report.specs.Limits.{input_limit}

-- the longest text line has three labels, 23 bytes together, three numbers and a newline
abbrev pub longest_line : ℕ
longest_line = 23 + 3 * digit_room + 1

-- a byte decides at most one finding: a text line for each, and the last one
abbrev pub text_room : ℕ
text_room = longest_line * (input_limit + 1)
