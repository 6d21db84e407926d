-- The sizes of the program, each named once.
use Rattle.std.specs.Prelude.{ℕ, ◌+◌, ◌*◌, ◌/◌}
use Rattle.digits.specs.Decimal.{digit_room}
use Rattle.report.specs.Limits.{input_limit, least_list}

-- the longest line has three labels, 18 bytes together, three numbers and a newline
abbrev pub longest_line : ℕ
longest_line = 18 + 3 * digit_room + 1

-- a line for each list that the input may hold, and the last line
abbrev pub text_room : ℕ
text_room = longest_line * (input_limit / least_list + 1)
