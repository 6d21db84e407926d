-- The size of the program's buffer.
use Rattle.std.specs.Prelude.{ℕ, ◌+◌, ◌*◌}
use Rattle.text.specs.Text.{text_room}
use Rattle.report.specs.Limits.{input_limit}

-- the line of a list has at most four characters for each of its bytes; behind the lines, the room that text writing asks for
abbrev pub lines_room : ℕ
lines_room = 4 * input_limit + text_room
