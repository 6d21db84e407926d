-- The sizes that the programs share, each named once.
use Rattle.std.specs.Prelude.{ℕ, ◌+◌, ◌*◌}
use Rattle.digits.specs.Decimal.{digit_room}

-- "over 32,768 bytes it prints `too long`"
abbrev pub input_limit : ℕ
input_limit = 32768

-- the bytes of the shortest list, which has a code and a count
abbrev pub least_list : ℕ
least_list = 8

-- the longest last line has three labels, 16 bytes together, three numbers and a newline
abbrev pub last_room : ℕ
last_room = 16 + 3 * digit_room + 1
