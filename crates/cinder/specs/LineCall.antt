-- Finding packets in a socket's line as firmware calls it, with numbers and byte areas.
use Rattle.std.specs.Prelude.{ℕ, List}
use Rattle.packet_line.specs.Push.{Answer, more_wanted, handed_over, refusal, Outcome, pushed}

-- what was found, the refusal number, 0 for none, the bytes taken, and both lent areas
pub record LineOutcome : Type 0 where
  pub found : ℕ
  pub error : ℕ
  pub consumed : ℕ
  pub line : List ℕ
  pub packet : List ℕ

-- 0 for "more wanted", 1 for a packet, 2 for a refusal
abbrev pub found_in : Answer → ℕ
found_in more_wanted = 0
found_in handed_over = 1
found_in (refusal number) = 2

-- the number of a refusal, 0 for none
abbrev pub error_in : Answer → ℕ
error_in more_wanted = 0
error_in handed_over = 0
error_in (refusal number) = number

abbrev pub line_outcome : Outcome → LineOutcome
line_outcome o = record { found = found_in o.answer; error = error_in o.answer; consumed = o.consumed; line = o.line; packet = o.packet }

-- one call, in numbers
unfoldable pub line_call : List ℕ → List ℕ → List ℕ → LineOutcome
line_call line bytes packet = line_outcome (pushed line bytes packet)
