-- What the program prints: for each list one line with its text, or `refused 31`, then the last line of `run`.
use Rattle.std.specs.Prelude.{ℕ, cond, List, [], ◌∷◌, ◌++◌}
use Rattle.digits.specs.Decimal.{decimal}
use Rattle.list.specs.Tree.{Elements}
use Rattle.text.specs.Text.{list_text}
use Rattle.text.specs.Form.{all_have_form}
use Rattle.output.specs.Output.{newline}
use Rattle.report.specs.Text.{joined, program_text}

-- `refused 31`
abbrev pub refused_pieces : ℕ → List (List ℕ)
refused_pieces number = (114 ∷ 101 ∷ 102 ∷ 117 ∷ 115 ∷ 101 ∷ 100 ∷ 32 ∷ []) ∷ decimal number ∷ newline ∷ []

-- "31, no text form"
abbrev pub formless : ℕ
formless = 31

abbrev pub refused_line : List ℕ
refused_line = joined (refused_pieces formless)

-- the text of a list that has one
unfoldable pub text_line : Elements → List ℕ
text_line es = cond (all_have_form es) (list_text es ++ newline) refused_line

-- the line of the k-th list: its number is not told
abbrev pub line_of : ℕ → Elements → List ℕ
line_of k es = text_line es

-- what the program prints for the bytes that it reads
abbrev pub shown : List ℕ → List ℕ
shown s = program_text line_of s
