-- The line of a list: 01's, ended by a newline. What the program prints is `program_text` (report/specs/Text) of this line.
use Rattle.std.specs.Prelude.{ℕ, List, [], ◌∷◌, length}
use Rattle.digits.specs.Decimal.{decimal}
use Rattle.list.specs.Tree.{Elements}
use Rattle.list.specs.Bytes.{list_bytes}
use Rattle.list.specs.Rows.{row_count}
use Rattle.output.specs.Output.{newline}
use Rattle.report.specs.Text.{joined}

-- `list 1 bytes 40 rows 9`
abbrev pub list_pieces : ℕ → ℕ → ℕ → List (List ℕ)
list_pieces k consumed rows =
    (108 ∷ 105 ∷ 115 ∷ 116 ∷ 32 ∷ []) ∷ decimal k
    ∷ (32 ∷ 98 ∷ 121 ∷ 116 ∷ 101 ∷ 115 ∷ 32 ∷ []) ∷ decimal consumed
    ∷ (32 ∷ 114 ∷ 111 ∷ 119 ∷ 115 ∷ 32 ∷ []) ∷ decimal rows ∷ newline ∷ []

unfoldable pub list_line : ℕ → ℕ → ℕ → List ℕ
list_line k consumed rows = joined (list_pieces k consumed rows)

-- the line of the k-th list
abbrev pub line_of : ℕ → Elements → List ℕ
line_of k es = list_line k (length (list_bytes es)) (row_count es)
