-- What a program prints for a stream of lists: a line for each list, then 01's last line, each ended by a newline. How the line of a list
-- looks is the program's own: `line` makes it of the list's number and its tree.
use Rattle.std.specs.Prelude.{ℕ, zero, suc, ◌+◌, cond, List, [], ◌∷◌, ◌++◌, eqb, ltb, length, drop}
use Rattle.digits.specs.Decimal.{decimal}
use Rattle.list.specs.Limits.{list_limit}
use Rattle.list.specs.Tree.{Elements}
use Rattle.list.specs.Refusal.{Refusal, moved}
use Rattle.list.specs.Parse.{Parsed, good, bad, parse}
use Rattle.stream.specs.Step.{Found, accepted, ended, refused}
use Rattle.stream.specs.Run.{run_bytes, behind}
use Rattle.output.specs.Output.{newline}
use Rattle.report.specs.Limits.{input_limit}

-- pieces of a line in a row
abbrev pub joined : List (List ℕ) → List ℕ
joined [] = []
joined (piece ∷ pieces) = piece ++ joined pieces

-- `end 112`
abbrev pub end_pieces : ℕ → List (List ℕ)
end_pieces offset = (101 ∷ 110 ∷ 100 ∷ 32 ∷ []) ∷ decimal offset ∷ newline ∷ []

unfoldable pub end_line : ℕ → List ℕ
end_line offset = joined (end_pieces offset)

-- `stop 21 at 112 depth 0`
abbrev pub stop_pieces : Refusal → List (List ℕ)
stop_pieces r =
    (115 ∷ 116 ∷ 111 ∷ 112 ∷ 32 ∷ []) ∷ decimal r.number ∷ (32 ∷ 97 ∷ 116 ∷ 32 ∷ []) ∷ decimal r.offset
    ∷ (32 ∷ 100 ∷ 101 ∷ 112 ∷ 116 ∷ 104 ∷ 32 ∷ []) ∷ decimal r.depth ∷ newline ∷ []

unfoldable pub stop_line : Refusal → List ℕ
stop_line r = joined (stop_pieces r)

-- `too long`
abbrev pub too_long : List ℕ
too_long = 116 ∷ 111 ∷ 111 ∷ 32 ∷ 108 ∷ 111 ∷ 110 ∷ 103 ∷ newline

-- the line of the answer behind a run of `size` bytes
abbrev pub last_line : ℕ → Found → List ℕ
last_line size ended = end_line size
last_line size (refused r) = stop_line r
last_line size (accepted consumed rows stored) = []

-- the lines of a run's lists, the first of them the k-th
abbrev pub list_lines : (ℕ → Elements → List ℕ) → ℕ → List Elements → List ℕ
list_lines line k [] = []
list_lines line k (es ∷ run) = line k es ++ list_lines line (suc k) run

-- what is printed for a run and the bytes that follow it
abbrev pub printed : (ℕ → Elements → List ℕ) → List Elements → List ℕ → List ℕ
printed line run rest = list_lines line 1 run ++ last_line (length (run_bytes run)) (behind (length (run_bytes run)) rest)

-- Internal: the same by steps, as a program takes them; `proofs/Lines.antt` ties the two.
abbrev pub line_and : (ℕ → Elements → List ℕ) → (ℕ → List ℕ) → ℕ → ℕ → Parsed Elements → List ℕ
line_and line more offset k (good es consumed) = line k es ++ more consumed
line_and line more offset k (bad r) = stop_line (moved offset r)

unfoldable pub text_from : (ℕ → Elements → List ℕ) → ℕ → List ℕ → ℕ → ℕ → List ℕ
text_from line zero s offset k = []
text_from line (suc fuel) s offset k =
    cond (eqb offset (length s)) (end_line offset)
    (line_and line (λ consumed. text_from line fuel s (offset + consumed) (suc k)) offset k (parse list_limit (drop offset s)))

-- a list has a byte or more, so a step for each byte and one more are enough
abbrev pub text_of : (ℕ → Elements → List ℕ) → List ℕ → List ℕ
text_of line s = text_from line (suc (length s)) s 0 1

-- "over 32,768 bytes it prints `too long`": what a program prints for the bytes that it reads
unfoldable pub program_text : (ℕ → Elements → List ℕ) → List ℕ → List ℕ
program_text line s = cond (ltb input_limit (length s)) too_long (text_of line s)
