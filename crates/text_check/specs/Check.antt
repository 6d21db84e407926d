-- What judging a text answers: the list that it is the text of, or the number of the refusal.
use Rattle.std.specs.Prelude.{ℕ, List, Result, Ok, Err}
use Rattle.std.proofs.Math.Option.{Option, some}
use Rattle.std.proofs.Math.Option as option
use Rattle.errors.specs.declared.Error.{Error}
use Rattle.errors.specs.Number.{number_of}
use Rattle.list.specs.Limits.{list_limit}
use Rattle.list.specs.Tree.{Elements}
use Rattle.list_rows.specs.Judge.{Verdict, accepted, refused, fitting}
use Rattle.text.specs.Reading.{reading}

-- "32, the whole area is not such a text, whatever its depth or size"; then 27, then 28
abbrev pub judged : Option Elements → Verdict Elements
judged option.none = refused 32
judged (some es) = fitting list_limit es

-- "Text reading: 20, 32, 27, 28", behind 20
abbrev pub to_read : List ℕ → Verdict Elements
to_read s = judged (reading s)

-- the number of a refusal, 0 for none
abbrev pub error_of : Verdict Elements → ℕ
error_of (accepted es) = 0
error_of (refused number) = number

-- the same of what the code answers
abbrev pub error_in : Result (Unit {0}) Error → ℕ
error_in (Ok u) = 0
error_in (Err e) = number_of e
