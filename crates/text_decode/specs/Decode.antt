-- What reading a list's text answers, and what the lent rows and store hold afterwards.
use Rattle.std.specs.Prelude.{ℕ, cond, List, length, Result, Ok, Err}
use Rattle.wire.specs.Area.{over}
use Rattle.errors.specs.declared.Error.{Error}
use Rattle.errors.specs.Number.{number_of}
use Rattle.list.specs.Tree.{Elements}
use Rattle.list.specs.Rows.{list_rows, list_store, row_count}
use Rattle.list.specs.RowBytes.{packed}
use Rattle.list_decode.specs.Decode.{Outcome, outcome, roomy}
use Rattle.list_rows.specs.Judge.{Verdict}
use Rattle.list_rows.specs.Judge as judge
use Rattle.text_check.specs.Check.{to_read}
use Rattle.text_decode.specs.declared.fill.Amounts.{Amounts}

-- the rows filled and the store bytes in use, or "Each refusal returns its number"; "Text refusals carry no place"
pub data Reading : Type 0 where
  accepted : (rows stored : ℕ) → Reading
  refused : (number : ℕ) → Reading

-- "Table and lent areas keep their old contents. Success changes no part of an area beyond what was written."
abbrev pub answered : List ℕ → List ℕ → Verdict Elements → Outcome Reading
answered rows store (judge.accepted es) =
    outcome (accepted (row_count es) (length (list_store es))) (over (packed (list_rows es)) rows) (over (list_store es) store)
answered rows store (judge.refused number) = outcome (refused number) rows store

-- "Text reading: 20, 32, 27, 28"
unfoldable pub decoding_of : List ℕ → List ℕ → List ℕ → Outcome Reading
decoding_of text rows store = cond (roomy rows store) (answered rows store (to_read text)) (outcome (refused 20) rows store)

-- what the code's answer says
abbrev pub reading_of : Result Amounts Error → Reading
reading_of (Ok amounts) = accepted amounts.rows amounts.stored
reading_of (Err e) = refused (number_of e)
