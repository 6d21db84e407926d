-- What reading a list answers, and what the lent rows and store hold afterwards.
use Rattle.std.specs.Prelude.{ℕ, Bool, cond, ◌&&◌, List, leb, length, Result, Ok, Err}
use Rattle.wire.specs.Area.{over}
use Rattle.list.specs.Limits.{list_limit, row_room, store_room}
use Rattle.list.specs.Tree.{Elements}
use Rattle.list.specs.Rows.{list_rows, list_store, row_count}
use Rattle.list.specs.RowBytes.{packed, unpacked}
use Rattle.list.specs.Refusal.{Refusal, refusal, refusal_of}
use Rattle.list.specs.Parse.{Parsed, good, bad, parse}
use Rattle.list_decode.specs.declared.Decoded.{Decoded}
use Rattle.list.specs.declared.Refusal as code

-- an answer, and what the rows and the store hold
pub record Outcome (A : Type 0) : Type 0 where
  pub answer : A
  pub rows : List ℕ
  pub store : List ℕ

abbrev pub outcome : {A : Type 0} → A → List ℕ → List ℕ → Outcome A
outcome a rows store = record { answer = a; rows = rows; store = store }

-- "answers bytes taken and rows filled", and the store bytes in use, or the refusal
pub data Reading : Type 0 where
  accepted : (consumed rows stored : ℕ) → Reading
  refused : Refusal → Reading

-- 20: "list area or store under 4,096, rows under 3,072 numbers"
unfoldable pub roomy : List ℕ → List ℕ → Bool
roomy rows store = leb row_room (length (unpacked rows)) && leb store_room (length store)

-- "Table and lent areas keep their old contents. Success changes no part of an area beyond what was written."
abbrev pub answered : List ℕ → List ℕ → Parsed Elements → Outcome Reading
answered rows store (good es consumed) =
    outcome (accepted consumed (row_count es) (length (list_store es))) (over (packed (list_rows es)) rows) (over (list_store es) store)
answered rows store (bad r) = outcome (refused r) rows store

-- "List reading: 20, then the first fault from the front"; 20 has the offset 0, and "0 .. for 20 and 29"
unfoldable pub decoding_of : List ℕ → List ℕ → List ℕ → Outcome Reading
decoding_of s rows store =
    cond (roomy rows store) (answered rows store (parse list_limit s)) (outcome (refused (refusal 20 0)) rows store)

-- what the code's answer says
abbrev pub reading_of : Result Decoded code.Refusal → Reading
reading_of (Ok d) = accepted d.consumed d.rows d.stored
reading_of (Err r) = refused (refusal_of r)
