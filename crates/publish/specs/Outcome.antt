-- Writing the table as a list ("Posting: 11, 9, 20"): 20, where 11 and 9 are ruled out.
use Rattle.std.specs.Prelude as prelude
use Rattle.std.specs.Prelude.{ℕ, cond, List, ltb, length, Ok, Err}
use Rattle.errors.specs.Number.{number_of}
use Rattle.errors.specs.declared.Error.{Error}
use Rattle.wire.specs.Area.{over}
use Rattle.list.specs.Limits.{list_limit}
use Rattle.list.specs.Bytes.{list_bytes}
use Rattle.table.specs.Places.{slot_count, socket_count}
use Rattle.publish.specs.Published.{published}

-- what publishing answers: the bytes written, or the number of the error
pub data Result : Type 0 where
  written : (count : ℕ) → Result
  refused : (number : ℕ) → Result

-- the bytes written, or the number of the refusal, for each case of the answer
abbrev pub result_of : prelude.Result ℕ Error → Result
result_of (Ok count) = written count
result_of (Err e) = refused (number_of e)

-- the result beside the lent buffer
pub record Publishing : Type 0 where
  pub result : Result
  pub buffer : List ℕ

-- "Table and lent areas keep their old contents"
abbrev pub refusal : ℕ → List ℕ → Publishing
refusal number buffer = record { result = refused number; buffer = buffer }

-- "Success changes no part of an area beyond what was written"
abbrev pub writing : List ℕ → List ℕ → Publishing
writing bytes buffer = record { result = written (length bytes); buffer = over bytes buffer }

-- "list area .. under 4,096", else the list's bytes
unfoldable pub written_of : List ℕ → List ℕ → List ℕ → Publishing
written_of c t buffer =
    cond (ltb (length buffer) list_limit) (refusal 20 buffer) (writing (list_bytes (published slot_count socket_count c t)) buffer)
