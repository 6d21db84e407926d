-- What writing a list answers, and what the lent buffer holds afterwards.
use Rattle.std.specs.Prelude.{ℕ, cond, List, ltb, length, Ok, Err}
use Rattle.std.specs.Prelude as prelude
use Rattle.wire.specs.Area.{over}
use Rattle.errors.specs.declared.Error.{Error}
use Rattle.errors.specs.Number.{number_of}
use Rattle.list.specs.Limits.{list_limit}
use Rattle.list.specs.Tree.{Elements}
use Rattle.list.specs.Bytes.{list_bytes}
use Rattle.list_rows.specs.Judge.{Verdict, to_write}
use Rattle.list_rows.specs.Judge as judge

-- the number of bytes written, or "Each refusal returns its number"
pub data Result : Type 0 where
  written : (count : ℕ) → Result
  refused : (number : ℕ) → Result

-- a result beside the lent buffer
pub record Outcome : Type 0 where
  pub result : Result
  pub buffer : List ℕ

abbrev pub outcome : Result → List ℕ → Outcome
outcome result buffer = record { result = result; buffer = buffer }

-- "Success changes no part of an area beyond what was written"; a refusal changes nothing
abbrev pub emitted : List ℕ → Verdict Elements → Outcome
emitted buffer (judge.accepted es) = outcome (written (length (list_bytes es))) (over (list_bytes es) buffer)
emitted buffer (judge.refused number) = outcome (refused number) buffer

-- "List writing: 20, 30, 27, 28"; "20 there concerns the list area only"
unfoldable pub encoding_of : List ℕ → List ℕ → List ℕ → Outcome
encoding_of rows store buffer =
    cond (ltb (length buffer) list_limit) (outcome (refused 20) buffer) (emitted buffer (to_write rows store))

-- what the code's answer says
abbrev pub result_of : prelude.Result ℕ Error → Result
result_of (Ok count) = written count
result_of (Err e) = refused (number_of e)
