-- One step of reading a stream of lists: what it answers, and what the lent rows and store hold afterwards.
use Rattle.std.specs.Prelude.{ℕ, cond, List, eqb, ltb, length, drop, Option, Some, None, Result, Ok, Err}
use Rattle.list.specs.declared.Refusal as code
use Rattle.list.specs.Refusal.{Refusal, refusal, moved, refusal_of}
use Rattle.list_decode.specs.declared.Decoded.{Decoded}
use Rattle.list_decode.specs.Decode as decode
use Rattle.list_decode.specs.Decode.{Outcome, outcome, Reading, roomy, decoding_of}

-- what a step finds: "bytes taken and rows filled" and the store bytes in use, the run's "end", or the refusal with "the place of the item at fault"
-- and "the number of lists open at the fault"
pub data Found : Type 0 where
  accepted : (consumed rows stored : ℕ) → Found
  ended : Found
  refused : Refusal → Found

-- what list reading finds at an offset, a refusal's place counted from the stream's front; "The run .. pass it on": its depth
-- stays
abbrev pub from_front : ℕ → Reading → Found
from_front offset (decode.accepted consumed rows stored) = accepted consumed rows stored
from_front offset (decode.refused r) = refused (moved offset r)

-- an outcome with its answer in other words, both areas as they are
abbrev pub answered_by : {A B : Type 0} → (A → B) → Outcome A → Outcome B
answered_by words o = outcome (words o.answer) o.rows o.store

-- "A run step: 20, a place past the end, the end, then the list"; "a place past the end is 21 at that place";
-- "0 .. for 20 and 29 and for a run place past the end"
unfoldable pub step_of : List ℕ → ℕ → List ℕ → List ℕ → Outcome Found
step_of s offset rows store =
    cond (roomy rows store)
    (cond (ltb (length s) offset) (outcome (refused (refusal 21 offset)) rows store)
    (cond (eqb offset (length s)) (outcome ended rows store)
    (answered_by (from_front offset) (decoding_of (drop offset s) rows store))))
    (outcome (refused (refusal 20 0)) rows store)

-- what the code's answer says
abbrev pub found_of : Result (Option Decoded) code.Refusal → Found
found_of (Ok (Some d)) = accepted d.consumed d.rows d.stored
found_of (Ok None) = ended
found_of (Err r) = refused (refusal_of r)
