-- Run steps as the display firmware calls them ("A run is read one list at a time, from a place the caller names").
use Rattle.std.specs.Prelude.{ℕ, ◌+◌, List, [], ◌∷◌}
use Rattle.list_decode.specs.Decode.{Outcome}
use Rattle.stream.specs.Step.{Found, accepted, ended, refused, answered_by, step_of}
use Rattle.stream.specs.Series.{Lending}
use Rattle.cinder.specs.declared.list_call.ListResult.{ListResult}
use Rattle.cinder.specs.ListCall.{list_read, list_refused}

-- each answer in numbers; "At the run's end the answer is "end" and nothing is written": no error, and no bytes taken
abbrev pub step_numbers : Found → ListResult
step_numbers (accepted consumed rows stored) = list_read consumed rows stored
step_numbers ended = list_read 0 0 0
step_numbers (refused r) = list_refused r

-- both areas as the step leaves them
abbrev pub step_outcome : Outcome Found → Outcome ListResult
step_outcome = answered_by step_numbers

-- a run step: both areas, and its answer in numbers
unfoldable pub stream_call : List ℕ → ℕ → List ℕ → List ℕ → Outcome ListResult
stream_call bytes offset rows store = step_outcome (step_of bytes offset rows store)

-- a series of calls, the first at `offset`: "each later one the previous place plus the bytes taken there"
unfoldable pub stream_calls : List ℕ → ℕ → List Lending → List (Outcome ListResult)
stream_calls bytes offset [] = []
stream_calls bytes offset (l ∷ ls) =
    stream_call bytes offset l.rows l.store
    ∷ stream_calls bytes (offset + (stream_call bytes offset l.rows l.store).answer.consumed) ls
