-- List reading as the display firmware calls it ("calls the packet and list readers with numbers and byte areas").
use Rattle.std.specs.Prelude.{ℕ, List}
use Rattle.list.specs.Refusal.{Refusal}
use Rattle.list_decode.specs.Decode.{Outcome, Reading, accepted, refused, decoding_of}
use Rattle.stream.specs.Step.{answered_by}
use Rattle.cinder.specs.declared.list_call.ListResult.{ListResult}

-- "answers bytes taken and rows filled", and the store bytes in use: no error
abbrev pub list_read : ℕ → ℕ → ℕ → ListResult
list_read consumed rows stored = record { error = 0; consumed = consumed; rows = rows; offset = 0; stored = stored; depth = 0 }

-- "Each refusal returns its number; the list reader and the run add the place of the item at fault"; "the C calls pass it on": the depth.
-- Nothing is taken or filled
abbrev pub list_refused : Refusal → ListResult
list_refused r = record { error = r.number; consumed = 0; rows = 0; offset = r.offset; stored = 0; depth = r.depth }

-- list reading's answer in numbers
abbrev pub list_numbers : Reading → ListResult
list_numbers (accepted consumed rows stored) = list_read consumed rows stored
list_numbers (refused r) = list_refused r

-- "There a row is 12 bytes, low byte first": both areas as list reading leaves them
unfoldable pub list_call : List ℕ → List ℕ → List ℕ → Outcome ListResult
list_call bytes rows store = answered_by list_numbers (decoding_of bytes rows store)
