-- The text of lists as the display firmware calls for it, with numbers and byte areas.
use Rattle.std.specs.Prelude.{ℕ, List}
use Rattle.list_decode.specs.Decode.{Outcome}
use Rattle.stream.specs.Step.{answered_by}
use Rattle.text_encode.specs.Encode.{encoding_of}
use Rattle.text_decode.specs.Decode.{Reading, accepted, refused, decoding_of}
use Rattle.cinder.specs.WriteCall.{WriteOutcome, list_numbers}
use Rattle.cinder.specs.declared.text_call.TextResult.{TextResult}

-- "Text writing: 20, 30, 27, 28, 31"
unfoldable pub text_write_call : List ℕ → List ℕ → List ℕ → WriteOutcome
text_write_call rows store area =
    record { answer = list_numbers (encoding_of rows store area).result; area = (encoding_of rows store area).buffer }

-- the rows filled and the store bytes in use: no error
abbrev pub text_read : ℕ → ℕ → TextResult
text_read rows stored = record { error = 0; rows = rows; stored = stored }

-- "Each refusal returns its number": nothing is filled
abbrev pub text_refused : ℕ → TextResult
text_refused number = record { error = number; rows = 0; stored = 0 }

-- text reading's answer in numbers
abbrev pub text_numbers : Reading → TextResult
text_numbers (accepted rows stored) = text_read rows stored
text_numbers (refused number) = text_refused number

-- "Text reading: 20, 32, 27, 28"
unfoldable pub text_read_call : List ℕ → List ℕ → List ℕ → Outcome TextResult
text_read_call text rows store = answered_by text_numbers (decoding_of text rows store)
