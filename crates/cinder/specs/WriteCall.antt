-- Packet and list writing as firmware calls them, with numbers and byte areas.
use Rattle.std.specs.Prelude.{ℕ, List, Ok, Err}
use Rattle.std.specs.Prelude as prelude
use Rattle.errors.specs.declared.Error.{Error}
use Rattle.errors.specs.Number.{number_of}
use Rattle.packet_encode.specs.Encode as packet
use Rattle.packet_encode.specs.Encode.{encoded}
use Rattle.list_encode.specs.Encode as list
use Rattle.list_encode.specs.Encode.{encoding_of}
use Rattle.cinder.specs.declared.write_call.WriteResult.{WriteResult}

-- no error, and the bytes written
abbrev pub wrote : ℕ → WriteResult
wrote count = record { error = 0; written = count }

-- "Each refusal returns its number": nothing is written
abbrev pub not_written : ℕ → WriteResult
not_written number = record { error = number; written = 0 }

-- the code's answer in numbers
abbrev pub writing_result : prelude.Result ℕ Error → WriteResult
writing_result (Ok count) = wrote count
writing_result (Err e) = not_written (number_of e)

-- the numbers beside the lent area
pub record WriteOutcome : Type 0 where
  pub answer : WriteResult
  pub area : List ℕ

-- packet writing's result in numbers
abbrev pub packet_numbers : packet.Result → WriteResult
packet_numbers (packet.written count) = wrote count
packet_numbers (packet.refused number) = not_written number

-- list writing's result in numbers
abbrev pub list_numbers : list.Result → WriteResult
list_numbers (list.written count) = wrote count
list_numbers (list.refused number) = not_written number

-- "Packet writing: 20, 8", for any number as type: 257 is type 257, which is unknown
unfoldable pub packet_write_call : ℕ → List ℕ → List ℕ → WriteOutcome
packet_write_call number payload area =
    record { answer = packet_numbers (encoded number payload area).result; area = (encoded number payload area).buffer }

-- "List writing: 20, 30, 27, 28"
unfoldable pub list_write_call : List ℕ → List ℕ → List ℕ → WriteOutcome
list_write_call rows store area =
    record { answer = list_numbers (encoding_of rows store area).result; area = (encoding_of rows store area).buffer }
