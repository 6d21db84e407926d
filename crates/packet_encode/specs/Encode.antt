-- Packet writing ("Packet writing: 20, 8").
use Rattle.std.specs.Prelude.{Result as Answer, Ok, Err, ℕ, not, cond, List, ◌∷◌, eqb, ltb, length}
use Rattle.wire.specs.Area.{over}
use Rattle.errors.specs.declared.Error.{Error}
use Rattle.errors.specs.Number.{number_of}
use Rattle.packet.specs.Cobs.{encoded_part}
use Rattle.packet.specs.TypeTable.{allowed}
use Rattle.packet.specs.Message.{message_of}
use Rattle.packet.specs.Packet.{PACKET_ROOM}

-- the packet that is written: 00, the length of the part, the part
abbrev pub packet_of : ℕ → List ℕ → List ℕ
packet_of kind payload = 0 ∷ length (encoded_part (message_of kind payload)) ∷ encoded_part (message_of kind payload)

-- what a writing answers: the bytes written, or the number of the refusal
pub data Result : Type 0 where
  written : (count : ℕ) → Result
  refused : (number : ℕ) → Result

-- the number or the value for each case of the answer
abbrev pub result_of : Answer ℕ Error → Result
result_of (Ok count) = written count
result_of (Err e) = refused (number_of e)

-- a result beside the lent buffer
pub record Writing : Type 0 where
  pub result : Result
  pub buffer : List ℕ

-- "packet area under 257 bytes", then "type unknown, or its payload length not allowed"; 0 where nothing is refused
unfoldable pub encode_error : ℕ → List ℕ → List ℕ → ℕ
encode_error kind payload buffer =
    cond (ltb (length buffer) PACKET_ROOM) 20
    (cond (not (allowed kind (length payload))) 8
    0)

-- a refusal changes nothing; "Success changes no part of an area beyond what was written"
unfoldable pub encoded : ℕ → List ℕ → List ℕ → Writing
encoded kind payload buffer =
    cond (eqb (encode_error kind payload buffer) 0)
    (record { result = written (length (packet_of kind payload)); buffer = over (packet_of kind payload) buffer })
    (record { result = refused (encode_error kind payload buffer); buffer = buffer })
