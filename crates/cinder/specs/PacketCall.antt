-- Packet reading as the display firmware calls it ("calls the packet and list readers with numbers and byte areas").
use Rattle.std.specs.Prelude.{ℕ, ◌+◌, cond, List, ltb, length, take, Result, Ok, Err}
use Rattle.errors.specs.declared.Error.{Error}
use Rattle.errors.specs.Number.{number_of}
use Rattle.wire.specs.Area.{over}
use Rattle.packet.specs.Packet.{Judgement, accepted, refused, PACKET_ROOM, decoded}
use Rattle.cinder.specs.declared.packet_call.PacketResult.{PacketResult}

-- the refusal number, 0 for none, the bytes taken, and the lent packet area
pub record PacketOutcome : Type 0 where
  pub error : ℕ
  pub consumed : ℕ
  pub message : List ℕ

-- the code's answer in numbers: the bytes taken, or "Each refusal returns its number"
abbrev pub reading_result : Result ℕ Error → PacketResult
reading_result (Ok consumed) = record { error = 0; consumed = consumed }
reading_result (Err e) = record { error = number_of e; consumed = 0 }

-- each judgement in numbers: a message of L-1 bytes, 3 more than its payload, goes to the front of the area and nothing else changes
abbrev pub in_numbers : Judgement → List ℕ → List ℕ → PacketOutcome
in_numbers (accepted type payload_length consumed) copy buffer = record { error = 0; consumed = consumed; message = over (take (payload_length + 3) copy) buffer }
in_numbers (refused number) copy buffer = record { error = number; consumed = 0; message = buffer }

-- "the message goes to a lent packet area, 20 judged first"
unfoldable pub packet_call : List ℕ → List ℕ → PacketOutcome
packet_call bytes buffer =
    cond (ltb (length buffer) PACKET_ROOM)
    (record { error = 20; consumed = 0; message = buffer })
    (in_numbers (decoded bytes).judgement (decoded bytes).message buffer)
