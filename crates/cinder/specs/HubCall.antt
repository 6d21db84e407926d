-- The hub's calls as firmware makes them, with numbers and byte areas; the table is one of the areas.
use Rattle.std.specs.Prelude.{ℕ, List}
use Rattle.value.specs.Meaning.{Meaning, whole, single, nan, flag, int_bits, float_bits, flag_bits}
use Rattle.table.specs.Change.{Verdict, accepted, refused}
use Rattle.parameters.specs.Read.{Finding, held, absent}
use Rattle.parameters.specs.Read as read
use Rattle.publish.specs.Outcome as publish
use Rattle.hub.specs.Receive as receive
use Rattle.hub.specs.Receive.{Outcome, received_of}
use Rattle.hub.specs.Calls.{detached, read_of, publish_of}
use Rattle.cinder.specs.WriteCall.{WriteOutcome, wrote, not_written}
use Rattle.cinder.specs.declared.write_call.WriteResult.{WriteResult}
use Rattle.cinder.specs.declared.packet_call.PacketResult.{PacketResult}
use Rattle.cinder.specs.declared.hub_call.ValueResult.{ValueResult}

-- an answer beside the table afterwards
pub record TableOutcome (A : Type 0) : Type 0 where
  pub answer : A
  pub table : List ℕ

-- "an accepted one answers the bytes it took"; on a refusal the number, and nothing is taken
abbrev pub receipt_numbers : Outcome → PacketResult
receipt_numbers (receive.accepted consumed) = record { error = 0; consumed = consumed }
receipt_numbers (receive.refused number) = record { error = number; consumed = 0 }

-- handing in
unfoldable pub receive_call : List ℕ → List ℕ → ℕ → List ℕ → TableOutcome PacketResult
receive_call c t socket s =
    record { answer = receipt_numbers (received_of c t socket s).outcome; table = (received_of c t socket s).table }

-- the number of a refusal, 0 for none
abbrev pub verdict_number : Verdict → ℕ
verdict_number accepted = 0
verdict_number (refused number) = number

-- leaving
unfoldable pub detach_call : List ℕ → List ℕ → ℕ → TableOutcome ℕ
detach_call c t socket = record { answer = verdict_number (detached c t socket).verdict; table = (detached c t socket).table }

-- what posting answers in numbers
abbrev pub publish_numbers : publish.Result → WriteResult
publish_numbers (publish.written count) = wrote count
publish_numbers (publish.refused number) = not_written number

-- posting
unfoldable pub publish_call : List ℕ → List ℕ → List ℕ → WriteOutcome
publish_call c t area = record { answer = publish_numbers (publish_of c t area).result; area = (publish_of c t area).buffer }

-- "one of a whole number, a single float or a flag": 1, 2 or 3, and the bits of the number, the single or the flag
abbrev pub numbers_of : Meaning → ValueResult
numbers_of (whole number) = record { error = 0; kind = 1; bits = int_bits number }
numbers_of (single number) = record { error = 0; kind = 2; bits = float_bits number }
numbers_of (nan bits) = record { error = 0; kind = 2; bits = bits }
numbers_of (flag set) = record { error = 0; kind = 3; bits = flag_bits set }

-- "absent or a value": 0 for absent
abbrev pub value_numbers : Finding → ValueResult
value_numbers (held v) = numbers_of v
value_numbers absent = record { error = 0; kind = 0; bits = 0 }
value_numbers (read.refused number) = record { error = number; kind = 0; bits = 0 }

-- reading one parameter
unfoldable pub read_call : List ℕ → List ℕ → ℕ → ℕ → ValueResult
read_call c t socket index = value_numbers (read_of c t socket index)
