-- "A packet is handed in with its socket": what is answered, and the table afterwards.
use Rattle.std.specs.Prelude.{ℕ, cond, List, eqb, take, drop, Result, Ok, Err}
use Rattle.errors.specs.Number.{number_of}
use Rattle.errors.specs.declared.Error.{Error}
use Rattle.packet.specs.TypeTable.{ACK, DEVICE_DATA, LOG}
use Rattle.packet.specs.Packet.{Judgement, Reading, decoded}
use Rattle.packet.specs.Packet as packet
use Rattle.table.specs.Places.{slot_count, socket_count}
use Rattle.table.specs.Change.{Verdict, Effect}
use Rattle.table.specs.Change as change
use Rattle.lawful.specs.Lawful.{admission}
use Rattle.attach.specs.Attach.{assigned}
use Rattle.parameters.specs.Data.{data_applied}

-- "an accepted one answers the bytes it took"; "Each refusal returns its number"
pub data Outcome : Type 0 where
  accepted : (consumed : ℕ) → Outcome
  refused : (number : ℕ) → Outcome

-- the bytes taken, or the number of the refusal, for each case of the answer
abbrev pub outcome_of : Result ℕ Error → Outcome
outcome_of (Ok consumed) = accepted consumed
outcome_of (Err e) = refused (number_of e)

-- an outcome beside the table afterwards
pub record Receiving : Type 0 where
  pub outcome : Outcome
  pub table : List ℕ

-- "Table and lent areas keep their old contents"
abbrev pub refusing : List ℕ → ℕ → Receiving
refusing t number = record { outcome = refused number; table = t }

-- accepted, beside the table afterwards
abbrev pub accepting : List ℕ → ℕ → Receiving
accepting t consumed = record { outcome = accepted consumed; table = t }

-- an ACK or DEVICE_DATA that is accepted answers the bytes of its packet
abbrev pub answered_by : Verdict → ℕ → Outcome
answered_by change.accepted consumed = accepted consumed
answered_by (change.refused number) consumed = refused number

-- the same beside the table
abbrev pub answering : Effect → ℕ → Receiving
answering e consumed = record { outcome = answered_by e.verdict consumed; table = e.table }

-- "The message is type, payload length, payload, checksum": the payload in the working copy
abbrev pub payload_in : List ℕ → ℕ → List ℕ
payload_in message n = take n (drop 2 message)

-- "LOG is accepted and changes nothing. PING and DEVICE_WRITE are for guests, not the hub" (19)
unfoldable pub by_type : List ℕ → List ℕ → ℕ → ℕ → List ℕ → ℕ → Receiving
by_type c t socket type payload consumed =
    cond (eqb type ACK) (answering (assigned slot_count c t socket payload) consumed)
    (cond (eqb type DEVICE_DATA) (answering (data_applied slot_count c t socket payload) consumed)
    (cond (eqb type LOG) (accepting t consumed)
    (refusing t 19)))

-- "packet, 19": the packet reader's refusal, or the message by its type
abbrev pub by_judgement : List ℕ → List ℕ → ℕ → Judgement → List ℕ → Receiving
by_judgement c t socket (packet.accepted type n consumed) message = by_type c t socket type (payload_in message n) consumed
by_judgement c t socket (packet.refused number) message = refusing t number

-- what a reading of the packet leads to
abbrev pub by_reading : List ℕ → List ℕ → ℕ → Reading → Receiving
by_reading c t socket r = by_judgement c t socket r.judgement r.message

-- 11, 9 and 10 come first
abbrev pub received_if : Verdict → List ℕ → Receiving → Receiving
received_if change.accepted t r = r
received_if (change.refused number) t r = refusing t number

-- "Handing in: 11, 9, 10, packet, 19; for ACK then 12, 14, 13; for data 15, 16, 17, 18"
unfoldable pub received_of : List ℕ → List ℕ → ℕ → List ℕ → Receiving
received_of c t socket s = received_if (admission slot_count socket_count c t socket) t (by_reading c t socket (decoded s))
