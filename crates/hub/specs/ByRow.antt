-- What a packet does for its socket's row: the answer and the row afterwards go by that row alone, for an ACK also by two facts
-- about the other rows.
use Rattle.std.specs.Prelude.{ℕ, Bool, cond, List, eqb}
use Rattle.std.proofs.Math.Option.{Option, some}
use Rattle.packet.specs.TypeTable.{ACK, DEVICE_DATA, LOG}
use Rattle.packet.specs.Packet.{Judgement, Reading}
use Rattle.packet.specs.Packet as packet
use Rattle.slot.specs.declared.Slot.{Slot}
use Rattle.table.specs.Change.{Change, becomes, denied}
use Rattle.attach.specs.Attach.{acked}
use Rattle.parameters.specs.Data.{data_change}
use Rattle.hub.specs.Receive.{Outcome, accepted, refused, payload_in}

-- an answer beside the socket's row afterwards, if it has one
pub record RowReceiving : Type 0 where
  pub outcome : Outcome
  pub row : Option Slot

-- what a change answers, and the row that it leaves; a refusal keeps the row
abbrev pub row_answering : Option Slot → Change → ℕ → RowReceiving
row_answering own (becomes row) consumed = record { outcome = accepted consumed; row = some row }
row_answering own (denied number) consumed = record { outcome = refused number; row = own }

-- a message by its type: `is_uid_free` and `any_free` bear on an ACK alone
unfoldable pub row_by_type : List ℕ → ℕ → Option Slot → ℕ → List ℕ → ℕ → Bool → Bool → RowReceiving
row_by_type c socket own type payload consumed is_uid_free any_free =
    cond (eqb type ACK) (row_answering own (acked c socket own payload is_uid_free any_free) consumed)
    (cond (eqb type DEVICE_DATA) (row_answering own (data_change c own payload) consumed)
    (cond (eqb type LOG) (record { outcome = accepted consumed; row = own })
    (record { outcome = refused 19; row = own })))

-- the packet reader's refusal, or the message by its type
abbrev pub row_by_judgement : List ℕ → ℕ → Option Slot → Judgement → List ℕ → Bool → Bool → RowReceiving
row_by_judgement c socket own (packet.accepted type n consumed) message is_uid_free any_free =
    row_by_type c socket own type (payload_in message n) consumed is_uid_free any_free
row_by_judgement c socket own (packet.refused number) message is_uid_free any_free = record { outcome = refused number; row = own }

-- what a reading of the packet leads to, for the socket's row
abbrev pub row_received : List ℕ → ℕ → Option Slot → Reading → Bool → Bool → RowReceiving
row_received c socket own r is_uid_free any_free = row_by_judgement c socket own r.judgement r.message is_uid_free any_free
