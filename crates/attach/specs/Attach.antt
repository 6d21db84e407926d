-- ACK and leaving (01, "The table"), with the refusals of "Refusal numbers": each is said of the socket's row, and the table follows.
use Rattle.std.specs.Option.{is_some}
use Rattle.std.specs.Prelude.{ℕ, Bool, true, ◌&&◌, not, cond, List, eqb, get_or, Option, Some, None}
use Rattle.std.proofs.Math.Option as option
use Rattle.std.proofs.Math.Option.{none, some}
use Rattle.wire.specs.Every.{every}
use Rattle.wire.specs.Number.{number_at}
use Rattle.catalogue.specs.Lookup.{device_of}
use Rattle.slot.specs.Slot.{fresh_slot, empty_slot}
use Rattle.slot.specs.Row.{uid_size}
use Rattle.slot.specs.Rows.{slot_at}
use Rattle.slot.specs.declared.Slot.{Slot}
use Rattle.table.specs.Places.{place_of, free_of, is_slot, row_of}
use Rattle.table.specs.Change.{Effect, Change, becomes, denied, changed_at}

-- ACK's payload, "10: device type, year, 8 bytes of UID": the first byte
abbrev pub device_in : List ℕ → ℕ
device_in payload = get_or payload 0 0

-- the second byte
abbrev pub year_in : List ℕ → ℕ
year_in payload = get_or payload 1 0

-- the eight bytes behind it, as one number, low byte first
abbrev pub uid_in : List ℕ → ℕ
uid_in payload = number_at uid_size payload 2

-- the row that an ACK makes, "with no values held"
abbrev pub ack_row : ℕ → List ℕ → Slot
ack_row socket payload = fresh_slot true socket (device_in payload) (year_in payload) (uid_in payload)

-- "from a socket already seated it replaces the row", else "the lowest empty seat" is wanted
abbrev pub has_slot : option.Option Slot → Bool → Bool
has_slot (some own) any_free = true
has_slot none any_free = any_free

-- "for ACK then 12, 14, 13", by the socket's own row, if it has one, and two facts about the others: the UID is at no other
-- socket, and a slot is free
unfoldable pub acked : List ℕ → ℕ → option.Option Slot → List ℕ → Bool → Bool → Change
acked c socket own payload is_uid_free any_free =
    cond (is_some (device_of c (device_in payload)))
    (cond is_uid_free (cond (has_slot own any_free) (becomes (ack_row socket payload)) (denied 13)) (denied 14))
    (denied 12)

-- 14, "UID seated at another socket": a taken slot of another socket has it
unfoldable pub uid_elsewhere : ℕ → ℕ → Slot → Bool
uid_elsewhere socket uid s = s.taken && (not (eqb s.socket socket) && eqb s.uid uid)

-- no other socket's device has the UID
unfoldable pub uid_free : ℕ → List ℕ → ℕ → ℕ → Bool
uid_free slots t socket uid = every slots (λ i. not (uid_elsewhere socket uid (slot_at t i)))

-- "ACK seats the guest in the lowest empty seat; from a socket already seated it replaces the row"
abbrev pub or_free : ℕ → List ℕ → Option ℕ → Option ℕ
or_free slots t (Some i) = Some i
or_free slots t None = free_of slots t

-- the slot that an ACK is for
abbrev pub place_for : ℕ → List ℕ → ℕ → Option ℕ
place_for slots t socket = or_free slots t (place_of slots t socket)

-- what an ACK asks for its socket's row in this table
abbrev pub ack_change : ℕ → List ℕ → List ℕ → ℕ → List ℕ → Change
ack_change slots c t socket payload =
    acked c socket (row_of slots t socket) payload (uid_free slots t socket (uid_in payload)) (is_slot (free_of slots t))

-- the table after an ACK
abbrev pub assigned : ℕ → List ℕ → List ℕ → ℕ → List ℕ → Effect
assigned slots c t socket payload = changed_at t (place_for slots t socket) (ack_change slots c t socket payload)

-- "Leaving empties the row"; 15, "socket has no guest"
abbrev pub leaving : option.Option Slot → Change
leaving (some own) = becomes empty_slot
leaving none = denied 15

-- the table after a device has left
abbrev pub left : ℕ → List ℕ → ℕ → Effect
left slots t socket = changed_at t (place_of slots t socket) (leaving (row_of slots t socket))
