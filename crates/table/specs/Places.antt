-- The slots of a table ("Sockets are 0 to 7, seats four"): how many there are is an argument, and the table is lent as bytes.
use Rattle.std.specs.Prelude.{ℕ, zero, suc, ◌+◌, ◌*◌, Bool, true, false, ◌&&◌, cond, List, eqb, replicate, Option, Some, None}
use Rattle.std.proofs.Math.Option as option
use Rattle.std.proofs.Math.Option.{none, some}
use Rattle.slot.specs.Row.{slot_size}
use Rattle.slot.specs.Rows.{slot_at}
use Rattle.slot.specs.declared.Slot.{Slot}

-- "seats four"
abbrev pub slot_count : ℕ
slot_count = 4

-- "Sockets are 0 to 7"
abbrev pub socket_count : ℕ
socket_count = 8

-- the bytes of a table of so many slots
abbrev pub table_size : ℕ → ℕ
table_size slots = slot_size * slots

-- the table at first
abbrev pub empty_table : ℕ → List ℕ
empty_table slots = replicate (table_size slots) 0

-- the slot is taken by the device on this socket
unfoldable pub holds : Slot → ℕ → Bool
holds s socket = s.taken && eqb s.socket socket

-- the first of the n slots from slot i on that holds the socket's device
unfoldable pub place_from : ℕ → List ℕ → ℕ → ℕ → Option ℕ
place_from zero t socket i = None
place_from (suc n) t socket i = cond (holds (slot_at t i) socket) (Some i) (place_from n t socket (i + 1))

-- where the socket's device is
abbrev pub place_of : ℕ → List ℕ → ℕ → Option ℕ
place_of slots t socket = place_from slots t socket 0

-- "the lowest empty seat", of the n slots from slot i on
unfoldable pub free_from : ℕ → List ℕ → ℕ → Option ℕ
free_from zero t i = None
free_from (suc n) t i = cond (slot_at t i).taken (free_from n t (i + 1)) (Some i)

-- the lowest empty slot of all
abbrev pub free_of : ℕ → List ℕ → Option ℕ
free_of slots t = free_from slots t 0

-- the place is a slot
abbrev pub is_slot : Option ℕ → Bool
is_slot (Some i) = true
is_slot None = false

-- the row at a place, if it is a slot
abbrev pub row_at : List ℕ → Option ℕ → option.Option Slot
row_at t (Some i) = some (slot_at t i)
row_at t None = none

-- the row of the socket's device, if it has one
abbrev pub row_of : ℕ → List ℕ → ℕ → option.Option Slot
row_of slots t socket = row_at t (place_of slots t socket)
