-- The published list ("The posted list has one row for each seated socket, in rising socket order").
use Rattle.std.specs.Prelude.{ℕ, zero, suc, ◌+◌, ◌/◌, ◌%◌, Bool, true, false, cond, List}
use Rattle.std.proofs.Math.Option as option
use Rattle.std.proofs.Math.Option.{Option, some}
use Rattle.std.specs.Float.{binary64}
use Rattle.std.specs.Float.Ieee.{to_bits}
use Rattle.std.specs.Int.{w32}
use Rattle.std.proofs.Common.{of_z}
use Rattle.wire.specs.Number.{le_bytes}
use Rattle.list.specs.Tree as tree
use Rattle.list.specs.Tree.{Elements, none, value, list, int, float, blob}
use Rattle.catalogue.specs.Lookup.{parameter_of, kind_in}
use Rattle.value.specs.Meaning.{value_of, widened}
use Rattle.value.specs.declared.Value.{Value}
use Rattle.value.specs.declared.Value.TheVariants as values
use Rattle.slot.specs.Slot.{param_count, present_at, bits_at}
use Rattle.slot.specs.Row.{uid_size}
use Rattle.slot.specs.declared.Slot.{Slot}
use Rattle.table.specs.Places.{row_of}

-- the 64 bits of a double as a NetFloat: low half, high half
abbrev pub double : ℕ → tree.Value
double bits = float (bits % 0x1_0000_0000) (bits / 0x1_0000_0000)

-- "INT and BOOL become NetInt; FLOAT becomes the double of exactly the same value", a NaN by its bits
unfoldable pub element_of : Value → tree.Value
element_of (values.Int z) = int (of_z w32 z)
element_of (values.Bool b) = int (cond b 1 0)
element_of (values.Float x) = double (to_bits binary64 x)
element_of (values.Nan bits) = double (widened bits)

-- the value that a slot holds for parameter p, of the catalogue's kind
abbrev pub held_value : List ℕ → Slot → ℕ → Value
held_value c s p = value_of (kind_in (parameter_of c s.device p)) (bits_at s p)

-- "a list of its index and value"
abbrev pub pair : ℕ → tree.Value → Elements
pair p v = value (int p) (value v none)

-- a list, if it is called for, before the elements behind it
abbrev pub list_if : Bool → Elements → Elements → Elements
list_if false inner rest = rest
list_if true inner rest = list inner rest

-- "for each held parameter, rising": of the n parameters from p on
unfoldable pub parameters_from : ℕ → List ℕ → Slot → ℕ → Elements
parameters_from zero c s p = none
parameters_from (suc n) c s p = list_if (present_at s p) (pair p (element_of (held_value c s p))) (parameters_from n c s (p + 1))

-- a device's row: "socket, type (both NetInt), UID (NetBlob), then for each held parameter"
unfoldable pub device_row : List ℕ → Slot → Elements
device_row c s =
    value (int s.socket) (value (int s.device) (value (blob (le_bytes uid_size s.uid)) (parameters_from param_count c s 0)))

-- the row of a socket's device, if it has one, before the rows of the sockets above it
unfoldable pub row_before : List ℕ → Option Slot → Elements → Elements
row_before c option.none rest = rest
row_before c (some s) rest = list (device_row c s) rest

-- "in rising socket order": of the n sockets from `socket` on
unfoldable pub devices_from : ℕ → ℕ → List ℕ → List ℕ → ℕ → Elements
devices_from zero slots c t socket = none
devices_from (suc n) slots c t socket = row_before c (row_of slots t socket) (devices_from n slots c t (socket + 1))

-- "one row for each seated socket"
abbrev pub published : ℕ → ℕ → List ℕ → List ℕ → Elements
published slots sockets c t = devices_from sockets slots c t 0
