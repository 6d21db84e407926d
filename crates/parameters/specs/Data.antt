-- DEVICE_DATA ("Data payloads are a 32-bit map .., then the values"; "DEVICE_DATA replaces the named values and no others"),
-- said of the socket's row; the layout of a payload goes by that row.
use Rattle.std.specs.Prelude.{ℕ, zero, suc, ◌+◌, ◌/◌, ◌%◌, ◌^◌, Bool, ◌&&◌, ◌||◌, not, cond, List, ltb, leb, eqb, length, Option, Some, None}
use Rattle.std.proofs.Math.Option as option
use Rattle.std.proofs.Math.Option.{none, some}
use Rattle.wire.specs.Every.{every}
use Rattle.wire.specs.Number.{number_at}
use Rattle.catalogue.specs.Format.{kind_int, kind_float, kind_bool}
use Rattle.catalogue.specs.Lookup.{parameter_of, is_readable, kind_in}
use Rattle.value.specs.Meaning.{extended}
use Rattle.slot.specs.Slot.{param_count, with_value}
use Rattle.slot.specs.Row.{slot_of, slot_bytes, is_row}
use Rattle.slot.specs.Rows.{row_in}
use Rattle.slot.specs.declared.Slot.{Slot}
use Rattle.table.specs.Places.{place_of, row_of}
use Rattle.table.specs.Change.{Verdict, accepted, refused, Effect, refusal, acceptance, Change, becomes, denied, changed_at}

-- "a 32-bit map, low byte first"
abbrev pub map_bytes : ℕ
map_bytes = 4

-- the map stands in front
abbrev pub map_of : List ℕ → ℕ
map_of payload = number_at map_bytes payload 0

-- "bit i for parameter i"
abbrev pub bit_of : ℕ → ℕ → ℕ
bit_of map p = map / 2 ^ p % 2

-- the map names the parameter: its bit is set
abbrev pub named : ℕ → ℕ → Bool
named map p = eqb (bit_of map p) 1

-- "Guests whose year byte is below 6 send an INT as two bytes": the first year whose devices send four
abbrev pub long_int_year : ℕ
long_int_year = 6

-- "an INT as two bytes"
abbrev pub short_width : ℕ
short_width = 2

-- "INT is 4 bytes ..; FLOAT is 4 bytes"
abbrev pub long_width : ℕ
long_width = 4

-- "BOOL is one byte"
abbrev pub flag_width : ℕ
flag_width = 1

-- how many bytes a value of this kind has in a packet of a device of this year
unfoldable pub width : ℕ → ℕ → ℕ
width year kind =
    cond (eqb kind kind_int) (cond (ltb year long_int_year) short_width long_width) (cond (eqb kind kind_float) long_width flag_width)

-- "Width goes by the seated year": that of parameter p in a packet of this row's device
abbrev pub width_of : List ℕ → Slot → ℕ → ℕ
width_of c s p = width s.year (kind_in (parameter_of c s.device p))

-- a value is there where its bit is set
abbrev pub span_if : List ℕ → Slot → ℕ → Bool → ℕ
span_if c s p is_named = cond is_named (width_of c s p) 0

-- "then the values of the set bits in rising order with nothing between": where parameter p's value starts
unfoldable pub offset_of : List ℕ → Slot → ℕ → ℕ → ℕ
offset_of c s map zero = map_bytes
offset_of c s map (suc p) = offset_of c s map p + span_if c s p (named map p)

-- "the signed number is held": what the number of a value's bytes is held as; two bytes are an INT's (`short-int`)
unfoldable pub held_bits : ℕ → ℕ → ℕ
held_bits w number = cond (eqb w short_width) (extended number) number

-- the value of this width at an offset, "low byte first"
abbrev pub value_at : ℕ → List ℕ → ℕ → ℕ
value_at w payload at = held_bits w (number_at w payload at)

-- the value that a payload has for parameter p
abbrev pub value_in : List ℕ → Slot → ℕ → List ℕ → ℕ → ℕ
value_in c s map payload p = value_at (width_of c s p) payload (offset_of c s map p)

-- 16, "a set bit has no readable parameter"
abbrev pub readable_if : List ℕ → Slot → ℕ → Bool → Bool
readable_if c s p is_named = not is_named || is_readable (parameter_of c s.device p)

-- 16 is judged over all set bits
unfoldable pub all_readable : List ℕ → Slot → ℕ → Bool
all_readable c s map = every param_count (λ p. readable_if c s p (named map p))

-- 17, "values longer or shorter than the bits require"
unfoldable pub size_of : List ℕ → Slot → ℕ → ℕ
size_of c s map = offset_of c s map param_count

-- 18, "BOOL neither 0 nor 1"
abbrev pub flag_if : List ℕ → Slot → ℕ → Bool → ℕ → Bool
flag_if c s p is_named bits = not (is_named && eqb (kind_in (parameter_of c s.device p)) kind_bool) || leb bits 1

-- 18 is judged over all set bits
unfoldable pub all_flags : List ℕ → Slot → ℕ → List ℕ → Bool
all_flags c s map payload = every param_count (λ p. flag_if c s p (named map p) (value_in c s map payload p))

-- "for data 15, 16, 17, 18": all but 15, by the row of the socket's device
unfoldable pub judged : List ℕ → Slot → List ℕ → Verdict
judged c s payload =
    cond (all_readable c s (map_of payload))
    (cond (eqb (size_of c s (map_of payload)) (length payload))
    (cond (all_flags c s (map_of payload) payload) accepted (refused 18))
    (refused 17))
    (refused 16)

-- "the named values and no others", for one parameter
abbrev pub store_if : Bool → Slot → ℕ → ℕ → Slot
store_if is_named s p bits = cond is_named (with_value s p bits) s

-- the row s with the payload's values of the first n parameters, where the map names them
unfoldable pub stored_to : List ℕ → Slot → ℕ → List ℕ → ℕ → Slot
stored_to c s map payload zero = s
stored_to c s map payload (suc p) = store_if (named map p) (stored_to c s map payload p) p (value_in c s map payload p)

-- "replaces the named values and no others"
abbrev pub stored : List ℕ → List ℕ → Slot → Slot
stored c payload s = stored_to c s (map_of payload) payload param_count

-- the row with the values, or the number of the refusal
abbrev pub becomes_if : Verdict → Slot → Change
becomes_if accepted s = becomes s
becomes_if (refused number) s = denied number

-- what DEVICE_DATA asks for the socket's row, if it has one; 15, "socket has no guest"
abbrev pub data_change : List ℕ → option.Option Slot → List ℕ → Change
data_change c (some s) payload = becomes_if (judged c s payload) (stored c payload s)
data_change c none payload = denied 15

-- the table after DEVICE_DATA, where the table is lawful
abbrev pub data_applied : ℕ → List ℕ → List ℕ → ℕ → List ℕ → Effect
data_applied slots c t socket payload = changed_at t (place_of slots t socket) (data_change c (row_of slots t socket) payload)

-- bytes of a row after DEVICE_DATA
abbrev pub row_after : List ℕ → Change → Effect
row_after row (becomes s) = acceptance (slot_bytes s)
row_after row (denied number) = refusal row number

-- the same for any bytes in the row's place: 9 where they are no row
abbrev pub changed_row : List ℕ → List ℕ → List ℕ → Effect
changed_row c row payload = cond (is_row row) (row_after row (data_change c (some (slot_of row)) payload)) (refusal row 9)

-- at a place: 9 where its bytes are no row
abbrev pub applied_at : List ℕ → Effect → Option ℕ → Effect
applied_at t e (Some i) = cond (is_row (row_in t i)) e (refusal t 9)
applied_at t e None = e

-- the table after DEVICE_DATA, whatever its bytes are
abbrev pub applied : ℕ → List ℕ → List ℕ → ℕ → List ℕ → Effect
applied slots c t socket payload = applied_at t (data_applied slots c t socket payload) (place_of slots t socket)
