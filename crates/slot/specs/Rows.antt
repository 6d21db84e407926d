-- A table is lent as bytes: rows back to back.
use Rattle.std.specs.Prelude.{ℕ, ◌+◌, ◌*◌, cond, ◌&&◌, List, eqb, ltb, leb, length, take, drop, set}
use Rattle.wire.specs.Area.{put_at}
use Rattle.wire.specs.Number.{le_bytes}
use Rattle.slot.specs.Slot.{param_count, empty_slot}
use Rattle.slot.specs.Row.{slot_size, present_from, bits_from, word_size, slot_of, slot_bytes}
use Rattle.slot.specs.declared.Slot.{Slot}

-- the bytes of row i
abbrev pub row_in : List ℕ → ℕ → List ℕ
row_in t i = take slot_size (drop (slot_size * i) t)

-- the slot that bytes spell, an empty one where they are not as many as a row's
abbrev pub slot_in : List ℕ → Slot
slot_in row = cond (eqb (length row) slot_size) (slot_of row) empty_slot

-- the row in slot i, an empty one past the last whole row
abbrev pub slot_at : List ℕ → ℕ → Slot
slot_at t i = cond (leb (slot_size * i + slot_size) (length t)) (slot_of (row_in t i)) empty_slot

-- the table with another row in slot i, where it has that slot
abbrev pub with_slot : List ℕ → ℕ → Slot → List ℕ
with_slot t i s = put_at t (slot_size * i) (slot_bytes s)

-- a row's bytes with a value of parameter p held
abbrev pub held_in : List ℕ → ℕ → ℕ → List ℕ
held_in row p bits =
    cond (eqb (length row) slot_size && ltb p param_count)
    (put_at (set row (present_from + p) 1) (bits_from + word_size * p) (le_bytes word_size bits))
    row
