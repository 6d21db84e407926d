-- "A table is lawful if .." (01, "The table"): the sentence as a record of facts, and the same as a test that computes.
use Rattle.std.specs.Prelude.{ℕ, ◌<◌, ◌≤◌, ◌≡◌, Bool, true, false, ◌&&◌, ◌||◌, not, cond, List, ◌≢◌, ltb, leb, eqb, length, Option}
use Rattle.std.specs.Option.{is_some}
use Rattle.wire.specs.Every.{every}
use Rattle.catalogue.specs.Format.{kind_bool, legal}
use Rattle.catalogue.specs.Lookup.{device_of, parameter_of, is_readable, kind_in}
use Rattle.catalogue.specs.declared.Parameter.{Parameter}
use Rattle.slot.specs.Slot.{param_count, present_at, bits_at}
use Rattle.slot.specs.Row.{is_row}
use Rattle.slot.specs.Rows.{row_in, slot_at}
use Rattle.slot.specs.declared.Slot.{Slot}
use Rattle.table.specs.Places.{table_size}
use Rattle.table.specs.Change.{Verdict, accepted, refused}

-- what the sentence says of one slot
pub record LawfulSlot (sockets : ℕ) (c : List ℕ) (s : Slot) : Type 0 where
  -- "sockets are 0 to 7"
  pub socket-small : s.taken ≡ true → s.socket < sockets
  -- "empty seats .. are stored as zeros"
  pub empty-zeros : s.taken ≡ false → (s.socket ≡ 0) × (s.device ≡ 0) × (s.year ≡ 0) × (s.uid ≡ 0)
  pub empty-absent : s.taken ≡ false → (p : ℕ) → p < param_count → present_at s p ≡ false
  -- "absent values are stored as zeros"
  pub absent-zero : (p : ℕ) → p < param_count → present_at s p ≡ false → bits_at s p ≡ 0
  -- "each type is in the catalogue"
  pub type-known : s.taken ≡ true → is_some (device_of c s.device) ≡ true
  -- "each held value belongs to a readable parameter of that kind (flags 0 or 1)"
  pub value-readable : (p : ℕ) → p < param_count → present_at s p ≡ true → is_readable (parameter_of c s.device p) ≡ true
  pub flag_small : (p : ℕ) → p < param_count → present_at s p ≡ true → kind_in (parameter_of c s.device p) ≡ kind_bool → bits_at s p ≤ 1

-- a lawful table of so many slots and sockets: the sentence, of all slots
pub record Lawful (slots sockets : ℕ) (c t : List ℕ) : Type 0 where
  -- the bytes are rows
  pub whole : length t ≡ table_size slots
  pub each_row : (i : ℕ) → i < slots → is_row (row_in t i) ≡ true
  pub each-slot : (i : ℕ) → i < slots → LawfulSlot sockets c (slot_at t i)
  -- "sockets .. differ"
  pub sockets-differ :
      (i j : ℕ) → i < slots → j < slots → i ≢ j → (slot_at t i).taken ≡ true → (slot_at t j).taken ≡ true →
      (slot_at t i).socket ≢ (slot_at t j).socket
  -- "UIDs differ"
  pub uids-differ :
      (i j : ℕ) → i < slots → j < slots → i ≢ j → (slot_at t i).taken ≡ true → (slot_at t j).taken ≡ true →
      (slot_at t i).uid ≢ (slot_at t j).uid

-- the test of one value: held ones are readable and a flag is 0 or 1, absent ones are zeros
unfoldable pub value_lawful : Option Parameter → Bool → ℕ → Bool
value_lawful p present bits = cond present (is_readable p && (not (eqb (kind_in p) kind_bool) || leb bits 1)) (eqb bits 0)

-- the same of parameter p, by the catalogue's kind of it
unfoldable pub held_lawful : List ℕ → Slot → ℕ → Bool
held_lawful c s p = value_lawful (parameter_of c s.device p) (present_at s p) (bits_at s p)

-- of an empty slot: parameter p is absent and its bits are 0
unfoldable pub nothing_held : Slot → ℕ → Bool
nothing_held s p = not (present_at s p) && eqb (bits_at s p) 0

-- the test of one slot
unfoldable pub slot_lawful : ℕ → List ℕ → Slot → Bool
slot_lawful sockets c s =
    cond s.taken (ltb s.socket sockets && (is_some (device_of c s.device) && every param_count (held_lawful c s)))
    (eqb s.socket 0 && (eqb s.device 0 && (eqb s.year 0 && (eqb s.uid 0 && every param_count (nothing_held s)))))

-- two devices differ in socket and UID
unfoldable pub slots_differ : Slot → Slot → Bool
slots_differ s t = not (s.taken && t.taken) || (not (eqb s.socket t.socket) && not (eqb s.uid t.uid))

-- slot i: a row, lawful by itself and against the slots before it
unfoldable pub lawful_at : ℕ → List ℕ → List ℕ → ℕ → Bool
lawful_at sockets c t i =
    is_row (row_in t i) && (slot_lawful sockets c (slot_at t i) && every i (λ j. slots_differ (slot_at t j) (slot_at t i)))

-- the test of a table
unfoldable pub lawful : ℕ → ℕ → List ℕ → List ℕ → Bool
lawful slots sockets c t = eqb (length t) (table_size slots) && every slots (lawful_at sockets c t)

-- "Handing in: 11, 9, 10", and the same before leaving and reading
unfoldable pub admission : ℕ → ℕ → List ℕ → List ℕ → ℕ → Verdict
admission slots sockets c t socket =
    cond (legal c) (cond (lawful slots sockets c t) (cond (ltb socket sockets) accepted (refused 10)) (refused 9)) (refused 11)
