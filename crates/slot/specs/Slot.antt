-- A row of the table ("A row holds socket, device type, year, UID and, for each of 32 parameters, absent or a value").
use Rattle.std.specs.Prelude.{ℕ, zero, suc, ◌<◌, ◌^◌, ◌≡◌, Bool, true, false, List, [], ◌∷◌, ◌++◌, length, get_or, set, replicate}
use Rattle.catalogue.specs.Format.{max_parameters}
use Rattle.slot.specs.declared.Slot.{Slot}

-- "each of 32 parameters", the catalogue's greatest number of them
abbrev pub param_count : ℕ
param_count = max_parameters

-- the values at the first n indices
unfoldable pub tabulate : {A : Type 0} → ℕ → (ℕ → A) → List A
tabulate zero f = []
tabulate (suc n) f = tabulate n f ++ (f n ∷ [])

-- "for each of 32 parameters, absent or a value"
abbrev pub present_at : Slot → ℕ → Bool
present_at s p = get_or s.present p false

-- the bits of a held value, "absent values .. as zeros"
abbrev pub bits_at : Slot → ℕ → ℕ
bits_at s p = get_or s.bits p 0

-- a row with no values held; absent values are zeros
abbrev pub fresh_slot : Bool → ℕ → ℕ → ℕ → ℕ → Slot
fresh_slot taken socket device year uid =
    record {
      taken = taken;
      socket = socket;
      device = device;
      year = year;
      uid = uid;
      present = replicate param_count false;
      bits = replicate param_count 0;
    }

-- "empty seats .. are stored as zeros"
abbrev pub empty_slot : Slot
empty_slot = fresh_slot false 0 0 0 0

-- the row with one value held
abbrev pub with_value : Slot → ℕ → ℕ → Slot
with_value s p bits =
    record {
      taken = s.taken;
      socket = s.socket;
      device = s.device;
      year = s.year;
      uid = s.uid;
      present = set s.present p true;
      bits = set s.bits p bits;
    }

-- what the types of a slot's fields say: bytes, a UID of 64 bits, 32 flags and 32 numbers of 32 bits
pub record Fits (s : Slot) : Type 0 where
  pub socket-byte : s.socket < 256
  pub device-byte : s.device < 256
  pub year-byte : s.year < 256
  pub uid-small : s.uid < 256 ^ 8
  pub presents : length s.present ≡ param_count
  pub words : length s.bits ≡ param_count
  pub word_small : (p : ℕ) → bits_at s p < 256 ^ 4
