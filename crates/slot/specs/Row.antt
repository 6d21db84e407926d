-- The bytes of a row, and the row that bytes spell: taken, socket, device type, year, 8 bytes of UID, a flag for each parameter,
-- and the bits of each, low byte first. All zeros is an empty row.
use Rattle.std.specs.Prelude.{ℕ, zero, suc, ◌+◌, ◌*◌, Bool, true, false, ◌&&◌, List, [], ◌∷◌, ◌++◌, eqb, leb, length, get_or}
use Rattle.wire.specs.Every.{every}
use Rattle.wire.specs.Number.{number_at, le_bytes}
use Rattle.slot.specs.Slot.{param_count, tabulate}
use Rattle.slot.specs.declared.Slot.{Slot}
use Rattle.slot.specs.declared.Head.{Head}

-- the bytes of a row
abbrev pub slot_size : ℕ
slot_size = 172

-- where the UID starts, and its bytes
abbrev pub uid_from : ℕ
uid_from = 4

abbrev pub uid_size : ℕ
uid_size = 8

-- where the flags start
abbrev pub present_from : ℕ
present_from = 12

-- where the bits start, and the bytes of one value's
abbrev pub bits_from : ℕ
bits_from = 44

abbrev pub word_size : ℕ
word_size = 4

-- a flag as a byte
abbrev pub flag_byte : Bool → ℕ
flag_byte true = 1
flag_byte false = 0

-- a byte that is a flag
abbrev pub flag_legal : ℕ → Bool
flag_legal b = leb b 1

-- the slot that a row's bytes spell
abbrev pub slot_of : List ℕ → Slot
slot_of row =
    record {
      taken = eqb (get_or row 0 0) 1;
      socket = get_or row 1 0;
      device = get_or row 2 0;
      year = get_or row 3 0;
      uid = number_at uid_size row uid_from;
      present = tabulate param_count (λ p. eqb (get_or row (present_from + p) 0) 1);
      bits = tabulate param_count (λ p. number_at word_size row (bits_from + word_size * p));
    }

-- bytes are a row: as many as a row has, and each flag 0 or 1
unfoldable pub is_row : List ℕ → Bool
is_row row =
    eqb (length row) slot_size &&
    (flag_legal (get_or row 0 0) && every param_count (λ p. flag_legal (get_or row (present_from + p) 0)))

-- the bytes of the first n numbers
unfoldable pub spelled : ℕ → (ℕ → ℕ) → List ℕ
spelled zero f = []
spelled (suc n) f = spelled n f ++ le_bytes word_size (f n)

-- a row's bytes before its flags
abbrev pub head_bytes : Bool → ℕ → ℕ → ℕ → ℕ → List ℕ
head_bytes taken socket device year uid = flag_byte taken ∷ socket ∷ device ∷ year ∷ le_bytes uid_size uid

-- its flags
abbrev pub flag_bytes : List Bool → List ℕ
flag_bytes present = tabulate param_count (λ p. flag_byte (get_or present p false))

-- its values' bits
abbrev pub word_bytes : List ℕ → List ℕ
word_bytes bits = spelled param_count (λ p. get_or bits p 0)

-- the bytes that spell a slot
abbrev pub slot_bytes : Slot → List ℕ
slot_bytes s = head_bytes s.taken s.socket s.device s.year s.uid ++ (flag_bytes s.present ++ word_bytes s.bits)

-- a slot without its values
abbrev pub head_of : Slot → Head
head_of s = record { taken = s.taken; socket = s.socket; device = s.device; year = s.year; uid = s.uid }
