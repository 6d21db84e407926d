-- 01's ACK and DEVICE_DATA under "Catalogue C": "DEVICE_DATA, map 5, 7 and true" gives parameter 0 the value 7 and parameter 2 true.
-- The same device of year 5 sends the INT as two bytes.
use Prim.Native.Nat.{ℕ}
use mathlib.Core.Path.{◌≡◌, refl}
use mathlib.Core.Bool.{true}
use mathlib.Core.List.{List, [], ◌∷◌}
use lib.IntN.{pos, negsuc}
use lib.ListN.{replicate, set}
use Rattle.wire.specs.Every.{every}
use Rattle.catalogue.specs.Format.{parameters_before}
use Rattle.catalogue.specs.Lookup.{device_from, parameter_in}
use Rattle.catalogue.proofs.Bench.{catalogue_c}
use Rattle.value.specs.Meaning.{whole, flag}
use Rattle.slot.specs.Slot.{param_count, fresh_slot}
use Rattle.slot.specs.declared.Slot.{Slot}
use Rattle.table.specs.Change.{accepted, refused}
use Rattle.parameters.specs.Data.{width, offset_of, held_bits, all_readable, size_of, all_flags, judged, stored_to, stored}
use Rattle.parameters.specs.Read.{held, absent, content_of}

-- the row that 01's ACK makes on socket 3
abbrev pub row_c : Slot
row_c = fresh_slot true 3 7 6 0x0807060504030201

abbrev payload_c : List ℕ
payload_c = 5 ∷ 0 ∷ 0 ∷ 0 ∷ 7 ∷ 0 ∷ 0 ∷ 0 ∷ 1 ∷ []

-- the same row of the last year whose devices send two bytes
abbrev pub old_row : Slot
old_row = fresh_slot true 3 7 5 0x0807060504030201

-- map 5, -1 and true
abbrev old_payload : List ℕ
old_payload = 5 ∷ 0 ∷ 0 ∷ 0 ∷ 0xFF ∷ 0xFF ∷ 1 ∷ []

pub record BenchData : Type 0 where
  pub is-accepted : judged catalogue_c row_c payload_c ≡ accepted
  pub words-after : (stored catalogue_c payload_c row_c).bits ≡ set (set (replicate param_count 0) 0 7) 2 1
  pub int-7 : content_of catalogue_c (stored catalogue_c payload_c row_c) 0 ≡ held (whole (pos 7))
  pub float-absent : content_of catalogue_c (stored catalogue_c payload_c row_c) 1 ≡ absent
  pub bool-true : content_of catalogue_c (stored catalogue_c payload_c row_c) 2 ≡ held (flag true)
  pub not-readable : judged catalogue_c row_c (2 ∷ 0 ∷ 0 ∷ 0 ∷ 0 ∷ 0 ∷ 0 ∷ 0 ∷ []) ≡ refused 16
  pub too_long : judged catalogue_c row_c (0 ∷ 0 ∷ 0 ∷ 0 ∷ 0 ∷ []) ≡ refused 17
  pub no_flag : judged catalogue_c row_c (4 ∷ 0 ∷ 0 ∷ 0 ∷ 2 ∷ []) ≡ refused 18
  pub empty-map : judged catalogue_c row_c (0 ∷ 0 ∷ 0 ∷ 0 ∷ []) ≡ accepted
  pub old-accepted : judged catalogue_c old_row old_payload ≡ accepted
  pub old-words : (stored catalogue_c old_payload old_row).bits ≡ set (set (replicate param_count 0) 0 0xFFFF_FFFF) 2 1
  pub old-int : content_of catalogue_c (stored catalogue_c old_payload old_row) 0 ≡ held (whole (negsuc 0))
  pub old-bool : content_of catalogue_c (stored catalogue_c old_payload old_row) 2 ≡ held (flag true)
  pub old-least : content_of catalogue_c (stored catalogue_c (1 ∷ 0 ∷ 0 ∷ 0 ∷ 0 ∷ 0x80 ∷ []) old_row) 0 ≡ held (whole (negsuc 0x7FFF))
  pub old-most : content_of catalogue_c (stored catalogue_c (1 ∷ 0 ∷ 0 ∷ 0 ∷ 0xFF ∷ 0x7F ∷ []) old_row) 0 ≡ held (whole (pos 0x7FFF))
  -- each is 17 in the other's layout
  pub old-long : judged catalogue_c old_row payload_c ≡ refused 17
  pub new-short : judged catalogue_c row_c old_payload ≡ refused 17
  pub old-not-readable : judged catalogue_c old_row (2 ∷ 0 ∷ 0 ∷ 0 ∷ 0 ∷ 0 ∷ []) ≡ refused 16
  pub old-no-flag : judged catalogue_c old_row (5 ∷ 0 ∷ 0 ∷ 0 ∷ 0 ∷ 0 ∷ 2 ∷ []) ≡ refused 18

pub bench-data : BenchData
unfolding judged all_readable size_of all_flags every width offset_of held_bits stored_to content_of parameter_in device_from parameters_before
bench-data =
    record {
      is-accepted = refl;
      words-after = refl;
      int-7 = refl;
      float-absent = refl;
      bool-true = refl;
      not-readable = refl;
      too_long = refl;
      no_flag = refl;
      empty-map = refl;
      old-accepted = refl;
      old-words = refl;
      old-int = refl;
      old-bool = refl;
      old-least = refl;
      old-most = refl;
      old-long = refl;
      new-short = refl;
      old-not-readable = refl;
      old-no-flag = refl;
    }
