-- 01's bench case of the posted list, and a table whose list has 3,752 bytes.
use Prim.Native.Nat.{ℕ, ◌*◌, ◌-◌}
use mathlib.Core.Path.{◌≡◌, refl}
use mathlib.Core.Bool.{true}
use mathlib.Core.List.{List, [], ◌∷◌, ◌++◌}
use lib.Ieee.{of_bits, to_bits}
use lib.ListN.{length, replicate}
use Rattle.wire.specs.Every.{every}
use Rattle.wire.specs.Number.{le_bytes}
use Rattle.list.specs.Tree.{none, value, list, int, blob}
use Rattle.list.specs.Bytes.{code_for, list_bytes}
use Rattle.catalogue.specs.Format.{type_legal, parameters_before, parameter_legal, legal}
use Rattle.catalogue.specs.Lookup.{device_from, parameter_in}
use Rattle.catalogue.proofs.Bench.{catalogue_c}
use Rattle.slot.specs.Slot.{param_count, tabulate}
use Rattle.slot.specs.Row.{slot_size, uid_size, word_size, is_row}
use Rattle.table.specs.Places.{slot_count, socket_count, holds, place_from}
use Rattle.lawful.specs.Lawful.{value_lawful, held_lawful, nothing_held, slot_lawful, slots_differ, lawful_at, lawful}
use Rattle.publish.specs.Published.{element_of, pair, parameters_from, device_row, row_before, devices_from, published}

-- the table with the device on socket 3 after 01's ACK and DEVICE_DATA: parameter 0 is 7, parameter 2 is 1
abbrev pub table_c : List ℕ
table_c =
    (1 ∷ 3 ∷ 7 ∷ 6 ∷ 1 ∷ 2 ∷ 3 ∷ 4 ∷ 5 ∷ 6 ∷ 7 ∷ 8 ∷ []) ++
    ((1 ∷ 0 ∷ 1 ∷ replicate 29 0) ++
    (le_bytes word_size 7 ++ (le_bytes word_size 0 ++ (le_bytes word_size 1 ++ (replicate (word_size * 29) 0 ++ replicate (slot_size * (slot_count - 1)) 0)))))

-- type 7 with 32 readable FLOATs
abbrev pub catalogue_full : List ℕ
catalogue_full = 1 ∷ 7 ∷ 32 ∷ 32 ∷ 0 ∷ replicate param_count 5

-- a device that holds them all, with its socket as its UID
abbrev full_row : ℕ → List ℕ
full_row n = (1 ∷ n ∷ 7 ∷ 0 ∷ le_bytes uid_size n) ++ (replicate param_count 1 ++ replicate (word_size * param_count) 0)

abbrev pub table_full : List ℕ
table_full = full_row 7 ++ (full_row 2 ++ (full_row 5 ++ full_row 0))

pub record Cases : Type 0 where
  -- "(3 7 blob (0 7) (2 1)) within an outer list"
  pub bench-list :
      published slot_count socket_count catalogue_c table_c ≡
      list
      (value (int 3) (value (int 7) (value (blob (1 ∷ 2 ∷ 3 ∷ 4 ∷ 5 ∷ 6 ∷ 7 ∷ 8 ∷ [])) (list (pair 0 (int 7)) (list (pair 2 (int 1)) none)))))
      none
  -- "the posted list has 80 bytes"
  pub bench-size : length (list_bytes (published slot_count socket_count catalogue_c table_c)) ≡ 80
  -- a lawful table reaches 3,752 bytes
  pub full-catalogue : legal catalogue_full ≡ true
  pub full-lawful : lawful slot_count socket_count catalogue_full table_full ≡ true
  pub full_size : length (list_bytes (published slot_count socket_count catalogue_full table_full)) ≡ 3752

pub cases : Cases
unfolding element_of parameters_from device_row row_before devices_from code_for list_bytes of_bits to_bits every type_legal parameters_before parameter_legal legal
    device_from parameter_in tabulate is_row holds place_from value_lawful held_lawful nothing_held slot_lawful slots_differ lawful_at lawful
cases = record { bench-list = refl; bench-size = refl; full-catalogue = refl; full-lawful = refl; full_size = refl }
