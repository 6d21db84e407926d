-- 01's starred ACK and DEVICE_DATA under "Catalogue C", received on socket 3 by an empty table: answers and rows. The same of a device
-- of year 5, which sends its INT as two bytes.
use Prim.Native.Nat.{ℕ}
use mathlib.Core.Path.{◌≡◌, refl}
use mathlib.Core.Bool.{true, false}
use mathlib.Core.List.{List, [], ◌∷◌}
use lib.ListN.{replicate, set}
use Rattle.wire.specs.Every.{every}
use Rattle.wire.specs.Zero.{has_zero}
use Rattle.packet.specs.Cobs.{plain, lacking}
use Rattle.packet.specs.TypeTable.{allows, allowed}
use Rattle.packet.specs.Message.{xor_from, message_error}
use Rattle.packet.specs.Packet.{front_error, packet_error, refusal, acceptance, decoded}
use Rattle.list.specs.Tree.{none, value, list, int, blob}
use Rattle.catalogue.specs.Format.{type_legal, parameters_before, parameter_legal, legal}
use Rattle.catalogue.specs.Lookup.{device_from, parameter_in}
use Rattle.catalogue.proofs.Bench.{catalogue_c}
use Rattle.slot.specs.Slot.{param_count, tabulate}
use Rattle.slot.specs.Row.{is_row, spelled}
use Rattle.slot.specs.Rows.{with_slot}
use Rattle.table.specs.Places.{slot_count, socket_count, empty_table, holds, place_from, free_from}
use Rattle.lawful.specs.Lawful.{value_lawful, held_lawful, nothing_held, slot_lawful, slots_differ, lawful_at, lawful, admission}
use Rattle.attach.specs.Attach.{acked, uid_elsewhere, uid_free}
use Rattle.parameters.specs.Data.{width, offset_of, held_bits, all_readable, size_of, all_flags, judged, stored_to}
use Rattle.parameters.proofs.Bench.{row_c, old_row}
use Rattle.publish.specs.Published.{element_of, pair, parameters_from, device_row, row_before, devices_from, published}
use Rattle.publish.proofs.Cases.{table_c}
use Rattle.hub.specs.Receive.{accepting, refusing, by_type, received_of}

-- "ACK, type 7, year 6, UID 01 to 08"
abbrev pub ack_c : List ℕ
ack_c = 0x00 ∷ 0x0E ∷ 0x0E ∷ 0x02 ∷ 0x0A ∷ 0x07 ∷ 0x06 ∷ 0x01 ∷ 0x02 ∷ 0x03 ∷ 0x04 ∷ 0x05 ∷ 0x06 ∷ 0x07 ∷ 0x08 ∷ 0x01 ∷ []

-- "DEVICE_DATA, map 5, 7 and true"
abbrev pub data_c : List ℕ
data_c = 0x00 ∷ 0x0D ∷ 0x04 ∷ 0x04 ∷ 0x09 ∷ 0x05 ∷ 0x01 ∷ 0x01 ∷ 0x02 ∷ 0x07 ∷ 0x01 ∷ 0x01 ∷ 0x03 ∷ 0x01 ∷ 0x0E ∷ []

-- the table after the ACK
abbrev pub attached_c : List ℕ
attached_c = with_slot (empty_table slot_count) 0 row_c

-- with a number in the INT, and true, of a device of some year
abbrev holding : ℕ → ℕ → List ℕ
holding year bits =
    with_slot (empty_table slot_count) 0
    (record {
      taken = true;
      socket = 3;
      device = 7;
      year = year;
      uid = 0x0807060504030201;
      present = set (set (replicate param_count false) 0 true) 2 true;
      bits = set (set (replicate param_count 0) 0 bits) 2 1;
    })

-- the table after both
abbrev pub filled_c : List ℕ
filled_c = holding 6 7

-- the ACK with year 5
abbrev old_ack : List ℕ
old_ack = 0x00 ∷ 0x0E ∷ 0x0E ∷ 0x02 ∷ 0x0A ∷ 0x07 ∷ 0x05 ∷ 0x01 ∷ 0x02 ∷ 0x03 ∷ 0x04 ∷ 0x05 ∷ 0x06 ∷ 0x07 ∷ 0x08 ∷ 0x02 ∷ []

-- DEVICE_DATA, map 5, -1 as two bytes and true
abbrev old_data : List ℕ
old_data = 0x00 ∷ 0x0B ∷ 0x04 ∷ 0x04 ∷ 0x07 ∷ 0x05 ∷ 0x01 ∷ 0x01 ∷ 0x05 ∷ 0xFF ∷ 0xFF ∷ 0x01 ∷ 0x07 ∷ []

-- the tables after these
abbrev attached_old : List ℕ
attached_old = with_slot (empty_table slot_count) 0 old_row

abbrev filled_old : List ℕ
filled_old = holding 5 0xFFFF_FFFF

pub record BenchReceive : Type 0 where
  pub ack : received_of catalogue_c (empty_table slot_count) 3 ack_c ≡ accepting attached_c 16
  pub values : received_of catalogue_c attached_c 3 data_c ≡ accepting filled_c 15
  pub ping : received_of catalogue_c filled_c 3 (0x00 ∷ 0x04 ∷ 0x02 ∷ 0x01 ∷ 0x02 ∷ 0x01 ∷ []) ≡ refusing filled_c 19
  pub second-ack : received_of catalogue_c filled_c 3 ack_c ≡ accepting attached_c 16
  pub same-uid : received_of catalogue_c filled_c 4 ack_c ≡ refusing filled_c 14
  pub nobody : received_of catalogue_c filled_c 4 data_c ≡ refusing filled_c 15
  pub old-ack : received_of catalogue_c (empty_table slot_count) 3 old_ack ≡ accepting attached_old 16
  pub old-values : received_of catalogue_c attached_old 3 old_data ≡ accepting filled_old 13
  -- each in the other's layout
  pub old-long : received_of catalogue_c attached_old 3 data_c ≡ refusing attached_old 17
  pub new-short : received_of catalogue_c attached_c 3 old_data ≡ refusing attached_c 17
  -- a second ACK brings year 6: four bytes are taken behind it, as `values` says
  pub second-year : received_of catalogue_c filled_old 3 ack_c ≡ accepting attached_c 16
  -- two bytes FF are posted as -1
  pub old-posted :
      published slot_count socket_count catalogue_c filled_old ≡
      list
      (value (int 3)
      (value (int 7) (value (blob (1 ∷ 2 ∷ 3 ∷ 4 ∷ 5 ∷ 6 ∷ 7 ∷ 8 ∷ [])) (list (pair 0 (int 0xFFFF_FFFF)) (list (pair 2 (int 1)) none)))))
      none
  -- an INT beyond 16 bits that is held for an old device is lawful
  pub old-wide : lawful slot_count socket_count catalogue_c (holding 5 0x1_0000) ≡ true
  -- the bytes of filled_c are those of the table whose list publish shows
  pub same_bytes : filled_c ≡ table_c

pub bench-receive : BenchReceive
unfolding every has_zero plain lacking allows allowed xor_from message_error front_error packet_error refusal acceptance decoded type_legal parameters_before
    parameter_legal legal device_from parameter_in tabulate is_row spelled holds place_from free_from value_lawful held_lawful nothing_held slot_lawful
    slots_differ lawful_at lawful admission acked uid_elsewhere uid_free width offset_of held_bits all_readable size_of all_flags judged stored_to by_type received_of
    element_of parameters_from device_row row_before devices_from
bench-receive =
    record {
      ack = refl;
      values = refl;
      ping = refl;
      second-ack = refl;
      same-uid = refl;
      nobody = refl;
      old-ack = refl;
      old-values = refl;
      old-long = refl;
      new-short = refl;
      second-year = refl;
      old-posted = refl;
      old-wide = refl;
      same_bytes = refl;
    }
