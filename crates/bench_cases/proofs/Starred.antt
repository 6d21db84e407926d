-- The starred cases of 01's "Bench cases", in its order, as one table of the definitions that the contracts cite.
-- Each crate proves its own cases; here they stand together.
use Prim.Native.Nat.{ℕ}
use mathlib.Core.Path.{◌≡◌, refl, ap}
use mathlib.Core.Bool.{true, false}
use mathlib.Core.List.{List, [], ◌∷◌, ◌++◌, map}
use lib.ListN.{get_or, set, take}
use Rattle.std.specs.Prelude.{Some}
use Rattle.packet.specs.TypeTable.{PING, ACK, DEVICE_DATA}
use Rattle.packet.specs.Message.{xor_from, message_of}
use Rattle.packet.specs.Packet.{Reading, accepted, refused, copy_of, decoded}
use Rattle.packet.proofs.Cases as packets
use Rattle.packet.proofs.Cases.{Case, table}
use Rattle.catalogue.specs.declared.Kind.TheVariants as kind
use Rattle.catalogue.specs.Format.{legal}
use Rattle.catalogue.specs.Lookup.{device_of, parameter_of}
use Rattle.catalogue.proofs.Bench.{catalogue_c, bench-C}
use Rattle.list.specs.Limits.{list_limit}
use Rattle.list.specs.Tree.{none}
use Rattle.list.specs.Bytes.{number, list_bytes}
use Rattle.list.specs.Rows.{row_count}
use Rattle.list.specs.Refusal.{refusal, refusal_at}
use Rattle.list.specs.Parse.{good, bad, parse}
use Rattle.list.proofs.Cases as lists
use Rattle.list.proofs.Cases.{primes, prime_bytes, two_lists, two_list_bytes}
use Rattle.hub.proofs.Bench.{ack_c, data_c}

abbrev pub ping_bytes : List ℕ
ping_bytes = 0x00 ∷ 0x04 ∷ 0x02 ∷ 0x01 ∷ 0x02 ∷ 0x01 ∷ []

-- a packet of this type and payload that takes so many bytes: its message stands in the working copy
abbrev pub packet_of : ℕ → ℕ → List ℕ → ℕ → Reading
packet_of kind n payload consumed =
    record { judgement = accepted kind n consumed; message = copy_of (message_of kind payload) }

abbrev pub error_of : ℕ → Reading
error_of number = record { judgement = refused number; message = copy_of [] }

pub record Starred : Type 0 where
  -- "PING: 00 04 02 01 02 01."
  pub ping : decoded ping_bytes ≡ packet_of PING 0 [] 6
  -- "The same with last byte 02: 7. With L 03: 3. First four bytes only: 1. 00 04 02 00: 4."
  pub ping-last-byte : decoded (set ping_bytes 5 0x02) ≡ error_of 7
  pub ping-length : decoded (set ping_bytes 1 0x03) ≡ error_of 3
  pub ping-cut : decoded (take 4 ping_bytes) ≡ error_of 1
  pub ping-zero : decoded (0x00 ∷ 0x04 ∷ 0x02 ∷ 0x00 ∷ []) ≡ error_of 4
  -- "Catalogue C: 01 07 03 03 00 04 09 06 (type 7; INT readable, FLOAT writable, BOOL readable)."
  pub c-bytes : catalogue_c ≡ 0x01 ∷ 0x07 ∷ 0x03 ∷ 0x03 ∷ 0x00 ∷ 0x04 ∷ 0x09 ∷ 0x06 ∷ []
  pub c-legal : legal catalogue_c ≡ true
  pub c-type : device_of catalogue_c 7 ≡ Some (record { first = 0; parameters = 3 })
  pub c-int : parameter_of catalogue_c 7 0 ≡ Some (record { kind = kind.Int; readable = true; writable = false })
  pub c-float : parameter_of catalogue_c 7 1 ≡ Some (record { kind = kind.Float; readable = false; writable = true })
  pub c-bool : parameter_of catalogue_c 7 2 ≡ Some (record { kind = kind.Bool; readable = true; writable = false })
  -- "ACK, type 7, year 6, UID 01 to 08", 16 bytes
  pub ack : decoded ack_c ≡ packet_of ACK 10 (7 ∷ 6 ∷ 1 ∷ 2 ∷ 3 ∷ 4 ∷ 5 ∷ 6 ∷ 7 ∷ 8 ∷ []) 16
  -- "DEVICE_DATA, map 5, 7 and true", 15 bytes
  pub device-data : decoded data_c ≡ packet_of DEVICE_DATA 9 (5 ∷ 0 ∷ 0 ∷ 0 ∷ 7 ∷ 0 ∷ 0 ∷ 0 ∷ 1 ∷ []) 15
  -- "Source document 002's primes: 40 bytes, 9 rows."
  pub primes-40 : parse list_limit prime_bytes ≡ good primes 40
  pub primes-9 : row_count primes ≡ 9
  pub primes-written : list_bytes primes ≡ prime_bytes
  -- "Its two-list example: 72 bytes, 10 rows."
  pub two-lists-72 : parse list_limit two_list_bytes ≡ good two_lists 72
  pub two-lists-10 : row_count two_lists ≡ 10
  pub two-lists-written : list_bytes two_lists ≡ two_list_bytes
  -- "Numbers 256, 0: the empty list. 257, 0: refused 24 at 0. 256, 1, 1, 5: 24 at 0. 512, 0: 22 at 0."
  pub empty-list : parse list_limit (number 256 ++ number 0) ≡ good none 8
  pub typed-empty : parse list_limit (number 257 ++ number 0) ≡ bad (refusal_at 24 0 1)
  pub untyped-int : parse list_limit (number 256 ++ number 1 ++ number 1 ++ number 5) ≡ bad (refusal_at 24 0 1)
  pub no-list : parse list_limit (number 512 ++ number 0) ≡ bad (refusal 22 0)

-- row i of packet's table
packet-case :
    (i : ℕ) → get_or (map (λ (c : Case). decoded c.bytes) table) i (error_of 0) ≡ get_or (map (λ (c : Case). c.gives) table) i (error_of 0)
packet-case i = ap (λ (rs : List Reading). get_or rs i (error_of 0)) packets.cases

pub starred : Starred
unfolding xor_from
starred =
    record {
      ping = packet-case 0;
      ping-last-byte = packet-case 1;
      ping-length = packet-case 2;
      ping-cut = packet-case 3;
      ping-zero = packet-case 4;
      c-bytes = refl;
      c-legal = bench-C.is-legal;
      c-type = bench-C.type-7;
      c-int = bench-C.int-readable;
      c-float = bench-C.float-writable;
      c-bool = bench-C.bool-readable;
      ack = packet-case 5;
      device-data = packet-case 6;
      primes-40 = (lists.cases).0.0;
      primes-9 = (lists.cases).0.2;
      primes-written = (lists.cases).0.1;
      two-lists-72 = (lists.cases).1.0;
      two-lists-10 = (lists.cases).1.2;
      two-lists-written = (lists.cases).1.1;
      empty-list = (lists.cases).2;
      typed-empty = (lists.cases).3;
      untyped-int = (lists.cases).4;
      no-list = (lists.cases).5;
    }
