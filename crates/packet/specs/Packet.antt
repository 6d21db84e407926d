-- "A packet is 00, a length byte L, then L encoded bytes, none of them 00."
use Rattle.std.specs.Prelude.{Result, Ok, Err, ℕ, ◌+◌, ◌-◌, ◌≡◌, true, not, cond, List, [], ◌∷◌, ◌++◌, eqb, ltb, length, get_or, take, drop, replicate}
use Rattle.wire.specs.Zero.{has_zero}
use Rattle.wire.specs.Area.{over}
use Rattle.errors.specs.declared.Error.{Error}
use Rattle.errors.specs.Number.{number_of}
use Rattle.packet.specs.declared.Packet.{Packet}
use Rattle.packet.specs.Cobs.{Encodes, lacking, decoded_part}
use Rattle.packet.specs.TypeTable.{type_number, allowed}
use Rattle.packet.specs.Message.{message_of, message_error}

-- the bytes are exactly one packet, of that type and payload
pub record IsPacket (bytes : List ℕ) (kind : ℕ) (payload : List ℕ) : Type 0 where
  pub part : List ℕ
  pub framed : bytes ≡ 0 ∷ length part ∷ part
  pub coded : Encodes part (message_of kind payload)
  pub allows : allowed kind (length payload) ≡ true

-- "L 4 to 255"
abbrev pub PART_LEAST : ℕ
PART_LEAST = 4

abbrev pub PART_MOST : ℕ
PART_MOST = 255

-- bytes that start with a packet of that type and payload, `consumed` bytes long ("Later bytes are ignored")
pub record StartsWith (s : List ℕ) (kind : ℕ) (payload : List ℕ) (consumed : ℕ) : Type 0 where
  pub bytes : List ℕ
  pub later : List ℕ
  pub split : s ≡ bytes ++ later
  pub packet : IsPacket bytes kind payload
  pub size : consumed ≡ length bytes

-- "A working copy of one packet has room for 257 bytes, zeros at first"
abbrev pub PACKET_ROOM : ℕ
PACKET_ROOM = 257

-- bytes at the front of a working copy, zeros behind them
abbrev pub copy_of : List ℕ → List ℕ
copy_of bytes = bytes ++ replicate (PACKET_ROOM - length bytes) 0

-- what a reading finds: type, payload length and bytes taken, or the number of the refusal
pub data Judgement : Type 0 where
  accepted : (kind payload_length consumed : ℕ) → Judgement
  refused : (number : ℕ) → Judgement

-- the number or the values for each case of the answer
abbrev pub judgement_of : Result Packet Error → Judgement
judgement_of (Ok packet) = accepted (type_number packet.kind) packet.payload_len packet.consumed
judgement_of (Err e) = refused (number_of e)

-- a judgement beside the working copy
pub record Reading : Type 0 where
  pub judgement : Judgement
  pub message : List ℕ

-- the length byte L
abbrev pub length_byte : List ℕ → ℕ
length_byte s = get_or s 1 0

-- "the encoded bytes present"
abbrev pub part_present : List ℕ → List ℕ
part_present s = take (length_byte s) (drop 2 s)

-- "1 for no bytes; 2; 1 for one byte; 3; 4; 1"; 0 where none of these is given
unfoldable pub front_error : List ℕ → ℕ
front_error s =
    cond (eqb (length s) 0) 1
    (cond (not (eqb (get_or s 0 0) 0)) 2
    (cond (eqb (length s) 1) 1
    (cond (ltb (length_byte s) PART_LEAST) 3
    (cond (has_zero (part_present s)) 4
    (cond (ltb (length s) (length_byte s + 2)) 1
    0)))))

-- those, then "5; 6; 7; 8"; 0 where nothing is refused
unfoldable pub packet_error : List ℕ → ℕ
packet_error s =
    cond (not (eqb (front_error s) 0)) (front_error s)
    (cond (not (eqb (lacking 0 (part_present s)) 0)) 5
    (message_error (decoded_part (part_present s))))

-- a refusal leaves the working copy all zeros
unfoldable pub refusal : ℕ → Reading
refusal error = record { judgement = refused error; message = copy_of [] }

-- an accepted packet "answers the bytes it took (L+2)", beside its type and payload length
abbrev pub answered : List ℕ → Judgement
answered s = accepted (get_or (decoded_part (part_present s)) 0 0) (length_byte s - 4) (length_byte s + 2)

-- the working copy holds the message of an accepted packet
unfoldable pub acceptance : List ℕ → Reading
acceptance s = record { judgement = answered s; message = copy_of (decoded_part (part_present s)) }

-- "The reader judges the packet at the front of the bytes given": the executable judgement that `decode` answers
unfoldable pub decoded : List ℕ → Reading
decoded s = cond (eqb (packet_error s) 0) (acceptance s) (refusal (packet_error s))

-- a judgement beside the lent buffer
pub record Filling : Type 0 where
  pub judgement : Judgement
  pub buffer : List ℕ

-- "the message goes to a lent packet area, 20 judged first"; 0 where nothing is refused
unfoldable pub fill_error : List ℕ → List ℕ → ℕ
fill_error s buffer = cond (ltb (length buffer) PACKET_ROOM) 20 (packet_error s)

-- a refusal changes nothing; "Success changes no part of an area beyond what was written": what `decode_into` answers
unfoldable pub filled : List ℕ → List ℕ → Filling
filled s buffer =
    cond (eqb (fill_error s buffer) 0)
    (record { judgement = answered s; buffer = over (decoded_part (part_present s)) buffer })
    (record { judgement = refused (fill_error s buffer); buffer = buffer })
