-- The starred packet cases of "Bench cases", as one table of the definitions: each input with the judgement and the message that it gives.
use Prim.Native.Nat.{ℕ}
use mathlib.Core.Path.{◌≡◌, refl}
use mathlib.Core.List.{List, [], ◌∷◌, map}
use Rattle.wire.specs.Zero.{has_zero}
use Rattle.packet.specs.Cobs.{plain, lacking}
use Rattle.packet.specs.TypeTable.{PING, ACK, DEVICE_DATA, allows, allowed}
use Rattle.packet.specs.Message.{xor_from, message_error}
use Rattle.packet.specs.Packet.{Reading, accepted, refused, copy_of, front_error, packet_error, refusal, acceptance, decoded}

-- a case: the bytes, and what reading them gives
pub record Case : Type 0 where
  pub bytes : List ℕ
  pub gives : Reading

abbrev takes : List ℕ → ℕ → ℕ → ℕ → List ℕ → Case
takes s kind n consumed message = record { bytes = s; gives = record { judgement = accepted kind n consumed; message = copy_of message } }

abbrev refuses : List ℕ → ℕ → Case
refuses s number = record { bytes = s; gives = record { judgement = refused number; message = copy_of [] } }

abbrev pub table : List Case
table =
    takes (0x00 ∷ 0x04 ∷ 0x02 ∷ 0x01 ∷ 0x02 ∷ 0x01 ∷ []) PING 0 6 (1 ∷ 0 ∷ 1 ∷ [])
    ∷ refuses (0x00 ∷ 0x04 ∷ 0x02 ∷ 0x01 ∷ 0x02 ∷ 0x02 ∷ []) 7
    ∷ refuses (0x00 ∷ 0x03 ∷ 0x02 ∷ 0x01 ∷ 0x02 ∷ 0x01 ∷ []) 3
    ∷ refuses (0x00 ∷ 0x04 ∷ 0x02 ∷ 0x01 ∷ []) 1
    ∷ refuses (0x00 ∷ 0x04 ∷ 0x02 ∷ 0x00 ∷ []) 4
    ∷ takes (0x00 ∷ 0x0E ∷ 0x0E ∷ 0x02 ∷ 0x0A ∷ 0x07 ∷ 0x06 ∷ 0x01 ∷ 0x02 ∷ 0x03 ∷ 0x04 ∷ 0x05 ∷ 0x06 ∷ 0x07 ∷ 0x08 ∷ 0x01 ∷ []) ACK 10 16
    (2 ∷ 10 ∷ 7 ∷ 6 ∷ 1 ∷ 2 ∷ 3 ∷ 4 ∷ 5 ∷ 6 ∷ 7 ∷ 8 ∷ 1 ∷ [])
    ∷ takes (0x00 ∷ 0x0D ∷ 0x04 ∷ 0x04 ∷ 0x09 ∷ 0x05 ∷ 0x01 ∷ 0x01 ∷ 0x02 ∷ 0x07 ∷ 0x01 ∷ 0x01 ∷ 0x03 ∷ 0x01 ∷ 0x0E ∷ []) DEVICE_DATA 9 15
    (4 ∷ 9 ∷ 5 ∷ 0 ∷ 0 ∷ 0 ∷ 7 ∷ 0 ∷ 0 ∷ 0 ∷ 1 ∷ 14 ∷ [])
    ∷ []

pub cases : map (λ (c : Case). decoded c.bytes) table ≡ map (λ (c : Case). c.gives) table
unfolding has_zero plain lacking allows allowed xor_from message_error front_error packet_error refusal acceptance decoded
cases = refl
