-- The packets that stand whole in a line, no matter what stands around them.
use Rattle.std.specs.Prelude.{◌≡◌, ℕ, suc, ◌+◌, ◌-◌, ◌≤◌, cond, List, [], ◌∷◌, ◌++◌, length, take, ◌==◌}
use Rattle.packet.specs.Packet.{IsPacket, length_byte, packet_error}
use Rattle.packet_line.specs.Turn.{Finding, nothing, good, refused}
use Rattle.packet_line.specs.Findings.{Found}

-- a packet's bytes, and the place of its 00
pub record Standing : Type 0 where
  pub place : ℕ
  pub bytes : List ℕ

abbrev pub standing : ℕ → List ℕ → Standing
standing place bytes = record { place = place; bytes = bytes }

-- the bytes are a packet, and stand in the line at that place
pub record StandsAt (line : List ℕ) (place : ℕ) (bytes : List ℕ) : Type 0 where
  pub before : List ℕ
  pub later : List ℕ
  pub split : line ≡ before ++ (bytes ++ later)
  pub placed : place ≡ length before
  pub kind : ℕ
  pub payload : List ℕ
  pub packet : IsPacket bytes kind payload

-- the packet that bytes start with, if the packet reader accepts one there
abbrev pub packet_at : ℕ → List ℕ → List Standing
packet_at place s = cond (packet_error s == 0) (standing place (take (length_byte s + 2) s) ∷ []) []

-- every place of a line in turn
unfoldable pub packets_in : ℕ → List ℕ → List Standing
packets_in place [] = []
packets_in place (b ∷ bytes) = packet_at place (b ∷ bytes) ++ packets_in (suc place) bytes

-- the packet of a finding, which its last byte decides
abbrev pub handing : ℕ → Finding → List Standing → List Standing
handing place nothing later = later
handing place (good bytes) later = standing (place + 1 - length bytes) bytes ∷ later
handing place (refused number) later = later

-- the packets that findings hand over
unfoldable pub handed : List Found → List Standing
handed [] = []
handed (f ∷ fs) = handing f.place f.finding (handed fs)

-- "in order": each begins at or behind the end of the one before
abbrev pub Rising : ℕ → List Standing → Type 0
Rising from [] = Unit {0}
Rising from (s ∷ ss) = (from ≤ s.place) × Rising (s.place + length s.bytes) ss
