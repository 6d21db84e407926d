-- Internal: a packet area that holds a good packet.
use Rattle.std.specs.Prelude.{ℕ, ◌+◌, ◌≤◌, ◌≡◌, List, length, take}
use Rattle.packet.specs.Packet.{length_byte, packet_error}

-- the L+2 bytes at the front
abbrev pub packet_in : List ℕ → List ℕ
packet_in area = take (length_byte area + 2) area

-- they are a good packet, which ends before this offset of its line
pub record Holds (area : List ℕ) (end : ℕ) : Type 0 where
  pub fits : length_byte area + 2 ≤ length area
  pub within : length_byte area + 2 ≤ end
  pub accepted : packet_error (packet_in area) ≡ 0
