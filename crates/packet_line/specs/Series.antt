-- A series of calls on one line: "The driver hands over bytes in scraps"; "The rest is handed in again."
use Rattle.std.specs.Prelude.{◌≡◌, ℕ, zero, suc, ◌+◌, ◌-◌, ◌≤◌, List, [], ◌∷◌, length, take, drop}
use Rattle.packet.specs.Packet.{PACKET_ROOM, length_byte}
use Rattle.packet_line.specs.State.{fresh, state_bytes}
use Rattle.packet_line.specs.Turn.{Finding, nothing, good, refused}
use Rattle.packet_line.specs.Findings.{Found, noted, line_findings, line_state}
use Rattle.packet_line.specs.Push.{Answer, more_wanted, handed_over, refusal, Outcome, pushed}

-- how many of the bytes that are left a call is given, all where there are fewer, also none; and the packet area that it is lent, of any size and holding anything
pub record Lending : Type 0 where
  pub size : ℕ
  pub packet : List ℕ

-- each call is given bytes from the first on that was not taken, and the line state that the call before left
unfoldable pub series : List ℕ → List ℕ → List Lending → List Outcome
series line rest [] = []
series line rest (l ∷ ls) =
    pushed line (take l.size rest) l.packet
    ∷ series (pushed line (take l.size rest) l.packet).line (drop (pushed line (take l.size rest) l.packet).consumed rest) ls

-- the bytes taken by all calls
unfoldable pub all_taken : List Outcome → ℕ
all_taken [] = 0
all_taken (o ∷ os) = o.consumed + all_taken os

-- the line state that the last call left
unfoldable pub last_line : List ℕ → List Outcome → List ℕ
last_line line [] = line
last_line line (o ∷ os) = last_line o.line os

-- the finding that an answer hands over: a packet is the L+2 bytes at the front of its area; a refusal that takes no byte (20 and 9 alone do) is none
abbrev pub finding_in : Answer → ℕ → List ℕ → Finding
finding_in more_wanted consumed area = nothing
finding_in handed_over consumed area = good (take (length_byte area + 2) area)
finding_in (refusal number) zero area = nothing
finding_in (refusal number) (suc consumed) area = refused number

-- the findings of all calls; the last byte that a call took decides its finding
unfoldable pub all_found : ℕ → List Outcome → List Found
all_found place [] = []
all_found place (o ∷ os) =
    noted (place + o.consumed - 1) (finding_in o.answer o.consumed o.packet) (all_found (place + o.consumed) os)

-- "However the line is cut, empty scraps too, findings and end state are equal": those of the bytes taken, as one piece from a fresh line
pub record Followed (line : List ℕ) (os : List Outcome) : Type 0 where
  pub within : all_taken os ≤ length line
  pub found : all_found 0 os ≡ line_findings (take (all_taken os) line)
  pub left : last_line (state_bytes fresh) os ≡ state_bytes (line_state (take (all_taken os) line))

-- a call with room on a line state takes a byte where it is given one, and all of them where it finds nothing: handing in the rest again ends
pub record GetsOn (bytes : List ℕ) (o : Outcome) : Type 0 where
  pub within : o.consumed ≤ length bytes
  pub some : 1 ≤ length bytes → 1 ≤ o.consumed
  pub all : o.answer ≡ more_wanted → o.consumed ≡ length bytes

-- calls that have room and are given a byte at least, as long as there is one
abbrev pub Able : List Lending → Type 0
Able [] = Unit {0}
Able (l ∷ ls) = (1 ≤ l.size) × (PACKET_ROOM ≤ length l.packet) × Able ls
