-- INTERNAL: what the functions below the call promise each other. A reader of the call's contract needs none of it.
use Rattle.std.specs.Prelude.{◌≡◌, ℕ, ◌+◌, ◌≤◌, Bool, true, false, cond, ◌||◌, List, [], ◌∷◌, length, take, drop, ◌==◌, nat_lt, slice_index, MatchOption}
use Rattle.std.specs.Bool.{beq}
use Rattle.wire.specs.Area.{over}
use Rattle.packet.specs.Packet.{length_byte, packet_error}
use Rattle.packet_line.specs.State.{State, fresh, skipping, inside, size_in, held_in, state_bytes, is_state, line_of}
use Rattle.packet_line.specs.Turn.{Turn}
use Rattle.packet_line.specs.declared.Pushed.{Pushed}
use Rattle.packet_line.specs.declared.Entry.{Entry}
use Rattle.packet_line.specs.Push.{answer_of, Answer, handed_over, refusal, Taken, taken, taken_from, outcome, outcome_of}

-- a state with nothing held, its phase in front
pub record IsClean (line : List ℕ) : Type 0 where
  pub phase : ℕ
  pub zeros : line ≡ line_of (phase ∷ [])

-- a state inside a part
pub record IsInside (line : List ℕ) : Type 0 where
  pub spelled : line ≡ state_bytes (inside (size_in line) (held_in line))
  pub good : is_state (inside (size_in line) (held_in line)) ≡ true

-- a packet area behind the judging of a packet
abbrev pub delivered : List ℕ → List ℕ → List ℕ
delivered bytes area = cond (packet_error bytes == 0) (over (take (length_byte bytes + 2) bytes) area) area

-- an error that only a packet that is all there has was judged; else the packet area is as it was
pub record IsJudged (error : ℕ) (out bytes area : List ℕ) : Type 0 where
  pub whole : (error == 0 || nat_lt 4 error) ≡ true → (error ≡ packet_error bytes) × (out ≡ delivered bytes area)
  pub kept : (error == 0 || nat_lt 4 error) ≡ false → out ≡ area

-- a turn behind which so many bytes are taken
abbrev pub turned : ℕ → Turn → Taken
turned consumed t = taken t.finding consumed t.next

-- the same behind so many more bytes
abbrev pub later : ℕ → Taken → Taken
later n t = taken t.finding (n + t.consumed) t.state

-- an answer behind so many more bytes
abbrev pub pushed_behind : ℕ → Pushed → Pushed
pushed_behind before p = record { finding = p.finding; consumed = before + p.consumed }

abbrev pub entry_behind : ℕ → Entry → Entry
entry_behind before e = record { finding = e.finding; at = before + e.at }

-- the way ends with what the bytes decide
pub record Ended (answer : Answer) (consumed : ℕ) (line out : List ℕ) (state : State) (bytes area : List ℕ) : Type 0 where
  pub fits : consumed ≤ length bytes
  pub found : outcome answer consumed line out ≡ outcome_of (taken_from state bytes) area

-- the way ends at a part that begins behind so many of the bytes
pub record Begun (at : ℕ) (line out : List ℕ) (state : State) (bytes area : List ℕ) : Type 0 where
  pub fits : at ≤ length bytes
  pub within : IsInside line
  pub kept : out ≡ area
  pub rest : taken_from state bytes ≡ later at (taken_from (inside (size_in line) (held_in line)) (drop at bytes))

-- where the way to a part's bytes ends
abbrev pub Entered : Entry → (line out : List ℕ) → State → (bytes area : List ℕ) → Type 0
Entered e line out state bytes area =
    MatchOption e.finding (Begun e.at line out state bytes area) (λ finding. Ended (answer_of finding) e.at line out state bytes area)

-- what is answered of a packet that was judged, and the state behind it
abbrev pub settled_answer : ℕ → Answer
settled_answer error = cond (error == 0) handed_over (refusal error)

abbrev pub settled_state : ℕ → State
settled_state error = cond (error == 0) fresh skipping

-- a byte is 00 exactly where it stands behind the length byte and those held
abbrev pub is_mark : List ℕ → ℕ → ℕ → Bool
is_mark room held i = beq (slice_index room i == 0) (nat_lt held i)

-- how many bytes are not 00
abbrev pub one_if : ℕ → ℕ
one_if b = cond (b == 0) 0 1

unfoldable pub filled_of : List ℕ → ℕ
filled_of [] = 0
filled_of (b ∷ s) = one_if b + filled_of s
