-- One call: some bytes of the line are handed in; what is answered, and what the line state and the packet area hold afterwards.
use Rattle.std.specs.Prelude.{ℕ, suc, cond, List, [], ◌∷◌, length, nat_lt}
use Rattle.wire.specs.Area.{over}
use Rattle.packet.specs.Packet.{PACKET_ROOM}
use Rattle.errors.specs.Number.{number_of}
use Rattle.packet_line.specs.declared.Finding.{Finding as Declared}
use Rattle.packet_line.specs.declared.Finding.TheVariants as declared
use Rattle.packet_line.specs.State.{State, state_bytes, state_in, is_line}
use Rattle.packet_line.specs.Turn.{Finding, nothing, good, refused, turn_of}

-- a finding, the bytes taken, and the state behind them
pub record Taken : Type 0 where
  pub finding : Finding
  pub consumed : ℕ
  pub state : State

abbrev pub taken : Finding → ℕ → State → Taken
taken finding consumed state = record { finding = finding; consumed = consumed; state = state }

-- a byte that decides a finding is the last one taken; behind any other the call goes on with the rest
abbrev pub or_rest : Finding → State → Taken → Taken
or_rest nothing next rest = taken rest.finding (suc rest.consumed) rest.state
or_rest (good bytes) next rest = taken (good bytes) 1 next
or_rest (refused number) next rest = taken (refused number) 1 next

-- "a call gives one finding and the bytes taken, through the one that decides it"; "more wanted" "takes the whole scrap"
unfoldable pub taken_from : State → List ℕ → Taken
taken_from state [] = taken nothing 0 state
taken_from state (b ∷ bytes) = or_rest (turn_of state b).finding (turn_of state b).next (taken_from (turn_of state b).next bytes)

-- what is answered: "more wanted", a packet, or a refusal
pub data Answer : Type 0 where
  more_wanted : Answer
  handed_over : Answer
  refusal : (number : ℕ) → Answer

-- the answer of a call, the bytes taken, and both areas
pub record Outcome : Type 0 where
  pub answer : Answer
  pub consumed : ℕ
  pub line : List ℕ
  pub packet : List ℕ

abbrev pub outcome : Answer → ℕ → List ℕ → List ℕ → Outcome
outcome answer consumed line packet = record { answer = answer; consumed = consumed; line = line; packet = packet }

-- a good packet's bytes go to the front of the packet area, which nothing else changes
abbrev pub in_areas : Finding → ℕ → List ℕ → List ℕ → Outcome
in_areas nothing consumed line area = outcome more_wanted consumed line area
in_areas (good bytes) consumed line area = outcome handed_over consumed line (over bytes area)
in_areas (refused number) consumed line area = outcome (refusal number) consumed line area

abbrev pub outcome_of : Taken → List ℕ → Outcome
outcome_of t area = in_areas t.finding t.consumed (state_bytes t.state) area

-- 20 is judged first; "a line state that no line can reach is 9, which takes nothing and keeps it"
unfoldable pub pushed : List ℕ → List ℕ → List ℕ → Outcome
pushed line bytes area =
    cond (nat_lt (length area) PACKET_ROOM) (outcome (refusal 20) 0 line area)
    (cond (is_line line) (outcome_of (taken_from (state_in line) bytes) area)
    (outcome (refusal 9) 0 line area))

-- what the code's answer says
abbrev pub answer_of : Declared → Answer
answer_of declared.Nothing = more_wanted
answer_of declared.Packet = handed_over
answer_of (declared.Refused e) = refusal (number_of e)
