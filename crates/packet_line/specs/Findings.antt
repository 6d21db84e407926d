-- What a whole line finds, byte by byte.
use Rattle.std.specs.Prelude.{◌≡◌, ℕ, suc, List, [], ◌∷◌}
use Rattle.wire.specs.Number.{Bytes}
use Rattle.packet_line.specs.State.{State, fresh, state_bytes}
use Rattle.packet_line.specs.Turn.{Finding, nothing, good, refused, turn_of}

-- a finding, and the place in the line of the byte that decides it
pub record Found : Type 0 where
  pub place : ℕ
  pub finding : Finding

abbrev pub found : ℕ → Finding → Found
found place finding = record { place = place; finding = finding }

-- a finding before later ones; "more wanted .. is no finding"
abbrev pub noted : ℕ → Finding → List Found → List Found
noted place nothing later = later
noted place (good bytes) later = found place (good bytes) ∷ later
noted place (refused number) later = found place (refused number) ∷ later

-- the findings of bytes from a state on, the first byte at that place
unfoldable pub findings : ℕ → State → List ℕ → List Found
findings place state [] = []
findings place state (b ∷ bytes) = noted place (turn_of state b).finding (findings (suc place) (turn_of state b).next bytes)

-- "The line state follows the bytes taken, refusal or not."
unfoldable pub state_after : State → List ℕ → State
state_after state [] = state
state_after state (b ∷ bytes) = state_after (turn_of state b).next bytes

-- of a line from its start
abbrev pub line_findings : List ℕ → List Found
line_findings line = findings 0 fresh line

abbrev pub line_state : List ℕ → State
line_state line = state_after fresh line

-- a line of bytes that leaves that area; "a line state that no line can reach is 9"
pub record Reached (area : List ℕ) : Type 0 where
  pub line : List ℕ
  pub bytes : Bytes line
  pub left : area ≡ state_bytes (line_state line)
