-- Captured lines, as one table of the definitions: each with its findings, by the place of the byte that decides them, and the end state.
use Rattle.std.proofs.Common.{◌≡◌, ℕ, List, [], ◌∷◌, ◌++◌, map, refl}
use Rattle.wire.specs.Zero.{has_zero}
use Rattle.packet.specs.Cobs.{plain, lacking}
use Rattle.packet.specs.TypeTable.{allows, allowed}
use Rattle.packet.specs.Message.{xor_from, message_error}
use Rattle.packet.specs.Packet.{front_error, packet_error}
use Rattle.packet_line.specs.State.{State, fresh, skipping, opened, inside}
use Rattle.packet_line.specs.Turn.{good, refused, turn_of, length_turn, part_turn, judged_turn}
use Rattle.packet_line.specs.Findings.{Found, found, findings, state_after, line_findings, line_state}

-- what a line finds, and its end state
pub record Read : Type 0 where
  pub finds : List Found
  pub ends : State

-- a case: the line, and what it gives
pub record Case : Type 0 where
  pub line : List ℕ
  pub gives : Read

abbrev case : List ℕ → List Found → State → Case
case line finds ends = record { line = line; gives = record { finds = finds; ends = ends } }

abbrev PING : List ℕ
PING = 0x00 ∷ 0x04 ∷ 0x02 ∷ 0x01 ∷ 0x02 ∷ 0x01 ∷ []

abbrev pub table : List Case
table =
    case [] [] fresh
    ∷ case PING (found 5 (good PING) ∷ []) fresh
    ∷ case (0x07 ∷ 0x09 ∷ PING) (found 0 (refused 2) ∷ found 7 (good PING) ∷ []) fresh
    ∷ case (PING ++ PING) (found 5 (good PING) ∷ found 11 (good PING) ∷ []) fresh
    ∷ case (PING ++ (0x07 ∷ 0x09 ∷ [])) (found 5 (good PING) ∷ found 6 (refused 2) ∷ []) skipping
    ∷ case (0x00 ∷ 0x04 ∷ 0x02 ∷ PING) (found 3 (refused 4) ∷ found 8 (good PING) ∷ []) fresh
    ∷ case (0x00 ∷ PING) (found 1 (refused 3) ∷ found 6 (good PING) ∷ []) fresh
    ∷ case (0x00 ∷ 0x03 ∷ 0x02 ∷ 0x01 ∷ PING) (found 1 (refused 3) ∷ found 9 (good PING) ∷ []) fresh
    ∷ case (0x00 ∷ 0x04 ∷ 0x02 ∷ 0x01 ∷ 0x02 ∷ 0x02 ∷ 0x07 ∷ PING) (found 5 (refused 7) ∷ found 12 (good PING) ∷ []) fresh
    ∷ case (0x00 ∷ 0x00 ∷ 0x00 ∷ []) (found 1 (refused 3) ∷ found 2 (refused 3) ∷ []) opened
    ∷ case (0x00 ∷ 0x03 ∷ PING) (found 1 (refused 3) ∷ found 7 (good PING) ∷ []) fresh
    ∷ case (0x00 ∷ 0x04 ∷ 0x02 ∷ 0x01 ∷ 0x02 ∷ PING) (found 5 (refused 4) ∷ found 10 (good PING) ∷ []) fresh
    ∷ case (0x00 ∷ 0x04 ∷ 0x05 ∷ 0x01 ∷ 0x02 ∷ 0x01 ∷ PING) (found 5 (refused 5) ∷ found 11 (good PING) ∷ []) fresh
    ∷ case (0x00 ∷ 0x04 ∷ 0x04 ∷ 0x01 ∷ 0x01 ∷ 0x01 ∷ PING) (found 5 (refused 6) ∷ found 11 (good PING) ∷ []) fresh
    ∷ case (0x00 ∷ 0x04 ∷ 0x02 ∷ 0x09 ∷ 0x02 ∷ 0x09 ∷ PING) (found 5 (refused 8) ∷ found 11 (good PING) ∷ []) fresh
    ∷ case (0x07 ∷ 0x00 ∷ []) (found 0 (refused 2) ∷ []) opened
    ∷ case (PING ++ (0x00 ∷ [])) (found 5 (good PING) ∷ []) opened
    ∷ case (0x00 ∷ 0x04 ∷ 0x02 ∷ 0x01 ∷ []) [] (inside 4 (0x02 ∷ 0x01 ∷ []))
    ∷ []

pub cases : map (λ (c : Case). record { finds = line_findings c.line; ends = line_state c.line }) table ≡ map (λ (c : Case). c.gives) table
unfolding has_zero plain lacking allows allowed xor_from message_error front_error packet_error turn_of length_turn part_turn judged_turn findings state_after
cases = refl
