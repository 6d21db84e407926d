-- What the program prints for a socket's line: "one line for each finding", and a last one for where the line ends.
use Rattle.std.specs.Prelude.{ℕ, ◌+◌, ◌-◌, cond, List, [], ◌∷◌, ◌++◌, ltb, length, get_or}
use Rattle.digits.specs.Decimal.{decimal}
use Rattle.packet.specs.Cobs.{decoded_part}
use Rattle.packet.specs.Packet.{part_present}
use Rattle.packet_line.specs.State.{State, fresh, skipping, opened, inside}
use Rattle.packet_line.specs.Turn.{Finding, nothing, good, refused}
use Rattle.packet_line.specs.Findings.{Found, line_findings, line_state}
use Rattle.output.specs.Output.{newline}
use Rattle.report.specs.Limits.{input_limit}
use Rattle.report.specs.Text.{joined, too_long}

-- the type of a packet's message
abbrev pub type_of : List ℕ → ℕ
type_of packet = get_or (decoded_part (part_present packet)) 0 0

-- `packet at 4 bytes 6 type 1`: the place of its 00, its L+2 bytes, its type
abbrev pub packet_pieces : ℕ → List ℕ → List (List ℕ)
packet_pieces at packet =
    (112 ∷ 97 ∷ 99 ∷ 107 ∷ 101 ∷ 116 ∷ 32 ∷ 97 ∷ 116 ∷ 32 ∷ []) ∷ decimal at
    ∷ (32 ∷ 98 ∷ 121 ∷ 116 ∷ 101 ∷ 115 ∷ 32 ∷ []) ∷ decimal (length packet)
    ∷ (32 ∷ 116 ∷ 121 ∷ 112 ∷ 101 ∷ 32 ∷ []) ∷ decimal (type_of packet) ∷ newline ∷ []

unfoldable pub packet_line : ℕ → List ℕ → List ℕ
packet_line at packet = joined (packet_pieces at packet)

-- `refused 3 at 7`: the number, and the place of the byte that decides it
abbrev pub refused_pieces : ℕ → ℕ → List (List ℕ)
refused_pieces number at =
    (114 ∷ 101 ∷ 102 ∷ 117 ∷ 115 ∷ 101 ∷ 100 ∷ 32 ∷ []) ∷ decimal number ∷ (32 ∷ 97 ∷ 116 ∷ 32 ∷ []) ∷ decimal at ∷ newline ∷ []

unfoldable pub refused_line : ℕ → ℕ → List ℕ
refused_line number at = joined (refused_pieces number at)

-- the text of a finding, which the byte at that place decides; it is the last of a good packet
abbrev pub finding_line : ℕ → Finding → List ℕ
finding_line place nothing = []
finding_line place (good packet) = packet_line (place + 1 - length packet) packet
finding_line place (refused number) = refused_line number place

unfoldable pub finding_lines : List Found → List ℕ
finding_lines [] = []
finding_lines (f ∷ fs) = finding_line f.place f.finding ++ finding_lines fs

-- the phase that a line ends in
unfoldable pub phase_name : State → List ℕ
phase_name fresh = 102 ∷ 114 ∷ 101 ∷ 115 ∷ 104 ∷ []
phase_name skipping = 115 ∷ 107 ∷ 105 ∷ 112 ∷ 112 ∷ 105 ∷ 110 ∷ 103 ∷ []
phase_name opened = 108 ∷ 101 ∷ 110 ∷ 103 ∷ 116 ∷ 104 ∷ []
phase_name (inside size held) = 105 ∷ 110 ∷ 115 ∷ 105 ∷ 100 ∷ 101 ∷ []

-- `end 112 fresh`: the bytes read, and the phase
abbrev pub end_pieces : ℕ → State → List (List ℕ)
end_pieces size state = (101 ∷ 110 ∷ 100 ∷ 32 ∷ []) ∷ decimal size ∷ (32 ∷ phase_name state ++ newline) ∷ []

unfoldable pub end_line : ℕ → State → List ℕ
end_line size state = joined (end_pieces size state)

-- the findings of a whole line, and its end
unfoldable pub line_text : List ℕ → List ℕ
line_text line = finding_lines (line_findings line) ++ end_line (length line) (line_state line)

-- "`too long` above 32,768 bytes": what the program prints for the bytes that it reads
unfoldable pub printed : List ℕ → List ℕ
printed line = cond (ltb input_limit (length line)) too_long (line_text line)
