-- `line::line_text` meets its contract: call by call, the text is that of the bytes before the offset.
use Prim.Native.Nat.{◌-◌, ◌*◌, ◌≤◌}
use mathlib.Core.Path.{◌≡◌}
use lib.ListN.{length, take}
use Rattle.packet.specs.Packet.{PACKET_ROOM}
use Rattle.packet_line.specs.State.{LINE_ROOM}
use Rattle.report.specs.Limits.{input_limit}
use Rattle.line.specs.Limits.{longest_line, text_room}
use Rattle.line.proofs.Texts.{Done}
use Rattle.line.proofs.line_text.Given as goal

-- the line state and the text so far are those of the bytes before the offset, and each of these has at most one text line
abbrev pub invariant-loop-out : goal.invariant-loop-out
invariant-loop-out l =
    (length l.bytes ≤ input_limit) × (length l.out.buffer ≡ text_room) × (length l.line ≡ LINE_ROOM) × (length l.packet ≡ PACKET_ROOM)
    × (l.offset ≤ length l.bytes) × (l.out.used ≤ longest_line * l.offset) × Done l.bytes l.offset l.line (take l.out.used l.out.buffer)

-- what is left of the bytes
abbrev pub decreases-loop-out : goal.decreases-loop-out
decreases-loop-out l = length l.bytes - l.offset
