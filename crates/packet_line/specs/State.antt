-- The state of a socket's line ("The caller keeps a line state for each socket, fresh at first"), and the bytes that it is lent as.
use Rattle.std.specs.Prelude.{ℕ, ◌-◌, Bool, true, cond, not, ◌&&◌, List, [], ◌∷◌, ◌++◌, length, take, drop, replicate, ◌==◌, nat_le, nat_lt, slice_index}
use Rattle.wire.specs.Zero.{has_zero}
use Rattle.wire.specs.Equal.{same}
use Rattle.packet.specs.Packet.{PART_LEAST, PART_MOST}

-- fresh: "at the start of a line or straight after a good packet"; skipping: "bytes are skipped to the next 00"; opened: a 00 has come and
-- its length byte has not; inside: so many encoded bytes are to come in all, and these are held
pub data State : Type 0 where
  fresh skipping opened : State
  inside : (size : ℕ) (held : List ℕ) → State

-- the bytes of a line state
abbrev pub LINE_ROOM : ℕ
LINE_ROOM = 259

-- bytes at the front of a line area, zeros behind them
abbrev pub line_of : List ℕ → List ℕ
line_of front = front ++ replicate (LINE_ROOM - length front) 0

-- the first byte, the phase
abbrev pub FRESH : ℕ
FRESH = 0

abbrev pub SKIPPING : ℕ
SKIPPING = 1

abbrev pub OPENED : ℕ
OPENED = 2

abbrev pub INSIDE : ℕ
INSIDE = 3

-- the bytes of a packet that is not all there: its 00, its length byte, the encoded bytes held
abbrev pub begun : ℕ → List ℕ → List ℕ
begun size held = 0 ∷ size ∷ held

-- the phase, the number of encoded bytes held, and the packet as far as it has come; fresh is all zeros, and with nothing held all but the phase are
unfoldable pub state_bytes : State → List ℕ
state_bytes fresh = line_of (FRESH ∷ [])
state_bytes skipping = line_of (SKIPPING ∷ [])
state_bytes opened = line_of (OPENED ∷ [])
state_bytes (inside size held) = line_of (INSIDE ∷ length held ∷ begun size held)

-- inside a part L is 4 to 255, fewer than L bytes are held, and none of them is 00
unfoldable pub is_state : State → Bool
is_state fresh = true
is_state skipping = true
is_state opened = true
is_state (inside size held) = nat_le PART_LEAST size && nat_le size PART_MOST && nat_lt (length held) size && not (has_zero held)

-- L and the encoded bytes that an area holds
abbrev pub size_in : List ℕ → ℕ
size_in line = slice_index line 3

abbrev pub held_in : List ℕ → List ℕ
held_in line = take (slice_index line 1) (drop 4 line)

-- the state that an area spells, if it spells one
unfoldable pub state_in : List ℕ → State
state_in line =
    cond (slice_index line 0 == FRESH) fresh
    (cond (slice_index line 0 == SKIPPING) skipping
    (cond (slice_index line 0 == OPENED) opened
    (inside (size_in line) (held_in line))))

-- the area is the bytes of such a state; every other content is 9, and every other length
unfoldable pub is_line : List ℕ → Bool
is_line line = is_state (state_in line) && same line (state_bytes (state_in line))
