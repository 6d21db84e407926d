-- What one byte of a line decides, and the state behind it.
use Rattle.std.specs.Prelude.{ℕ, ◌+◌, cond, List, [], ◌∷◌, ◌++◌, length, ◌==◌, nat_lt}
use Rattle.packet.specs.Packet.{PART_LEAST, packet_error}
use Rattle.packet_line.specs.State.{State, fresh, skipping, opened, inside, begun}

-- nothing yet, a good packet with its bytes, or a refusal with its number
pub data Finding : Type 0 where
  nothing : Finding
  good : (bytes : List ℕ) → Finding
  refused : (number : ℕ) → Finding

pub record Turn : Type 0 where
  pub finding : Finding
  pub next : State

abbrev pub turn : Finding → State → Turn
turn finding next = record { finding = finding; next = next }

-- "A 00 always starts a packet anew": a 00 gives this finding and opens a packet; any other byte gives the other turn
abbrev pub or_anew : Finding → ℕ → Turn → Turn
or_anew finding b other = cond (b == 0) (turn finding opened) other

-- "as length byte it is 3. Length 1 to 3 is 3; then bytes are skipped to the next 00"
unfoldable pub length_turn : ℕ → Turn
length_turn b = or_anew (refused 3) b (cond (nat_lt b PART_LEAST) (turn (refused 3) skipping) (turn nothing (inside b [])))

-- "5 to 8 come once all L bytes are in"; a packet that the packet reader accepts is a good one
unfoldable pub judged_turn : List ℕ → Turn
judged_turn bytes = cond (packet_error bytes == 0) (turn (good bytes) fresh) (turn (refused (packet_error bytes)) skipping)

-- "inside an encoded part it is 4"; another byte is held, or is the last
unfoldable pub part_turn : ℕ → List ℕ → ℕ → Turn
part_turn size held b =
    or_anew (refused 4) b
    (cond (nat_lt (length held + 1) size) (turn nothing (inside size (held ++ b ∷ []))) (judged_turn (begun size (held ++ b ∷ []))))

-- "Non-00 bytes at the start of a line or straight after a good packet give one 2 for the whole stretch, at its first byte;
-- a stretch after any other refusal gives nothing."
unfoldable pub turn_of : State → ℕ → Turn
turn_of fresh b = or_anew nothing b (turn (refused 2) skipping)
turn_of skipping b = or_anew nothing b (turn nothing skipping)
turn_of opened b = length_turn b
turn_of (inside size held) b = part_turn size held b
