-- What the packet reader says of a packet as far as it has come: each finding is that.
use Rattle.std.specs.Prelude.{ℕ, cond, List, [], ◌∷◌, ◌==◌}
use Rattle.packet.specs.Packet.{packet_error}
use Rattle.packet_line.specs.State.{State, fresh, skipping, opened, inside, begun}
use Rattle.packet_line.specs.Turn.{Finding, nothing, good, refused}

-- the bytes of the packet that a state has begun
abbrev pub so_far : State → List ℕ
so_far fresh = []
so_far skipping = []
so_far opened = 0 ∷ []
so_far (inside size held) = begun size held

-- "1 becomes "more wanted" here"
unfoldable pub verdict : List ℕ → Finding
verdict s = cond (packet_error s == 0) (good s) (cond (packet_error s == 1) nothing (refused (packet_error s)))
