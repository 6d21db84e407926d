-- A call on a line takes no more than it is given, whatever the line state and the packet area are.
use Prim.Native.Nat.{ℕ, ◌≤◌}
use mathlib.Core.Path.{◌≡◌, ap}
use mathlib.Core.Bool.{Bool, true, false, cond}
use mathlib.Core.List.{List}
use native.Mathlib.Omega.{arith}
use lib.Dec.{ltb}
use lib.ListN.{length}
use Rattle.packet.specs.Packet.{PACKET_ROOM}
use Rattle.packet_line.specs.State.{is_line, state_in, state_bytes}
use Rattle.packet_line.specs.Push.{Answer, refusal, Taken, taken_from, Outcome, outcome, outcome_of, pushed}
use Rattle.packet_line.proofs.Taking.{taken-within}
use Rattle.packet_line.proofs.Calls.{areas-fields}

pushed-within : (line bytes area : List ℕ) → (pushed line bytes area).consumed ≤ length bytes
unfolding pushed
pushed-within line bytes area = go (ltb (length area) PACKET_ROOM) (is_line line)
  where
    t : Taken
    t = taken_from (state_in line) bytes

    go : (short whole : Bool)
        → (cond short (outcome (refusal 20) 0 line area) (cond whole (outcome_of t area) (outcome (refusal 9) 0 line area))).consumed ≤ length bytes
    go true whole = omega arith
    go false true = omega (arith, ap (λ (z : Outcome). z.consumed) (areas-fields t.finding t.consumed (state_bytes t.state) area), taken-within (state_in line) bytes)
    go false false = omega arith

pub call-within : {a : Answer} {line' area' : List ℕ} (line bytes area : List ℕ) (consumed : ℕ) → outcome a consumed line' area' ≡ pushed line bytes area
    → consumed ≤ length bytes
call-within line bytes area consumed o = omega (arith, ap (λ (z : Outcome). z.consumed) o, pushed-within line bytes area)
