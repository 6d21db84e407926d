-- `push` judges the packet area and the line state, and goes on from where the way to a part ends.
use Rattle.std.proofs.Common.{◌≡◌, ℕ, ◌≤◌, true, List, length, drop, sym, refl, ap, ◌∙◌, arith, length-drop, le-ltb, lt-ltb, take, ◌-◌}
use Rattle.packet_line.proofs.Judging.{pushed-line}
use Rattle.packet_line.proofs.Starts.{rest_of, further, took-within}
use Rattle.packet_line.specs.Steps.{Begun}
use Rattle.packet_line.specs.Push.{outcome, Taken, outcome_of, taken_from, pushed, Answer}
use Rattle.packet_line.specs.State.{State, inside, size_in, held_in, state_in, is_line}
use Rattle.packet.specs.Packet.{PACKET_ROOM}
use Rattle.packet_line.proofs.phases.push.Goals as goal

-- an area with room for a packet, and a line state that a line reaches
module _ (line bytes area : List ℕ) (room : PACKET_ROOM ≤ length area) (is : is_line line ≡ true) where
  -- what the state takes of the bytes is what is answered
  answered : outcome_of (taken_from (state_in line) bytes) area ≡ pushed line bytes area
  answered = pushed-line line bytes area _ room is refl

-- a part's bytes come next
module _ (line bytes area line₁ area₁ : List ℕ) (at : ℕ)
    (begins : Begun at line₁ area₁ (state_in line) bytes area) where
  -- the state that the way leaves
  abbrev on : State
  on = inside (size_in line₁) (held_in line₁)

  -- what the part takes of the bytes behind the way
  inner : {a : Answer} {n : ℕ} {line₂ area₂ : List ℕ} → outcome a n line₂ area₂ ≡ outcome_of (taken_from on (take (length bytes - at) (drop at bytes))) area₁
      → outcome a n line₂ area₂ ≡ outcome_of (taken_from on (drop at bytes)) area
  inner e = e ∙ ap (λ (l : List ℕ). outcome_of (taken_from on l) area₁) (rest_of bytes at) ∙ ap (outcome_of (taken_from on (drop at bytes))) begins.kept

pub returns-then-packet-lt-PACKET_ROOM : goal.returns-then-packet-lt-PACKET_ROOM
unfolding pushed
returns-then-packet-lt-PACKET_ROOM c = rw (c.refused.ensures, lt-ltb _ _ c.if-packet-lt-PACKET_ROOM.true)

pub returns-then-not-is_line : goal.returns-then-not-is_line
unfolding pushed
returns-then-not-is_line c =
    let room : PACKET_ROOM ≤ length c.args.packet.now = omega arith in
    rw (c.refused-then-not-is_line.ensures, le-ltb _ _ room, sym c.is_line.ensures ∙ c.if-not-is_line.true)

pub enter-e-requires : goal.enter-e-requires
enter-e-requires c =
    let room : PACKET_ROOM ≤ length c.args.packet.now = omega arith in
    (sym c.is_line.ensures ∙ c.if-not-is_line.false, room)

pub returns-in-Some : goal.returns-in-Some
returns-in-Some c =
    let room : PACKET_ROOM ≤ length c.args.packet.now = omega arith in
    (rw c.in-Some.is at c.enter-e.ensures).found ∙ answered _ c.args.bytes.now _ room (sym c.is_line.ensures ∙ c.if-not-is_line.false)

pub from_inside-requires : goal.from_inside-requires
from_inside-requires c =
    let room : PACKET_ROOM ≤ length c.args.packet.now = omega arith in
    let b = (rw c.in-None.is at c.enter-e.ensures) in
    (b.within, rw b.kept room)

pub behind-requires : goal.behind-requires
behind-requires c =
    let e = (rw c.in-None.is at c.enter-e.ensures) in
    let i = inner c.args.line.now c.args.bytes.now c.args.packet.now _ _ c.enter-e.result.at e c.from_inside.ensures in
    omega (arith, took-within _ _ _ i, length-drop c.enter-e.result.at c.args.bytes.now, e.fits)

pub returns-in-None : goal.returns-in-None
returns-in-None c =
    let room : PACKET_ROOM ≤ length c.args.packet.now = omega arith in
    let line = c.args.line.now in
    let bytes = c.args.bytes.now in
    let area = c.args.packet.now in
    let at = c.enter-e.result.at in
    let b = (rw c.in-None.is at c.enter-e.ensures) in
    rw c.behind.ensures (further at area _ (inner line bytes area _ _ at b c.from_inside.ensures))
    ∙ ap (λ (t : Taken). outcome_of t area) (sym b.rest)
    ∙ answered line bytes area room (sym c.is_line.ensures ∙ c.if-not-is_line.false)
