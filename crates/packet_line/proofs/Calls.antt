-- One call: what it finds, takes and leaves; 20 and 9.
use Rattle.std.proofs.Common.{◌≡◌, ℕ, zero, suc, ◌+◌, ◌-◌, ◌<◌, ◌≤◌, Bool, true, false, ◌↔◌, List, [], ◌∷◌, length, take, drop, sym, refl, ap, ◌∙◌, arith, take_at, le-ltb, lt-ltb}
use native.Mathlib.Decide.{dec_le}
use lib.ListN.{get_or-append}
use Rattle.wire.specs.Number.{Bytes}
use Rattle.wire.specs.Area.{over}
use Rattle.packet.specs.Packet.{PACKET_ROOM, length_byte}
use Rattle.packet_line.specs.State.{State, state_bytes, is_state, state_in, is_line}
use Rattle.packet_line.specs.Turn.{Finding, nothing, good, refused, turn_of}
use Rattle.packet_line.specs.Findings.{found, noted, findings, state_after, Reached}
use Rattle.packet_line.specs.Push.{Taken, or_rest, taken_from, Outcome, outcome, in_areas, outcome_of, refusal, more_wanted, pushed}
use Rattle.packet_line.specs.Series.{finding_in, GetsOn}
use Rattle.packet_line.proofs.States.{state-back, line-of-state, state-of-line, turn-state, reached}
use Rattle.packet_line.proofs.Reader.{turn-number, turn-sized}
use Rattle.packet_line.proofs.Taking.{taken-within}

-- "one finding and the bytes taken, through the one that decides it"
pub call-finds : (place : ℕ) (st : State) (bytes : List ℕ)
    → findings place st (take (taken_from st bytes).consumed bytes) ≡ noted (place + (taken_from st bytes).consumed - 1) (taken_from st bytes).finding []
unfolding findings taken_from
call-finds place st [] = refl
call-finds place st (b ∷ bytes) = by (turn_of st b).finding refl (call-finds (suc place) (turn_of st b).next bytes)
  where
    next : State
    next = (turn_of st b).next

    rest : Taken
    rest = taken_from next bytes

    by : (f : Finding) → (turn_of st b).finding ≡ f
        → findings (suc place) next (take rest.consumed bytes) ≡ noted (suc place + rest.consumed - 1) rest.finding []
        → findings place st (take (or_rest f next rest).consumed (b ∷ bytes)) ≡ noted (place + (or_rest f next rest).consumed - 1) (or_rest f next rest).finding []
    by nothing e ih =
        let at : suc place + rest.consumed - 1 ≡ place + suc rest.consumed - 1 = omega arith in
        ap (λ (f : Finding). noted place f (findings (suc place) next (take rest.consumed bytes))) e
        ∙ ih ∙ ap (λ (n : ℕ). noted n rest.finding []) at
    by (good packet) e ih = let at : place ≡ place + 1 - 1 = omega arith in ap (λ (f : Finding). noted place f []) e ∙ ap (λ (n : ℕ). found n (good packet) ∷ []) at
    by (refused number) e ih = let at : place ≡ place + 1 - 1 = omega arith in ap (λ (f : Finding). noted place f []) e ∙ ap (λ (n : ℕ). found n (refused number) ∷ []) at

-- "The line state follows the bytes taken, refusal or not."
pub call-leaves : (st : State) (bytes : List ℕ) → state_after st (take (taken_from st bytes).consumed bytes) ≡ (taken_from st bytes).state
unfolding state_after taken_from
call-leaves st [] = refl
call-leaves st (b ∷ bytes) = by (turn_of st b).finding (call-leaves (turn_of st b).next bytes)
  where
    by : (f : Finding)
        → state_after (turn_of st b).next (take (taken_from (turn_of st b).next bytes).consumed bytes) ≡ (taken_from (turn_of st b).next bytes).state
        → state_after st (take (or_rest f (turn_of st b).next (taken_from (turn_of st b).next bytes)).consumed (b ∷ bytes))
        ≡ (or_rest f (turn_of st b).next (taken_from (turn_of st b).next bytes)).state
    by nothing ih = ih
    by (good packet) ih = refl
    by (refused number) ih = refl

-- "more wanted .. takes the whole scrap"
pub nothing-all : (st : State) (bytes : List ℕ) → (taken_from st bytes).finding ≡ nothing → (taken_from st bytes).consumed ≡ length bytes
unfolding taken_from
nothing-all st [] h = refl
nothing-all st (b ∷ bytes) h = by (turn_of st b).finding (nothing-all (turn_of st b).next bytes) h
  where
    by : (f : Finding) → ((taken_from (turn_of st b).next bytes).finding ≡ nothing → (taken_from (turn_of st b).next bytes).consumed ≡ length bytes)
        → (or_rest f (turn_of st b).next (taken_from (turn_of st b).next bytes)).finding ≡ nothing
        → (or_rest f (turn_of st b).next (taken_from (turn_of st b).next bytes)).consumed ≡ suc (length bytes)
    by nothing ih q = ap suc (ih q)
    by (good packet) ih q = absurd (let z : ◌≡◌ {A = ℕ} 0 1 = cc in omega arith)
    by (refused number) ih q = absurd (let z : ◌≡◌ {A = ℕ} 0 1 = cc in omega arith)

-- a call that is given a byte takes one
pub takes-some : (st : State) (bytes : List ℕ) → 1 ≤ length bytes → 1 ≤ (taken_from st bytes).consumed
unfolding taken_from
takes-some st [] l = absurd (omega arith)
takes-some st (b ∷ bytes) l = by (turn_of st b).finding
  where
    by : (f : Finding) → 1 ≤ (or_rest f (turn_of st b).next (taken_from (turn_of st b).next bytes)).consumed
    by nothing = omega arith
    by (good packet) = omega arith
    by (refused number) = omega arith

pub refused-some : (st : State) (bytes : List ℕ) (number : ℕ) → (taken_from st bytes).finding ≡ refused number → 1 ≤ (taken_from st bytes).consumed
unfolding taken_from
refused-some st [] number h = absurd (let z : ◌≡◌ {A = ℕ} 0 1 = cc in omega arith)
refused-some st (b ∷ bytes) number h = takes-some st (b ∷ bytes) (omega arith)

-- the byte that decides a finding, and the state before it
record Decided (f : Finding) : Type 0 where
  state : State
  byte : ℕ
  good-state : is_state state ≡ true
  decides : (turn_of state byte).finding ≡ f

decided : (st : State) (bytes : List ℕ) (f : Finding) → is_state st ≡ true → Bytes bytes → (taken_from st bytes).finding ≡ f → (f ≡ nothing → ⊥) → Decided f
unfolding taken_from
decided st [] f h k e n = absurd (n (sym e))
decided st (b ∷ bytes) f h k e n =
    by (turn_of st b).finding refl e (λ q. decided (turn_of st b).next bytes f (turn-state st b h k.0) k.1 q n)
  where
    by : (g : Finding) → (turn_of st b).finding ≡ g → (or_rest g (turn_of st b).next (taken_from (turn_of st b).next bytes)).finding ≡ f
        → ((taken_from (turn_of st b).next bytes).finding ≡ f → Decided f) → Decided f
    by nothing t q ih = ih q
    by (good packet) t q ih = record { state = st; byte = b; good-state = h; decides = t ∙ q }
    by (refused number) t q ih = record { state = st; byte = b; good-state = h; decides = t ∙ q }

module _ (st : State) (bytes : List ℕ) (h : is_state st ≡ true) (k : Bytes bytes) where
  -- the bytes of a good packet: its 00, its length byte, and L more
  pub packet-sized : (packet : List ℕ) → (taken_from st bytes).finding ≡ good packet → length packet ≡ length_byte packet + 2
  packet-sized packet e =
      let d = decided st bytes (good packet) h k e (λ q. let z : ◌≡◌ {A = ℕ} 0 1 = cc in omega arith) in
      turn-sized d.state d.byte packet d.good-state d.decides

  -- the numbers of refusals
  pub number-range : (number : ℕ) → (taken_from st bytes).finding ≡ refused number → (2 ≤ number) × (number ≤ 8)
  number-range number e =
      let d = decided st bytes (refused number) h k e (λ q. let z : ◌≡◌ {A = ℕ} 0 1 = cc in omega arith) in
      turn-number d.state d.byte number d.good-state d.decides

-- The calls: 20 first, then 9.
module _ (line bytes area : List ℕ) where
  pub pushed_short : length area < PACKET_ROOM → pushed line bytes area ≡ outcome (refusal 20) 0 line area
  unfolding pushed
  pushed_short h = rw (lt-ltb (length area) PACKET_ROOM h)

  pub pushed-nine : PACKET_ROOM ≤ length area → is_line line ≡ false → pushed line bytes area ≡ outcome (refusal 9) 0 line area
  unfolding pushed
  pushed-nine h n = rw (le-ltb (length area) PACKET_ROOM h, n)

  pub pushed-line : PACKET_ROOM ≤ length area → is_line line ≡ true → pushed line bytes area ≡ outcome_of (taken_from (state_in line) bytes) area
  unfolding pushed
  pushed-line h e = rw (le-ltb (length area) PACKET_ROOM h, e)

pub pushed_room : (st : State) (bytes area : List ℕ) → PACKET_ROOM ≤ length area → is_state st ≡ true → pushed (state_bytes st) bytes area ≡ outcome_of (taken_from st bytes) area
pushed_room st bytes area h g =
    pushed-line (state_bytes st) bytes area h (line-of-state st g) ∙ ap (λ (s : State). outcome_of (taken_from s bytes) area) (state-back st)

-- what an outcome says of a finding
pub areas-fields : (f : Finding) (consumed : ℕ) (line area : List ℕ)
    → in_areas f consumed line area ≡ outcome (in_areas f consumed line area).answer consumed line (in_areas f consumed line area).packet
areas-fields nothing consumed line area = refl
areas-fields (good packet) consumed line area = refl
areas-fields (refused number) consumed line area = refl

pub finding-back : (f : Finding) (consumed : ℕ) (line area : List ℕ) → ((packet : List ℕ) → f ≡ good packet → length packet ≡ length_byte packet + 2)
    → ((number : ℕ) → f ≡ refused number → 1 ≤ consumed) → finding_in (in_areas f consumed line area).answer consumed (in_areas f consumed line area).packet ≡ f
finding-back nothing consumed line area p r = refl
finding-back (good packet) consumed line area p r =
    let e = p packet refl in
    let n : length_byte (over packet area) ≡ length_byte packet = get_or-append packet (drop (length packet) area) 0 1 (omega arith) in
    ap good (ap (λ (n : ℕ). take (n + 2) (over packet area)) n ∙ take_at packet (drop (length packet) area) (length_byte packet + 2) e)
finding-back (refused number) zero line area p r = absurd (omega (arith, r number refl))
finding-back (refused number) (suc consumed) line area p r = refl

wanted-nothing : (f : Finding) (consumed : ℕ) (line area : List ℕ) → (in_areas f consumed line area).answer ≡ more_wanted → f ≡ nothing
wanted-nothing nothing consumed line area h = refl
wanted-nothing (good packet) consumed line area h = absurd (let z : ◌≡◌ {A = ℕ} 0 1 = cc in omega arith)
wanted-nothing (refused number) consumed line area h = absurd (let z : ◌≡◌ {A = ℕ} 0 1 = cc in omega arith)

-- a call gets on wherever it is given a byte
pub gets-on : (line bytes area : List ℕ) → PACKET_ROOM ≤ length area → is_line line ≡ true → GetsOn bytes (pushed line bytes area)
gets-on line bytes area r h =
    let st = state_in line in
    let t = taken_from st bytes in
    rw (pushed-line line bytes area r h ∙ areas-fields t.finding t.consumed (state_bytes t.state) area)
    (record {
      within = taken-within st bytes;
      some = takes-some st bytes;
      all = λ e. nothing-all st bytes (wanted-nothing t.finding t.consumed (state_bytes t.state) area e);
    })

-- the numbers of a call that is refused neither 20 nor 9
answer-refused : (f : Finding) (consumed : ℕ) (line area : List ℕ) (number : ℕ) → (in_areas f consumed line area).answer ≡ refusal number → f ≡ refused number
answer-refused nothing consumed line area number h = absurd (let z : ◌≡◌ {A = ℕ} 0 1 = cc in omega arith)
answer-refused (good packet) consumed line area number h = absurd (let z : ◌≡◌ {A = ℕ} 0 1 = cc in omega arith)
answer-refused (refused other) consumed line area number h = let e : other ≡ number = cc in ap refused e

module _ (line bytes area : List ℕ) (k : Bytes bytes) where
  at-most-8 : PACKET_ROOM ≤ length area → is_line line ≡ true → (number : ℕ) → (pushed line bytes area).answer ≡ refusal number → number ≤ 8
  at-most-8 r h number e =
      let st = state_in line in
      let t = taken_from st bytes in
      let q = rw (pushed-line line bytes area r h) at e in
      (number-range st bytes (state-of-line line h).0 k number (answer-refused t.finding t.consumed (state_bytes t.state) area number q)).1

  -- 20 is for a packet area below 257 bytes alone
  pub twenty : ((pushed line bytes area).answer ≡ refusal 20) ↔ (length area < PACKET_ROOM)
  twenty = (λ e. by e (dec_le PACKET_ROOM (length area)) (is_line line) refl, λ l. rw (pushed_short line bytes area l))
    where
      by : (pushed line bytes area).answer ≡ refusal 20 → Dec (PACKET_ROOM ≤ length area) → (b : Bool) → is_line line ≡ b → length area < PACKET_ROOM
      by e (no r) b h = omega arith
      by e (yes r) true h = absurd (omega (arith, at-most-8 r h 20 e))
      by e (yes r) false h = absurd (let n : ◌≡◌ {A = ℕ} 9 20 = cc (e, pushed-nine line bytes area r h) in omega arith)

  -- "a line state that no line can reach is 9, which takes nothing and keeps it"
  pub nine-keeps : PACKET_ROOM ≤ length area → Bytes line → (Reached line → ⊥) → pushed line bytes area ≡ outcome (refusal 9) 0 line area
  nine-keeps r kl n = by (is_line line) refl
    where
      by : (b : Bool) → is_line line ≡ b → pushed line bytes area ≡ outcome (refusal 9) 0 line area
      by true h = absurd (n ((reached line kl).0 h))
      by false h = pushed-nine line bytes area r h

  -- and no other is
  pub nine : PACKET_ROOM ≤ length area → Bytes line → ((pushed line bytes area).answer ≡ refusal 9) ↔ (Reached line → ⊥)
  nine r kl = (
    λ e w. omega (arith, at-most-8 r ((reached line kl).1 w) 9 e),
    λ n. ap (λ (o : Outcome). o.answer) (nine-keeps r kl n),
  )
