-- Each number of a refusal, and each acceptance, exactly where 01 says so: ACK, DEVICE_DATA, leaving, reading and posting.
use Prim.Native.Nat.{ℕ, ◌≤◌, ◌<◌}
use mathlib.Core.Path.{◌≡◌, refl, sym, ap, ◌∙◌}
use mathlib.Core.Bool.{Bool, true, false, cond, ◌&&◌}
use mathlib.Core.List.{List}
use mathlib.Core.Logic.Iff
use mathlib.Core.Logic.{◌≢◌, ◌↔◌, ⊎_elim}
use mathlib.Core.Option as option
use mathlib.Core.Option.{none, some}
use native.Mathlib.Omega.{arith}
use lib.Dec.{eqb, ltb}
use lib.ListN.{length}
use Rattle.std.specs.Prelude.{Option, Some, None}
use Rattle.std.specs.Option.{is_some}
use Rattle.packet.specs.TypeTable.{ACK, DEVICE_DATA}
use Rattle.packet.specs.Packet.{StartsWith, packet_error, decoded}
use Rattle.catalogue.specs.Format.{legal}
use Rattle.catalogue.specs.Lookup.{device_of, parameter_of, kind_in}
use Rattle.value.specs.Meaning.{meant}
use Rattle.slot.specs.Slot.{param_count, present_at, bits_at, empty_slot}
use Rattle.slot.specs.Rows.{slot_at, with_slot}
use Rattle.slot.specs.declared.Slot.{Slot}
use Rattle.table.specs.Places.{slot_count, socket_count, holds, place_of, free_of, row_at, row_of}
use Rattle.table.specs.Change.{Verdict, Effect, acceptance, changed_at, if_accepted}
use Rattle.table.specs.Change as change
use Rattle.table.proofs.Tests.{never}
use Rattle.table.proofs.Changes.{is_accepted, number_of}
use Rattle.lawful.specs.Lawful.{lawful, admission}
use Rattle.lawful.proofs.Admission as adm
use Rattle.attach.specs.Attach.{device_in, uid_in, ack_row, uid_free, or_free, place_for, assigned, leaving, left}
use Rattle.attach.proofs.Facts.{Elsewhere, has_row, no_row}
use Rattle.attach.proofs.Acks.{assigned-12, assigned-14, assigned-13, assigned-accepted}
use Rattle.attach.proofs.Leaving as leave
use Rattle.attach.proofs.Keeps.{left-gone}
use Rattle.parameters.specs.Data.{map_of, all_readable, size_of, all_flags, judged, data_applied}
use Rattle.parameters.specs.Read.{Finding, held, absent, content_of, finding, found}
use Rattle.parameters.specs.Read as read
use Rattle.parameters.proofs.Judged as judge
use Rattle.parameters.proofs.Judged.{Judged, Unreadable, Unfitting, NoFlag}
use Rattle.parameters.proofs.Laws.{data-none, data-stores, data-denied}
use Rattle.list.specs.Limits.{list_limit}
use Rattle.list.specs.Bytes.{list_bytes}
use Rattle.publish.specs.Published.{published}
use Rattle.publish.specs.Outcome.{Publishing, written_of}
use Rattle.publish.specs.Outcome as publish
use Rattle.hub.specs.Receive.{accepted, refused, Receiving, accepting, answered_by, answering, by_reading, received_if, received_of}
use Rattle.hub.specs.Calls.{detached, read_if, read_of, publish_of}
use Rattle.hub.proofs.Keeps.{answered-refused, answered-accepted, detached-lawful}
use Rattle.hub.proofs.Packets.{error-received, ack-received, data-received, ack-placed}
use Rattle.hub.proofs.Numbers.{error-most, reading-number}

-- no slot holds the socket's device
abbrev pub Absent : List ℕ → ℕ → Type 0
Absent t socket = (j : ℕ) → j < slot_count → holds (slot_at t j) socket ≡ false

-- the socket's device has a slot, with a row of which this holds
abbrev pub Own : List ℕ → ℕ → (Slot → Type 0) → Type 0
Own t socket P = (i : ℕ) × (place_of slot_count t socket ≡ Some i) × P (slot_at t i)

-- what is answered is what the change answers
as-refused : (r : Receiving) (e : Effect) (consumed n : ℕ) → r ≡ answering e consumed → (r.outcome ≡ refused n) ↔ (e.verdict ≡ change.refused n)
as-refused r e consumed n q = (
  λ h. answered-refused e.verdict consumed n (sym (ap (λ (x : Receiving). x.outcome) q) ∙ h),
  λ h. ap (λ (x : Receiving). x.outcome) q ∙ ap (λ (v : Verdict). answered_by v consumed) h,
)

as-accepted : (r : Receiving) (e : Effect) (consumed : ℕ) → r ≡ answering e consumed → (r.outcome ≡ accepted consumed) ↔ (e.verdict ≡ change.accepted)
as-accepted r e consumed q = (
  λ h. (answered-accepted e.verdict consumed consumed (sym (ap (λ (x : Receiving). x.outcome) q) ∙ h)).0,
  λ h. ap (λ (x : Receiving). x.outcome) q ∙ ap (λ (v : Verdict). answered_by v consumed) h,
)

-- what is judged first, as facts
module _ (c t : List ℕ) (socket : ℕ) where
  first-11 : (admission slot_count socket_count c t socket ≡ change.refused 11) ↔ (legal c ≡ false)
  first-11 = (adm.refused-11-means slot_count socket_count c t socket, adm.means-refused-11 slot_count socket_count c t socket)

  first-9 :
      (admission slot_count socket_count c t socket ≡ change.refused 9) ↔
      ((legal c ≡ true) × (lawful slot_count socket_count c t ≡ false))
  first-9 = (
    adm.refused-9-means slot_count socket_count c t socket,
    λ h. adm.means-refused-9 slot_count socket_count c t socket h.0 h.1,
  )

  first-10 :
      (admission slot_count socket_count c t socket ≡ change.refused 10) ↔
      ((legal c ≡ true) × (lawful slot_count socket_count c t ≡ true) × (socket_count ≤ socket))
  first-10 = (
    adm.refused-10-means slot_count socket_count c t socket,
    λ h. adm.means-refused-10 slot_count socket_count c t socket h.0 h.1 h.2,
  )

-- 15 is for a socket without a slot, not for a payload
abbrev verdict : Bool → Bool → Bool → Verdict
verdict a b d = cond a (cond b (cond d change.accepted (change.refused 18)) (change.refused 17)) (change.refused 16)

never-15 : (a b d : Bool) → number_of (verdict a b d) ≢ 15
never-15 true true true e = omega arith
never-15 true true false e = omega arith
never-15 true false d e = omega arith
never-15 false b d e = omega arith

judged-not-15 : (c : List ℕ) (s : Slot) (payload : List ℕ) → number_of (judged c s payload) ≢ 15
unfolding judged
judged-not-15 c s payload =
    never-15 (all_readable c s (map_of payload)) (eqb (size_of c s (map_of payload)) (length payload)) (all_flags c s (map_of payload) payload)

-- DEVICE_DATA by the socket's row, if there is one
module _ (c t : List ℕ) (socket : ℕ) (payload : List ℕ) where
  abbrev data_verdict : Verdict
  data_verdict = (data_applied slot_count c t socket payload).verdict

  none-verdict : place_of slot_count t socket ≡ None → data_verdict ≡ change.refused 15
  none-verdict e = ap (λ (x : Effect). x.verdict) (data-none slot_count c t socket payload e)

  own-verdict : (i : ℕ) → place_of slot_count t socket ≡ Some i → data_verdict ≡ judged c (slot_at t i) payload
  own-verdict i e = go (judged c (slot_at t i) payload) refl
    where
      go : (v : Verdict) → judged c (slot_at t i) payload ≡ v → data_verdict ≡ v
      go change.accepted j = ap (λ (x : Effect). x.verdict) (data-stores slot_count c t socket payload i e j)
      go (change.refused n) j = ap (λ (x : Effect). x.verdict) (data-denied slot_count c t socket payload i n e j)

  -- any verdict but 15 is that of the payload for the socket's row
  by-own : (v : Verdict) → number_of v ≢ 15 → (data_verdict ≡ v) ↔ Own t socket (λ r. judged c r payload ≡ v)
  by-own v ne = (to (place_of slot_count t socket) refl, λ h. own-verdict h.0 h.1 ∙ h.2)
    where
      to : (p : Option ℕ) → place_of slot_count t socket ≡ p → data_verdict ≡ v → Own t socket (λ r. judged c r payload ≡ v)
      to (Some i) e h = (i, e, sym (own-verdict i e) ∙ h)
      to None e h = absurd (ne (ap number_of (sym h ∙ none-verdict e)))

  by-none : (data_verdict ≡ change.refused 15) ↔ Absent t socket
  by-none = Iff.trans (to (place_of slot_count t socket) refl, λ h. none-place h) (no_row slot_count t socket)
    where
      to : (p : Option ℕ) → place_of slot_count t socket ≡ p → data_verdict ≡ change.refused 15 → row_at t p ≡ none
      to (Some i) e h = absurd (judged-not-15 c (slot_at t i) payload (ap number_of (sym (own-verdict i e) ∙ h)))
      to None e h = refl

      none-place : row_of slot_count t socket ≡ none → data_verdict ≡ change.refused 15
      none-place = go (place_of slot_count t socket) refl
        where
          go : (p : Option ℕ) → place_of slot_count t socket ≡ p → row_at t p ≡ none → data_verdict ≡ change.refused 15
          go (Some i) e h = never (ap has_row h)
          go None e h = none-verdict e

-- the same fact of each row
own-iff : (t : List ℕ) (socket : ℕ) (P Q : Slot → Type 0) → ((r : Slot) → P r ↔ Q r) → Own t socket P ↔ Own t socket Q
own-iff t socket P Q f = (λ h. (h.0, h.1, (f (slot_at t h.0)).0 h.2), λ h. (h.0, h.1, (f (slot_at t h.0)).1 h.2))

-- 11, 9 and 10 of a received packet, whatever its bytes are
module _ (c t : List ℕ) (socket : ℕ) (s : List ℕ) where
  first-number : (n : ℕ) → 8 < n → n ≤ 11 → ((received_of c t socket s).outcome ≡ refused n) ↔ (admission slot_count socket_count c t socket ≡ change.refused n)
  unfolding received_of
  first-number n l m = (to (admission slot_count socket_count c t socket), λ e. rw e)
    where
      to : (v : Verdict) → (received_if v t (by_reading c t socket (decoded s))).outcome ≡ refused n → v ≡ change.refused n
      to change.accepted h =
          let x = error-most s in
          absurd (⊎_elim (λ (e : packet_error s ≡ n). omega (arith, x)) (λ (k : 11 < n). omega arith) (reading-number c t socket s n h))
      to (change.refused k) h = let q : k ≡ n = cc h in ap change.refused q

  -- LAW: a packet is refused 11 exactly under a catalogue that is not legal
  pub received-11 : ((received_of c t socket s).outcome ≡ refused 11) ↔ (legal c ≡ false)
  received-11 = Iff.trans (first-number 11 (omega arith) (omega arith)) (first-11 c t socket)

  -- LAW: 9 exactly where the catalogue is legal and the table is not lawful
  pub received-9 : ((received_of c t socket s).outcome ≡ refused 9) ↔ ((legal c ≡ true) × (lawful slot_count socket_count c t ≡ false))
  received-9 = Iff.trans (first-number 9 (omega arith) (omega arith)) (first-9 c t socket)

  -- LAW: 10 exactly where both are good and there is no such socket
  pub received-10 :
      ((received_of c t socket s).outcome ≡ refused 10) ↔
      ((legal c ≡ true) × (lawful slot_count socket_count c t ≡ true) × (socket_count ≤ socket))
  received-10 = Iff.trans (first-number 10 (omega arith) (omega arith)) (first-10 c t socket)

  -- LAW: with these ruled out, 1 to 8 exactly where the packet reader refuses so
  pub received-error :
      admission slot_count socket_count c t socket ≡ change.accepted → (n : ℕ) → n ≢ 0 → n ≤ 8 →
      ((received_of c t socket s).outcome ≡ refused n) ↔ (packet_error s ≡ n)
  unfolding received_of
  received-error a n ne l = (
    λ h.
        ⊎_elim (λ (e : packet_error s ≡ n). e) (λ (k : 11 < n). absurd (omega arith))
        (reading-number c t socket s n (rw a at h)),
    λ e. ap (λ (r : Receiving). r.outcome) (error-received c t socket s a n e ne),
  )

-- a packet at the front of the bytes, where 11, 9 and 10 are ruled out
module _
    (c t : List ℕ) (socket : ℕ) (s : List ℕ) (a : admission slot_count socket_count c t socket ≡ change.accepted) (payload : List ℕ) (consumed : ℕ)
  where
    module _ (w : StartsWith s ACK payload consumed) where
      ack-number :
          (n : ℕ) → ((received_of c t socket s).outcome ≡ refused n) ↔ ((assigned slot_count c t socket payload).verdict ≡ change.refused n)
      ack-number n =
          as-refused (received_of c t socket s) (assigned slot_count c t socket payload) consumed n (ack-received c t socket s a payload consumed w)

      -- LAW: an ACK is refused 12 exactly where its type is not in the catalogue
      pub ack-12 : ((received_of c t socket s).outcome ≡ refused 12) ↔ (is_some (device_of c (device_in payload)) ≡ false)
      ack-12 = Iff.trans (ack-number 12) (assigned-12 slot_count c t socket payload)

      -- LAW: 14 exactly where the type is known and a device on another socket has the UID
      pub ack-14 :
          ((received_of c t socket s).outcome ≡ refused 14) ↔
          ((is_some (device_of c (device_in payload)) ≡ true) × Elsewhere slot_count t socket (uid_in payload))
      ack-14 = Iff.trans (ack-number 14) (assigned-14 slot_count c t socket payload)

      -- LAW: 13 exactly where the type is known, no device on another socket has the UID, no slot holds the socket and all are taken
      pub ack-13 :
          ((received_of c t socket s).outcome ≡ refused 13) ↔
          ((is_some (device_of c (device_in payload)) ≡ true) × (uid_free slot_count t socket (uid_in payload) ≡ true) × Absent t socket ×
          ((j : ℕ) → j < slot_count → (slot_at t j).taken ≡ true))
      ack-13 = Iff.trans (ack-number 13) (assigned-13 slot_count c t socket payload)

      -- LAW: an ACK is accepted exactly where its type is known, no device on another socket has its UID and there is a slot for it
      pub ack-accepted :
          ((received_of c t socket s).outcome ≡ accepted consumed) ↔
          ((is_some (device_of c (device_in payload)) ≡ true) × (uid_free slot_count t socket (uid_in payload) ≡ true) ×
          ((i : ℕ) × (place_for slot_count t socket ≡ Some i)))
      ack-accepted =
          Iff.trans
          (as-accepted (received_of c t socket s) (assigned slot_count c t socket payload) consumed (ack-received c t socket s a payload consumed w))
          (assigned-accepted slot_count c t socket payload)

    module _ (w : StartsWith s DEVICE_DATA payload consumed) where
      data-number :
          (n : ℕ) → ((received_of c t socket s).outcome ≡ refused n) ↔ ((data_applied slot_count c t socket payload).verdict ≡ change.refused n)
      data-number n =
          as-refused (received_of c t socket s) (data_applied slot_count c t socket payload) consumed n (data-received c t socket s a payload consumed w)

      by_row :
          (n : ℕ) → n ≢ 15 → (P : Slot → Type 0) → ((r : Slot) → (judged c r payload ≡ change.refused n) ↔ P r) →
          ((received_of c t socket s).outcome ≡ refused n) ↔ Own t socket P
      by_row n ne P f =
          Iff.trans (data-number n)
          (Iff.trans (by-own c t socket payload (change.refused n) ne) (own-iff t socket (λ r. judged c r payload ≡ change.refused n) P f))

      -- LAW: DEVICE_DATA is refused 15 exactly where no slot holds the socket's device
      pub data-15 : ((received_of c t socket s).outcome ≡ refused 15) ↔ Absent t socket
      data-15 = Iff.trans (data-number 15) (by-none c t socket payload)

      -- LAW: 16 exactly where it has a row and a named parameter is not readable
      pub data-16 : ((received_of c t socket s).outcome ≡ refused 16) ↔ Own t socket (λ r. Unreadable c r payload)
      data-16 =
          by_row 16 (λ e. omega arith) (λ r. Unreadable c r payload)
          (λ r. (judge.refused-16-means c r payload, judge.means-refused-16 c r payload))

      -- LAW: 17 exactly where it has a row, all of these are readable and the length differs
      pub data-17 : ((received_of c t socket s).outcome ≡ refused 17) ↔ Own t socket (λ r. Unfitting c r payload)
      data-17 =
          by_row 17 (λ e. omega arith) (λ r. Unfitting c r payload)
          (λ r. (judge.refused-17-means c r payload, judge.means-refused-17 c r payload))

      -- LAW: 18 exactly where it has a row, all are readable, the length is right and a named BOOL is above 1
      pub data-18 : ((received_of c t socket s).outcome ≡ refused 18) ↔ Own t socket (λ r. NoFlag c r payload)
      data-18 =
          by_row 18 (λ e. omega arith) (λ r. NoFlag c r payload)
          (λ r. (judge.refused-18-means c r payload, judge.means-refused-18 c r payload))

      -- LAW: DEVICE_DATA is accepted exactly where the socket's device has a row that the payload fits
      pub data-accepted : ((received_of c t socket s).outcome ≡ accepted consumed) ↔ Own t socket (λ r. Judged c r payload)
      data-accepted =
          Iff.trans
          (as-accepted (received_of c t socket s) (data_applied slot_count c t socket payload) consumed (data-received c t socket s a payload consumed w))
          (Iff.trans (by-own c t socket payload change.accepted (λ e. omega arith))
          (own-iff t socket (λ r. judged c r payload ≡ change.accepted) (λ r. Judged c r payload)
          (λ r. (judge.judged-means c r payload, judge.means-judged c r payload))))

-- leaving
module _ (c t : List ℕ) (socket : ℕ) where
  -- without 11, 9 and 10 a leave is refused with 15 alone
  left-number : (n : ℕ) → (left slot_count t socket).verdict ≡ change.refused n → n ≡ 15
  left-number n = go (place_of slot_count t socket)
    where
      go : (p : Option ℕ) → (changed_at t p (leaving (row_at t p))).verdict ≡ change.refused n → n ≡ 15
      go (Some i) h = never (ap is_accepted h)
      go None h = sym (ap number_of h)

  first-left : (n : ℕ) → n ≢ 15 → ((detached c t socket).verdict ≡ change.refused n) ↔ (admission slot_count socket_count c t socket ≡ change.refused n)
  unfolding detached
  first-left n ne = (to (admission slot_count socket_count c t socket), λ e. rw e)
    where
      to : (v : Verdict) → (if_accepted v t (left slot_count t socket)).verdict ≡ change.refused n → v ≡ change.refused n
      to change.accepted h = absurd (ne (left-number n h))
      to (change.refused k) h = h

  -- LAW: a leave is refused 11 exactly under a catalogue that is not legal
  pub detached-11 : ((detached c t socket).verdict ≡ change.refused 11) ↔ (legal c ≡ false)
  detached-11 = Iff.trans (first-left 11 (λ e. omega arith)) (first-11 c t socket)

  -- LAW: 9 exactly where the catalogue is legal and the table is not lawful
  pub detached-9 : ((detached c t socket).verdict ≡ change.refused 9) ↔ ((legal c ≡ true) × (lawful slot_count socket_count c t ≡ false))
  detached-9 = Iff.trans (first-left 9 (λ e. omega arith)) (first-9 c t socket)

  -- LAW: 10 exactly where both are good and there is no such socket
  pub detached-10 :
      ((detached c t socket).verdict ≡ change.refused 10) ↔
      ((legal c ≡ true) × (lawful slot_count socket_count c t ≡ true) × (socket_count ≤ socket))
  detached-10 = Iff.trans (first-left 10 (λ e. omega arith)) (first-10 c t socket)

  module _ (a : admission slot_count socket_count c t socket ≡ change.accepted) where
    -- what a leave is where 11, 9 and 10 are ruled out
    detached-left : detached c t socket ≡ left slot_count t socket
    unfolding detached
    detached-left = rw a

    -- LAW: with these ruled out, 15 exactly where no slot holds the socket's device
    pub detached-15 : ((detached c t socket).verdict ≡ change.refused 15) ↔ Absent t socket
    detached-15 = rw detached-left (leave.left-15 slot_count t socket)

    -- LAW: and accepted exactly where it has a slot
    pub detached-accepted : ((detached c t socket).verdict ≡ change.accepted) ↔ ((i : ℕ) × (place_of slot_count t socket ≡ Some i))
    detached-accepted = rw detached-left (leave.left-exactly slot_count t socket)

    module _ (i : ℕ) (e : place_of slot_count t socket ≡ Some i) where
      -- LAW: the leave of a seated socket puts an empty row into its slot
      pub detached-seated : detached c t socket ≡ acceptance (with_slot t i empty_slot)
      detached-seated = detached-left ∙ leave.left-accepted slot_count t socket i e

      -- LAW: its slot is empty afterwards
      pub detached-empties : slot_at (detached c t socket).table i ≡ empty_slot
      detached-empties = rw detached-left (leave.left-empties slot_count t socket i e)

      -- LAW: and free, so that the next free one is not above it
      pub detached-frees : (k : ℕ) × (free_of slot_count (detached c t socket).table ≡ Some k) × (k ≤ i)
      detached-frees = rw detached-left (leave.slot-free-again slot_count t socket i e)

      module _ (all : (j : ℕ) → j < slot_count → (slot_at t j).taken ≡ true) where
        -- LAW: where the table was full it is the next free one
        pub detached-next : free_of slot_count (detached c t socket).table ≡ Some i
        detached-next = rw detached-left (leave.slot-used-again slot_count t socket i e all)

        -- LAW: so that an ACK of a known type, with a UID at no other socket, from a socket without a slot is placed in it
        pub slot-used-again :
            (q : ℕ) (s payload : List ℕ) (consumed : ℕ) → q < socket_count → StartsWith s ACK payload consumed →
            is_some (device_of c (device_in payload)) ≡ true → uid_free slot_count (detached c t socket).table q (uid_in payload) ≡ true →
            place_of slot_count (detached c t socket).table q ≡ None →
            received_of c (detached c t socket).table q s ≡ accepting (with_slot (detached c t socket).table i (ack_row q payload)) consumed
        slot-used-again q s payload consumed l w k f n =
            let m = adm.admitted-means slot_count socket_count c t socket a in
            let b = adm.means-admitted slot_count socket_count c (detached c t socket).table q m.0 (detached-lawful c t socket m.1) l in
            ack-placed c (detached c t socket).table q s b payload consumed i w k f (ap (or_free slot_count (detached c t socket).table) n ∙ detached-next)

    -- LAW: after a leave the socket has no slot
    pub detached-gone : row_of slot_count (detached c t socket).table socket ≡ none
    detached-gone = rw detached-left (left-gone slot_count socket_count c t socket (adm.admitted-means slot_count socket_count c t socket a).1)

-- reading one parameter
abbrev number_read : Finding → ℕ
number_read (held v) = 0
number_read absent = 0
number_read (read.refused n) = n

-- a row is read without a refusal
content-read : (c : List ℕ) (r : Slot) (index : ℕ) → number_read (content_of c r index) ≡ 0
unfolding content_of
content-read c r index = go (ltb index param_count && present_at r index)
  where
    go : (b : Bool) → number_read (cond b (held (meant (kind_in (parameter_of c r.device index)) (bits_at r index))) absent) ≡ 0
    go true = refl
    go false = refl

module _ (c t : List ℕ) (socket index : ℕ) where
  -- without 11, 9 and 10 a reading is refused with 15, where there is no row, or not at all
  found_none : (n : ℕ) → n ≢ 0 → (own : option.Option Slot) → finding c own index ≡ read.refused n → (own ≡ none) × (n ≡ 15)
  found_none n ne (some r) h = absurd (ne (sym (ap number_read h) ∙ content-read c r index))
  found_none n ne none h = (refl, sym (ap number_read h))

  first_read :
      (n : ℕ) → n ≢ 0 → n ≢ 15 → (read_of c t socket index ≡ read.refused n) ↔ (admission slot_count socket_count c t socket ≡ change.refused n)
  unfolding read_of
  first_read n nz ne = (to (admission slot_count socket_count c t socket), λ e. rw e)
    where
      to : (v : Verdict) → read_if v (found slot_count c t socket index) ≡ read.refused n → v ≡ change.refused n
      to change.accepted h = absurd (ne (found_none n nz (row_of slot_count t socket) h).1)
      to (change.refused k) h = let q : k ≡ n = cc h in ap change.refused q

  -- LAW: a reading is refused 11 exactly under a catalogue that is not legal
  pub read-11 : (read_of c t socket index ≡ read.refused 11) ↔ (legal c ≡ false)
  read-11 = Iff.trans (first_read 11 (λ e. omega arith) (λ e. omega arith)) (first-11 c t socket)

  -- LAW: 9 exactly where the catalogue is legal and the table is not lawful
  pub read-9 : (read_of c t socket index ≡ read.refused 9) ↔ ((legal c ≡ true) × (lawful slot_count socket_count c t ≡ false))
  read-9 = Iff.trans (first_read 9 (λ e. omega arith) (λ e. omega arith)) (first-9 c t socket)

  -- LAW: 10 exactly where both are good and there is no such socket
  pub read-10 :
      (read_of c t socket index ≡ read.refused 10) ↔
      ((legal c ≡ true) × (lawful slot_count socket_count c t ≡ true) × (socket_count ≤ socket))
  read-10 = Iff.trans (first_read 10 (λ e. omega arith) (λ e. omega arith)) (first-10 c t socket)

  -- LAW: with these ruled out, 15 exactly where no slot holds the socket's device
  pub read-15 : admission slot_count socket_count c t socket ≡ change.accepted → (read_of c t socket index ≡ read.refused 15) ↔ Absent t socket
  unfolding read_of
  read-15 a =
      rw a
      (Iff.trans
      (λ h. (found_none 15 (λ e. omega arith) (row_of slot_count t socket) h).0, λ (e : row_of slot_count t socket ≡ none). ap (λ (x : option.Option Slot). finding c x index) e)
      (no_row slot_count t socket))

-- POSTING
-- the number of a refusal, 0 for none
abbrev result_number : publish.Result → ℕ
result_number (publish.written count) = 0
result_number (publish.refused number) = number

module _ (c t buffer : List ℕ) where
  abbrev list : Publishing
  list = publish.writing (list_bytes (published slot_count socket_count c t)) buffer

  -- what posting answers, by its three tests
  abbrev posted : Bool → Bool → Bool → Publishing
  posted a b d = cond a (cond b (cond d (publish.refusal 20 buffer) list) (publish.refusal 9 buffer)) (publish.refusal 11 buffer)

  abbrev posted_number : Bool → Bool → Bool → ℕ
  posted_number a b d = cond a (cond b (cond d 20 0) 9) 11

  numbered : (a b d : Bool) (n : ℕ) → (posted a b d).result ≡ publish.refused n → posted_number a b d ≡ n
  numbered false b d n e = ap result_number e
  numbered true false d n e = ap result_number e
  numbered true true true n e = ap result_number e
  numbered true true false n e = ap result_number e

  is-11 : (a b d : Bool) → posted_number a b d ≡ 11 → a ≡ false
  is-11 false b d e = refl
  is-11 true false d e = absurd (omega (arith, e))
  is-11 true true true e = absurd (omega (arith, e))
  is-11 true true false e = absurd (omega (arith, e))

  is-9 : (a b d : Bool) → posted_number a b d ≡ 9 → (a ≡ true) × (b ≡ false)
  is-9 false b d e = absurd (omega (arith, e))
  is-9 true false d e = (refl, refl)
  is-9 true true true e = absurd (omega (arith, e))
  is-9 true true false e = absurd (omega (arith, e))

  is-20 : (a b d : Bool) → posted_number a b d ≡ 20 → (a ≡ true) × (b ≡ true) × (d ≡ true)
  is-20 false b d e = absurd (omega (arith, e))
  is-20 true false d e = absurd (omega (arith, e))
  is-20 true true true e = (refl, refl, refl)
  is-20 true true false e = absurd (omega (arith, e))

  abbrev is_lawful : Bool
  is_lawful = lawful slot_count socket_count c t

  abbrev is_short : Bool
  is_short = ltb (length buffer) list_limit

  -- LAW: posting is refused 11 exactly under a catalogue that is not legal
  pub published-11 : ((publish_of c t buffer).result ≡ publish.refused 11) ↔ (legal c ≡ false)
  unfolding publish_of written_of
  published-11 = (λ e. is-11 (legal c) is_lawful is_short (numbered (legal c) is_lawful is_short 11 e), λ k. rw k)

  -- LAW: 9 exactly where the catalogue is legal and the table is not lawful
  pub published-9 : ((publish_of c t buffer).result ≡ publish.refused 9) ↔ ((legal c ≡ true) × (lawful slot_count socket_count c t ≡ false))
  unfolding publish_of written_of
  published-9 = (λ e. is-9 (legal c) is_lawful is_short (numbered (legal c) is_lawful is_short 9 e), λ k. rw (k.0, k.1))

  -- LAW: 20 exactly where both are good and the buffer is too short
  pub published-20 :
      ((publish_of c t buffer).result ≡ publish.refused 20) ↔
      ((legal c ≡ true) × (lawful slot_count socket_count c t ≡ true) × (ltb (length buffer) list_limit ≡ true))
  unfolding publish_of written_of
  published-20 = (λ e. is-20 (legal c) is_lawful is_short (numbered (legal c) is_lawful is_short 20 e), λ k. rw (k.0, k.1, k.2))
