-- ACK: 12, 14 and 13 each exactly where 01 says so, elsewhere one slot gets the packet's row and no other slot changes.
use Prim.Native.Nat.{ℕ, ◌+◌, ◌<◌}
use mathlib.Core.Path.{◌≡◌, refl, sym, ap, ◌∙◌}
use mathlib.Core.Bool.{Bool, true, false, cond}
use mathlib.Core.List.{List}
use mathlib.Core.Logic.Iff
use mathlib.Core.Logic.{◌≢◌, ◌↔◌}
use mathlib.Core.Option as option
use mathlib.Core.Option.{none, some}
use native.Mathlib.Omega.{arith}
use lib.ListN.{length, drop, length-drop}
use lib.Seq.{take_all}
use Rattle.std.specs.Prelude.{Option, Some, None}
use Rattle.std.specs.Option.{is_some}
use Rattle.wire.specs.Number.{le_bytes, Bytes}
use Rattle.wire.proofs.ByteLists.{byte_small}
use Rattle.catalogue.specs.Lookup.{device_of}
use Rattle.slot.specs.Slot.{Fits}
use Rattle.slot.specs.Row.{uid_size}
use Rattle.slot.specs.Rows.{slot_at, with_slot}
use Rattle.slot.specs.declared.Slot.{Slot}
use Rattle.slot.proofs.Filling.{number-bytes, number_small}
use Rattle.slot.proofs.Rows.{fresh-fits, same-slot}
use Rattle.table.specs.Places.{table_size, holds, place_of, free_of, is_slot, row_of}
use Rattle.table.specs.Change.{accepted, refused, refusal, acceptance, Change, becomes, denied}
use Rattle.table.proofs.Tests.{never}
use Rattle.table.proofs.Searches.{none_free}
use Rattle.table.proofs.Changes.{row_left, FitsChange, changed-others, changed-denied, changed-bytes, changed-accepted, denied-exactly, denied-refusal, leaves-accepted}
use Rattle.attach.specs.Attach.{device_in, year_in, uid_in, ack_row, has_slot, acked, uid_free, or_free, place_for, ack_change, assigned}
use Rattle.attach.proofs.Facts.{has_row, Elsewhere, uid-elsewhere, no_row, all-taken, has-place, slot-index, place-within, not-its-place}

-- ACK's payload: type, year and UID
abbrev pub ack_size : ℕ
ack_size = 2 + uid_size

-- LAW: an ACK's UID is its last eight bytes, so these are what a list of the table says
pub uid-bytes : (payload : List ℕ) → Bytes payload → length payload ≡ ack_size → le_bytes uid_size (uid_in payload) ≡ drop 2 payload
uid-bytes payload h n =
    let l = length-drop 2 payload in
    number-bytes uid_size payload 2 h (omega arith) ∙ take_all uid_size (drop 2 payload) (omega (arith, l))

-- the number of a denied change, 0 for none
abbrev pub denied_number : Change → ℕ
denied_number (becomes row) = 0
denied_number (denied number) = number

has-none : (own : option.Option Slot) (a : Bool) → (has_slot own a ≡ false) ↔ ((own ≡ none) × (a ≡ false))
has-none (some own) a = (λ h. never h, λ h. never (ap has_row h.0))
has-none none a = (λ h. (refl, h), λ h. h.1)

-- the answer by the three facts in their order
abbrev judge : Slot → Bool → Bool → Bool → Change
judge row known free has = cond known (cond free (cond has (becomes row) (denied 13)) (denied 14)) (denied 12)

module _ (row : Slot) where
  is-12 : (k f s : Bool) → judge row k f s ≡ denied 12 → k ≡ false
  is-12 false f s e = refl
  is-12 true false s e = let z : ◌≡◌ {A = ℕ} 14 12 = ap denied_number e in absurd (omega arith)
  is-12 true true false e = let z : ◌≡◌ {A = ℕ} 13 12 = ap denied_number e in absurd (omega arith)
  is-12 true true true e = let z : ◌≡◌ {A = ℕ} 0 12 = ap denied_number e in absurd (omega arith)

  is-14 : (k f s : Bool) → judge row k f s ≡ denied 14 → (k ≡ true) × (f ≡ false)
  is-14 false f s e = let z : ◌≡◌ {A = ℕ} 12 14 = ap denied_number e in absurd (omega arith)
  is-14 true false s e = (refl, refl)
  is-14 true true false e = let z : ◌≡◌ {A = ℕ} 13 14 = ap denied_number e in absurd (omega arith)
  is-14 true true true e = let z : ◌≡◌ {A = ℕ} 0 14 = ap denied_number e in absurd (omega arith)

  is-13 : (k f s : Bool) → judge row k f s ≡ denied 13 → (k ≡ true) × (f ≡ true) × (s ≡ false)
  is-13 false f s e = let z : ◌≡◌ {A = ℕ} 12 13 = ap denied_number e in absurd (omega arith)
  is-13 true false s e = let z : ◌≡◌ {A = ℕ} 14 13 = ap denied_number e in absurd (omega arith)
  is-13 true true false e = (refl, refl, refl)
  is-13 true true true e = let z : ◌≡◌ {A = ℕ} 0 13 = ap denied_number e in absurd (omega arith)

  is-row : (k f s : Bool) (other : Slot) → judge row k f s ≡ becomes other → (other ≡ row) × (k ≡ true) × (f ≡ true) × (s ≡ true)
  is-row false f s other e = let z : ◌≡◌ {A = ℕ} 12 0 = ap denied_number e in absurd (omega arith)
  is-row true false s other e = let z : ◌≡◌ {A = ℕ} 14 0 = ap denied_number e in absurd (omega arith)
  is-row true true false other e = let z : ◌≡◌ {A = ℕ} 13 0 = ap denied_number e in absurd (omega arith)
  is-row true true true other e = (sym (ap (row_left row) e), refl, refl, refl)

-- an ACK judged by its socket's row, if there is one, and the two facts about the others
module _ (c : List ℕ) (socket : ℕ) (own : option.Option Slot) (payload : List ℕ) (free any : Bool) where
  -- LAW: 12 is given exactly where the type is not in the catalogue
  pub ack-12 : (acked c socket own payload free any ≡ denied 12) ↔ (is_some (device_of c (device_in payload)) ≡ false)
  unfolding acked
  ack-12 = (is-12 (ack_row socket payload) (is_some (device_of c (device_in payload))) free (has_slot own any), λ k. rw k)

  -- LAW: 14 exactly where the type is known and the UID is at another socket
  pub ack-14 : (acked c socket own payload free any ≡ denied 14) ↔ ((is_some (device_of c (device_in payload)) ≡ true) × (free ≡ false))
  unfolding acked
  ack-14 = (is-14 (ack_row socket payload) (is_some (device_of c (device_in payload))) free (has_slot own any), λ h. rw (h.0, h.1))

  -- LAW: 13 exactly where the type is known, the UID is at no other socket, the socket has no slot and none is free
  pub ack-13 :
      (acked c socket own payload free any ≡ denied 13) ↔
      ((is_some (device_of c (device_in payload)) ≡ true) × (free ≡ true) × (own ≡ none) × (any ≡ false))
  unfolding acked
  ack-13 = (
    λ e.
        let p = is-13 (ack_row socket payload) (is_some (device_of c (device_in payload))) free (has_slot own any) e in
        let n = (has-none own any).0 p.2 in (p.0, p.1, n.0, n.1),
    λ h. rw (h.0, h.1, (has-none own any).1 (h.2, h.3)),
  )

  -- LAW: the packet's row is left exactly where the type is known, the UID is at no other socket and there is a slot
  pub ack-leaves :
      (acked c socket own payload free any ≡ becomes (ack_row socket payload)) ↔
      ((is_some (device_of c (device_in payload)) ≡ true) × (free ≡ true) × (has_slot own any ≡ true))
  unfolding acked
  ack-leaves = (
    λ e.
        let p = is-row (ack_row socket payload) (is_some (device_of c (device_in payload))) free (has_slot own any) (ack_row socket payload) e in
        (p.1, p.2, p.3),
    λ h. rw (h.0, h.1, h.2),
  )

  -- LAW: no other row is left
  pub ack-row : (row : Slot) → acked c socket own payload free any ≡ becomes row → row ≡ ack_row socket payload
  unfolding acked
  ack-row row e = (is-row (ack_row socket payload) (is_some (device_of c (device_in payload))) free (has_slot own any) row e).0

fits-left : (x : Change) (row : Slot) → x ≡ becomes row → FitsChange x → Fits row
fits-left x row e f = rw e at f

-- an ACK from a socket
module _ (slots : ℕ) (c t : List ℕ) (socket : ℕ) (payload : List ℕ) where
  -- LAW: the row of an ACK is what its type says
  pub ack-fits : socket < 256 → Bytes payload → FitsChange (ack_change slots c t socket payload)
  unfolding acked
  ack-fits l b = go (is_some (device_of c (device_in payload))) (uid_free slots t socket (uid_in payload)) (has_slot (row_of slots t socket) (is_slot (free_of slots t)))
    where
      go : (k f s : Bool) → FitsChange (judge (ack_row socket payload) k f s)
      go false f s = tt
      go true false s = tt
      go true true false = tt
      go true true true =
          fresh-fits true socket (device_in payload) (year_in payload) (uid_in payload) l (byte_small payload 0 b) (byte_small payload 1 b)
          (number_small uid_size payload 2 b)

  abbrev known : Bool
  known = is_some (device_of c (device_in payload))

  abbrev place : Option ℕ
  place = place_for slots t socket

  abbrev change : Change
  change = ack_change slots c t socket payload

  abbrev own : option.Option Slot
  own = row_of slots t socket

  abbrev free : Bool
  free = uid_free slots t socket (uid_in payload)

  abbrev any : Bool
  any = is_slot (free_of slots t)

  -- LAW: an ACK is refused 12 exactly where its type is not in the catalogue
  pub assigned-12 : ((assigned slots c t socket payload).verdict ≡ refused 12) ↔ (is_some (device_of c (device_in payload)) ≡ false)
  assigned-12 = Iff.trans (denied-exactly t place change 12) (ack-12 c socket own payload free any)

  -- LAW: 14 exactly where the type is known and a device on another socket has the UID
  pub assigned-14 :
      ((assigned slots c t socket payload).verdict ≡ refused 14) ↔
      ((is_some (device_of c (device_in payload)) ≡ true) × Elsewhere slots t socket (uid_in payload))
  assigned-14 =
      let d = denied-exactly t place change 14 in
      let j = ack-14 c socket own payload free any in
      let u = uid-elsewhere slots t socket (uid_in payload) in
      (λ e. let h = j.0 (d.0 e) in (h.0, u.0 h.1), λ h. d.1 (j.1 (h.0, u.1 h.1)))

  -- LAW: 13 exactly where the type is known, no device on another socket has the UID, no slot holds the socket and all are taken
  pub assigned-13 :
      ((assigned slots c t socket payload).verdict ≡ refused 13) ↔
      ((is_some (device_of c (device_in payload)) ≡ true) × (uid_free slots t socket (uid_in payload) ≡ true) ×
      ((j : ℕ) → j < slots → holds (slot_at t j) socket ≡ false) × ((j : ℕ) → j < slots → (slot_at t j).taken ≡ true))
  assigned-13 =
      let d = denied-exactly t place change 13 in
      let j = ack-13 c socket own payload free any in
      let n = no_row slots t socket in
      let a = all-taken slots t in
      (λ e. let h = j.0 (d.0 e) in (h.0, h.1, n.0 h.2, a.0 h.3), λ h. d.1 (j.1 (h.0, h.1, n.1 h.2, a.1 h.3)))

  -- LAW: an ACK is accepted exactly where its type is known, no device on another socket has its UID and there is a slot for it
  pub assigned-accepted :
      ((assigned slots c t socket payload).verdict ≡ accepted) ↔
      ((is_some (device_of c (device_in payload)) ≡ true) × (uid_free slots t socket (uid_in payload) ≡ true) ×
      ((i : ℕ) × (place_for slots t socket ≡ Some i)))
  assigned-accepted = (to, from)
    where
      to :
          (assigned slots c t socket payload).verdict ≡ accepted →
          (known ≡ true) × (free ≡ true) × ((i : ℕ) × (place ≡ Some i))
      to e =
          let x = changed-accepted t place change e in
          let r = ack-row c socket own payload free any x.0 x.1 in
          let h = (ack-leaves c socket own payload free any).0 (x.1 ∙ ap becomes r) in
          (h.0, h.1, (slot-index place).0 (sym (has-place slots t socket) ∙ h.2))

      from :
          (known ≡ true) × (free ≡ true) × ((i : ℕ) × (place ≡ Some i)) → (assigned slots c t socket payload).verdict ≡ accepted
      from h =
          leaves-accepted t place change (ack_row socket payload)
          ((ack-leaves c socket own payload free any).1 (h.0, h.1, has-place slots t socket ∙ (slot-index place).1 h.2))

  -- LAW: where a row is left there is a slot for it
  pub ack-place : (row : Slot) → ack_change slots c t socket payload ≡ becomes row → (i : ℕ) × (place_for slots t socket ≡ Some i) × (i < slots)
  ack-place row e =
      let h = assigned-accepted.0 (leaves-accepted t place change row e) in
      let p = h.2 in
      (p.0, p.1, place-within slots t socket p.0 p.1)

  -- LAW: an accepted ACK gives the slot socket, type, year and UID of the packet, and no values
  pub ack-placed :
      socket < 256 → Bytes payload → length t ≡ table_size slots → (assigned slots c t socket payload).verdict ≡ accepted →
      (i : ℕ) × (place_for slots t socket ≡ Some i) × (i < slots) ×
      (slot_at (assigned slots c t socket payload).table i ≡ ack_row socket payload)
  ack-placed l b n e =
      let h = assigned-accepted.0 e in
      let p = h.2 in
      let x = (ack-leaves c socket own payload free any).1 (h.0, h.1, has-place slots t socket ∙ (slot-index place).1 p) in
      let w = place-within slots t socket p.0 p.1 in
      let fits = fits-left change (ack_row socket payload) x (ack-fits l b) in
      (p.0, p.1, w, rw (p.1, x) (same-slot t p.0 (ack_row socket payload) fits (omega arith)))

  -- LAW: an ACK leaves bytes
  pub ack-bytes : socket < 256 → Bytes payload → Bytes t → Bytes (assigned slots c t socket payload).table
  ack-bytes l b h = changed-bytes t place change h (ack-fits l b)

  -- LAW: every slot but the one that the ACK is for is exactly as it was
  pub ack-others : (j : ℕ) → place_for slots t socket ≢ Some j → slot_at (assigned slots c t socket payload).table j ≡ slot_at t j
  ack-others = changed-others t place change

  -- LAW: the row of a device on another socket is exactly as it was
  pub ack-other-devices :
      (j : ℕ) → (slot_at t j).taken ≡ true → (slot_at t j).socket ≢ socket →
      slot_at (assigned slots c t socket payload).table j ≡ slot_at t j
  ack-other-devices j u ne = ack-others j (not-its-place slots t socket j u ne)

  -- LAW: a refused ACK keeps the table
  pub ack-refused :
      (n : ℕ) → (assigned slots c t socket payload).verdict ≡ refused n → (assigned slots c t socket payload).table ≡ t
  ack-refused = changed-denied t place change

  -- LAW: 12 keeps the table
  pub unknown-ack : (is_some (device_of c (device_in payload))) ≡ false → assigned slots c t socket payload ≡ refusal t 12
  unknown-ack k = rw ((ack-12 c socket own payload free any).1 k) (denied-refusal t place 12)

  -- an ACK whose type is in the catalogue
  module _ (k : (is_some (device_of c (device_in payload))) ≡ true) where
    -- LAW: an ACK whose UID is on no other socket is accepted where there is a slot for it
    pub ack-accepts :
        (i : ℕ) → uid_free slots t socket (uid_in payload) ≡ true → place_for slots t socket ≡ Some i →
        assigned slots c t socket payload ≡ acceptance (with_slot t i (ack_row socket payload))
    ack-accepts i f e =
        rw (e, (ack-leaves c socket own payload free any).1 (k, f, has-place slots t socket ∙ ap is_slot e))

    -- LAW: a second ACK with a UID that is on no other socket is accepted in the socket's own slot, whether or not a slot is empty
    pub other-uid-ack :
        (i : ℕ) → uid_free slots t socket (uid_in payload) ≡ true → place_of slots t socket ≡ Some i →
        assigned slots c t socket payload ≡ acceptance (with_slot t i (ack_row socket payload))
    other-uid-ack i f e = ack-accepts i f (ap (or_free slots t) e)

    -- LAW: 14 is given where a device on another socket has the UID, whether or not a slot is empty
    pub uid-taken-ack : Elsewhere slots t socket (uid_in payload) → assigned slots c t socket payload ≡ refusal t 14
    uid-taken-ack x =
        rw ((ack-14 c socket own payload free any).1 (k, (uid-elsewhere slots t socket (uid_in payload)).1 x)) (denied-refusal t place 14)

    -- LAW: 13 is given where there is no slot for it
    pub no-slot-ack :
        uid_free slots t socket (uid_in payload) ≡ true → place_for slots t socket ≡ None →
        assigned slots c t socket payload ≡ refusal t 13
    no-slot-ack f e =
        let n = (has-none own any).0 (has-place slots t socket ∙ ap is_slot e) in
        rw ((ack-13 c socket own payload free any).1 (k, f, n.0, n.1)) (denied-refusal t place 13)

    -- LAW: that is where the socket has no slot and all are taken
    pub full-ack :
        uid_free slots t socket (uid_in payload) ≡ true → place_of slots t socket ≡ None →
        ((j : ℕ) → j < slots → (slot_at t j).taken ≡ true) → assigned slots c t socket payload ≡ refusal t 13
    full-ack f e all = no-slot-ack f (ap (or_free slots t) e ∙ none_free slots t all)
