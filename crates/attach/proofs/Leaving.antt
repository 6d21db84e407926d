-- Leaving: 15 exactly where the socket has no slot, elsewhere its slot is empty and no other slot changes.
use Prim.Native.Nat.{ℕ, ◌≤◌, ◌<◌}
use mathlib.Core.Path.{◌≡◌, refl, sym, ap, ◌∙◌}
use mathlib.Core.Bool.{true, false}
use mathlib.Core.List.{List}
use mathlib.Core.Logic.Iff
use mathlib.Core.Logic.{◌≢◌, ◌↔◌, ⊎_elim}
use mathlib.Core.Option as option
use mathlib.Core.Option.{none, some}
use native.Mathlib.Nat.{eq-or-lt_of_le}
use native.Mathlib.Omega.{arith}
use Rattle.std.specs.Prelude.{Option, Some, None}
use Rattle.wire.specs.Number.{Bytes}
use Rattle.slot.specs.Slot.{empty_slot, Fits}
use Rattle.slot.specs.Rows.{slot_at, with_slot}
use Rattle.slot.specs.declared.Slot.{Slot}
use Rattle.slot.proofs.Rows.{fresh-fits, same-slot}
use Rattle.table.specs.Places.{holds, place_of, free_of, row_of}
use Rattle.table.specs.Change.{accepted, refused, Effect, refusal, acceptance, becomes, denied}
use Rattle.table.proofs.Tests.{never}
use Rattle.table.proofs.Searches.{holds_parts, place_found, free-found, taken-within}
use Rattle.table.proofs.Changes.{is_accepted, row_left, FitsChange, changed-others, changed-denied, changed-bytes, denied-exactly}
use Rattle.attach.specs.Attach.{leaving, left}
use Rattle.attach.proofs.Facts.{has_row, no_row, free-below}
use Rattle.attach.proofs.Acks.{denied_number}

empty-fits : Fits empty_slot
empty-fits = fresh-fits false 0 0 0 0 (omega arith) (omega arith) (omega arith) (omega arith)

-- LAW: the row that leaving leaves is what its type says
pub leave_fits : (own : option.Option Slot) → FitsChange (leaving own)
leave_fits (some own) = empty-fits
leave_fits none = tt

-- LAW: 15 is given exactly where the socket has no row
pub leave-15 : (own : option.Option Slot) → (leaving own ≡ denied 15) ↔ (own ≡ none)
leave-15 (some own) = (λ e. let z : ◌≡◌ {A = ℕ} 0 15 = ap denied_number e in absurd (omega arith), λ e. never (ap has_row e))
leave-15 none = (λ e. refl, λ e. refl)

-- LAW: the row that is left is an empty one
pub leave-row : (own : option.Option Slot) (row : Slot) → leaving own ≡ becomes row → row ≡ empty_slot
leave-row (some own) row e = sym (ap (row_left empty_slot) e)
leave-row none row e = ap (row_left empty_slot) (sym e)

-- a device that leaves a socket
module _ (slots : ℕ) (t : List ℕ) (socket : ℕ) where
  -- LAW: leaving is refused 15 exactly where no slot holds the socket's device
  pub left-15 : ((left slots t socket).verdict ≡ refused 15) ↔ ((j : ℕ) → j < slots → holds (slot_at t j) socket ≡ false)
  left-15 =
      Iff.trans (denied-exactly t (place_of slots t socket) (leaving (row_of slots t socket)) 15)
      (Iff.trans (leave-15 (row_of slots t socket)) (no_row slots t socket))

  -- LAW: a refused leave keeps the table
  pub left-refused : (n : ℕ) → (left slots t socket).verdict ≡ refused n → (left slots t socket).table ≡ t
  left-refused = changed-denied t (place_of slots t socket) (leaving (row_of slots t socket))

  -- LAW: the leave of a socket without a slot is 15
  pub left-nowhere : place_of slots t socket ≡ None → left slots t socket ≡ refusal t 15
  left-nowhere e = rw e

  -- LAW: the leave of a seated socket is accepted
  pub left-accepted : (i : ℕ) → place_of slots t socket ≡ Some i → left slots t socket ≡ acceptance (with_slot t i empty_slot)
  left-accepted i e = rw e

  -- LAW: leaving is accepted exactly where the socket has a slot
  pub left-exactly : ((left slots t socket).verdict ≡ accepted) ↔ ((i : ℕ) × (place_of slots t socket ≡ Some i))
  left-exactly = (to (place_of slots t socket) refl, λ h. rw h.1)
    where
      to : (p : Option ℕ) → place_of slots t socket ≡ p → (left slots t socket).verdict ≡ accepted → (i : ℕ) × (p ≡ Some i)
      to (Some i) e h = (i, refl)
      to None e h = never (sym (ap is_accepted (sym (ap (λ (x : Effect). x.verdict) (left-nowhere e)) ∙ h)))

  -- LAW: its slot is empty afterwards
  pub left-empties : (i : ℕ) → place_of slots t socket ≡ Some i → slot_at (left slots t socket).table i ≡ empty_slot
  left-empties i e =
      let h = holds_parts (slot_at t i) socket (place_found slots t socket i e).0 in
      rw e (same-slot t i empty_slot empty-fits (taken-within t i h.0))

  -- LAW: every slot but the socket's is exactly as it was
  pub left-others : (j : ℕ) → place_of slots t socket ≢ Some j → slot_at (left slots t socket).table j ≡ slot_at t j
  left-others = changed-others t (place_of slots t socket) (leaving (row_of slots t socket))

  -- LAW: the row of a device on another socket is exactly as it was
  pub left-other-devices : (j : ℕ) → (slot_at t j).socket ≢ socket → slot_at (left slots t socket).table j ≡ slot_at t j
  left-other-devices j ne = left-others j (λ e. ne (holds_parts (slot_at t j) socket (place_found slots t socket j e).0).1)

  -- LAW: leaving leaves bytes
  pub left-bytes : Bytes t → Bytes (left slots t socket).table
  left-bytes h = changed-bytes t (place_of slots t socket) (leaving (row_of slots t socket)) h (leave_fits (row_of slots t socket))

  -- LAW: the slot is free again, so that the next free one is not above it
  pub slot-free-again :
      (i : ℕ) → place_of slots t socket ≡ Some i → (k : ℕ) × (free_of slots (left slots t socket).table ≡ Some k) × (k ≤ i)
  slot-free-again i e =
      free-below slots (left slots t socket).table i (place_found slots t socket i e).1
      (ap (λ (s : Slot). s.taken) (left-empties i e))

  -- LAW: and is that one where the table was full
  pub slot-used-again :
      (i : ℕ) → place_of slots t socket ≡ Some i → ((j : ℕ) → j < slots → (slot_at t j).taken ≡ true) →
      free_of slots (left slots t socket).table ≡ Some i
  slot-used-again i e all = let f = slot-free-again i e in go f.0 f.1 f.2
    where
      go : (k : ℕ) → free_of slots (left slots t socket).table ≡ Some k → k ≤ i → free_of slots (left slots t socket).table ≡ Some i
      go k q le =
          ⊎_elim
          (λ (s : k ≡ i). q ∙ ap Some s)
          (λ (l : k < i).
          let f = free-found slots (left slots t socket).table k q in
          let o = left-others k (λ p. let s : i ≡ k = cc in absurd (omega arith)) in
          never (sym (all k f.1) ∙ sym (ap (λ (s : Slot). s.taken) o) ∙ f.0))
          (eq-or-lt_of_le le)
