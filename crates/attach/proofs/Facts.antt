-- The facts that an ACK is judged by, and the slot that it is for, in 01's words.
use Prim.Native.Nat.{ℕ, zero, suc, ◌≤◌, ◌<◌}
use mathlib.Core.Path.{◌≡◌, refl, sym, ap, ◌∙◌}
use mathlib.Core.Bool.{Bool, true, false, not, ◌&&◌}
use mathlib.Core.List.{List}
use mathlib.Core.Logic.{◌≢◌, ◌↔◌}
use mathlib.Core.Option as option
use mathlib.Core.Option.{none, some}
use native.Mathlib.Omega.{arith}
use borrow.Author.Tests.{eq-eqb, ne_eqb, eqb-true, eqb-false, leb-true, leb-false, not-false}
use lib.Dec.{eqb, leb}
use Rattle.std.specs.Prelude.{Option, Some, None}
use Rattle.wire.specs.Every.{every}
use Rattle.wire.proofs.Chains.{every-at}
use Rattle.slot.specs.Rows.{slot_at}
use Rattle.slot.specs.declared.Slot.{Slot}
use Rattle.table.specs.Places.{holds, place_of, free_of, is_slot, row_at, row_of}
use Rattle.table.proofs.Tests.{never}
use Rattle.table.proofs.Searches.{holds_parts, place_found, place_none, free-found, free-none, none_free}
use Rattle.attach.specs.Attach.{has_slot, uid_elsewhere, uid_free, or_free, place_for}

-- a device on another socket has the UID
pub record Elsewhere (slots : ℕ) (t : List ℕ) (socket uid : ℕ) : Type 0 where
  pub index : ℕ
  pub within : index < slots
  pub taken : (slot_at t index).taken ≡ true
  pub other : (slot_at t index).socket ≢ socket
  pub same : (slot_at t index).uid ≡ uid

elsewhere-parts :
    (socket uid : ℕ) (s : Slot) → uid_elsewhere socket uid s ≡ true →
    (s.taken ≡ true) × (s.socket ≢ socket) × (s.uid ≡ uid)
unfolding uid_elsewhere
elsewhere-parts socket uid s = go s.taken (eqb s.socket socket) (eqb s.uid uid) refl refl
  where
    go :
        (a b d : Bool) → eqb s.socket socket ≡ b → eqb s.uid uid ≡ d → (a && (not b && d)) ≡ true →
        (a ≡ true) × (s.socket ≢ socket) × (s.uid ≡ uid)
    go false b d p q h = never (sym h)
    go true true d p q h = never (sym h)
    go true false false p q h = never (sym h)
    go true false true p q h = (refl, eqb-false s.socket socket p, eqb-true s.uid uid q)

-- a test that does not hold at every index fails at one
every-fails : (n : ℕ) (test : ℕ → Bool) → every n test ≡ false → (i : ℕ) × (i < n) × (test i ≡ false)
unfolding every
every-fails zero test h = never h
every-fails (suc n) test h = go (every n test) refl h (every-fails n test)
  where
    go :
        (b : Bool) → every n test ≡ b → (b && test n) ≡ false → (every n test ≡ false → (i : ℕ) × (i < n) × (test i ≡ false)) →
        (i : ℕ) × (i < suc n) × (test i ≡ false)
    go true e f rest = (n, omega arith, f)
    go false e f rest = let r = rest e in (r.0, omega (arith, r.1), r.2)

abbrev pub has_row : option.Option Slot → Bool
has_row (some s) = true
has_row none = false

module _ (slots : ℕ) (t : List ℕ) (socket : ℕ) where
  -- LAW: a free UID is that of no device on another socket
  pub free-means :
      (uid : ℕ) → uid_free slots t socket uid ≡ true → (j : ℕ) → j < slots → (slot_at t j).taken ≡ true →
      (slot_at t j).socket ≢ socket → (slot_at t j).uid ≢ uid
  unfolding uid_free uid_elsewhere
  free-means uid h j l u ne e =
      never
      (sym
      (rw (u, ne_eqb (slot_at t j).socket socket ne, eq-eqb (slot_at t j).uid uid e) at
      (every-at slots (λ i. not (uid_elsewhere socket uid (slot_at t i))) h j l)))

  elsewhere-of : (uid : ℕ) → uid_free slots t socket uid ≡ false → Elsewhere slots t socket uid
  unfolding uid_free
  elsewhere-of uid h =
      let f = every-fails slots (λ i. not (uid_elsewhere socket uid (slot_at t i))) h in
      let p = elsewhere-parts socket uid (slot_at t f.0) (not-false (uid_elsewhere socket uid (slot_at t f.0)) f.2) in
      record { index = f.0; within = f.1; taken = p.0; other = p.1; same = p.2 }

  -- LAW: a UID is not free exactly where a device on another socket has it
  pub uid-elsewhere : (uid : ℕ) → (uid_free slots t socket uid ≡ false) ↔ Elsewhere slots t socket uid
  uid-elsewhere uid = (elsewhere-of uid, go (uid_free slots t socket uid) refl)
    where
      go : (b : Bool) → uid_free slots t socket uid ≡ b → Elsewhere slots t socket uid → b ≡ false
      go false f x = refl
      go true f x = absurd (free-means uid f x.index x.within x.taken x.other x.same)

  -- LAW: and free where none has it
  pub uid-free :
      (uid : ℕ) →
      ((j : ℕ) → j < slots → (slot_at t j).taken ≡ true → (slot_at t j).socket ≢ socket → (slot_at t j).uid ≢ uid) →
      uid_free slots t socket uid ≡ true
  uid-free uid h = go (uid_free slots t socket uid) refl
    where
      go : (b : Bool) → uid_free slots t socket uid ≡ b → b ≡ true
      go true f = refl
      go false f = let x = elsewhere-of uid f in absurd (h x.index x.within x.taken x.other x.same)

  -- LAW: the socket has no row exactly where no slot holds its device
  pub no_row : (row_of slots t socket ≡ none) ↔ ((j : ℕ) → j < slots → holds (slot_at t j) socket ≡ false)
  no_row = (to (place_of slots t socket) refl, from (place_of slots t socket) refl)
    where
      to :
          (p : Option ℕ) → place_of slots t socket ≡ p → row_at t p ≡ none →
          (j : ℕ) → j < slots → holds (slot_at t j) socket ≡ false
      to (Some i) e n = never (ap has_row n)
      to None e n = place_none slots t socket e

      from :
          (p : Option ℕ) → place_of slots t socket ≡ p → ((j : ℕ) → j < slots → holds (slot_at t j) socket ≡ false) →
          row_at t p ≡ none
      from (Some i) e h = let f = place_found slots t socket i e in never (sym f.0 ∙ h i f.1)
      from None e h = refl

  -- LAW: the slot that an ACK is for is one of the table's
  pub place-within : (i : ℕ) → place_for slots t socket ≡ Some i → i < slots
  place-within i = own (place_of slots t socket) refl
    where
      own : (p : Option ℕ) → place_of slots t socket ≡ p → or_free slots t p ≡ Some i → i < slots
      own (Some k) e q = let w : k ≡ i = cc in rw (← w) (place_found slots t socket k e).1
      own None e q = (free-found slots t i q).1

  -- LAW: the row of a device on another socket is not the one that an ACK is for
  pub not-its-place : (j : ℕ) → (slot_at t j).taken ≡ true → (slot_at t j).socket ≢ socket → place_for slots t socket ≢ Some j
  not-its-place j u ne = own (place_of slots t socket) refl
    where
      own : (p : Option ℕ) → place_of slots t socket ≡ p → or_free slots t p ≢ Some j
      own (Some i) e q =
          let k : i ≡ j = cc in
          ne (holds_parts (slot_at t j) socket (rw k at (place_found slots t socket i e).0)).1
      own None e q = never (sym u ∙ (free-found slots t j q).0)

  -- LAW: there is a slot for an ACK exactly where the socket has one or one is free
  pub has-place : has_slot (row_of slots t socket) (is_slot (free_of slots t)) ≡ is_slot (place_for slots t socket)
  has-place = go (place_of slots t socket)
    where
      go : (p : Option ℕ) → has_slot (row_at t p) (is_slot (free_of slots t)) ≡ is_slot (or_free slots t p)
      go (Some i) = refl
      go None = refl

-- LAW: no slot is free exactly where all are taken
pub all-taken : (slots : ℕ) (t : List ℕ) → (is_slot (free_of slots t) ≡ false) ↔ ((j : ℕ) → j < slots → (slot_at t j).taken ≡ true)
all-taken slots t = (to (free_of slots t) refl, λ h. ap is_slot (none_free slots t h))
  where
    to : (p : Option ℕ) → free_of slots t ≡ p → is_slot p ≡ false → (j : ℕ) → j < slots → (slot_at t j).taken ≡ true
    to (Some i) e h = never h
    to None e h = free-none slots t e

-- a place is a slot exactly where it has an index
pub slot-index : (p : Option ℕ) → (is_slot p ≡ true) ↔ ((i : ℕ) × (p ≡ Some i))
slot-index (Some i) = (λ h. (i, refl), λ h. refl)
slot-index None = (λ h. never (sym h), λ h. ap is_slot h.1)

-- LAW: where slot i is empty, the lowest empty slot is not above it
pub free-below :
    (slots : ℕ) (t : List ℕ) (i : ℕ) → i < slots → (slot_at t i).taken ≡ false → (k : ℕ) × (free_of slots t ≡ Some k) × (k ≤ i)
free-below slots t i l u = go (free_of slots t) refl
  where
    least : (k : ℕ) → free_of slots t ≡ Some k → (b : Bool) → leb k i ≡ b → k ≤ i
    least k e true q = leb-true k i q
    least k e false q = never (sym ((free-found slots t k e).2 i (leb-false k i q)) ∙ u)

    go : (p : Option ℕ) → free_of slots t ≡ p → (k : ℕ) × (p ≡ Some k) × (k ≤ i)
    go (Some k) e = (k, refl, least k e (leb k i) refl)
    go None e = never (sym (free-none slots t e i l) ∙ u)
