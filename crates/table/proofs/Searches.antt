-- What the searches through the slots find.
use Prim.Native.Nat.{ℕ, zero, suc, ◌+◌, ◌*◌, ◌≤◌, ◌<◌}
use mathlib.Core.Path.{◌≡◌, refl, sym, ap, ◌∙◌}
use mathlib.Core.Bool.{Bool, true, false, cond}
use mathlib.Core.List.{List}
use mathlib.Core.Logic.{⊎_elim, ◌≢◌}
use Rattle.std.specs.Prelude.{Option, Some, None}
use native.Mathlib.Omega.{arith}
use native.Mathlib.Nat.{eq-or-lt_of_le}
use lib.Dec.{eqb, leb}
use lib.ListN.{length}
use borrow.Author.Tests.{eq-eqb, eqb-true, leb-true}
use Rattle.wire.proofs.Chains.{and_left, and_right}
use Rattle.slot.specs.Slot.{empty_slot}
use Rattle.slot.specs.Row.{slot_size, slot_of}
use Rattle.slot.specs.Rows.{row_in, slot_at}
use Rattle.slot.specs.declared.Slot.{Slot}
use Rattle.table.specs.Places.{holds, place_from, place_of, free_from, free_of}
use Rattle.table.proofs.Tests.{never}

abbrev is_nowhere : Option ℕ → Bool
is_nowhere None = true
is_nowhere (Some i) = false

-- a slot that holds a socket's device is taken, with that socket
pub holds_parts : (s : Slot) (socket : ℕ) → holds s socket ≡ true → (s.taken ≡ true) × (s.socket ≡ socket)
unfolding holds
holds_parts s socket h = (and_left s.taken _ h, eqb-true s.socket socket (and_right s.taken (eqb s.socket socket) h))

pub holds_not : (s : Slot) (socket : ℕ) → holds s socket ≡ false → s.taken ≡ true → s.socket ≢ socket
unfolding holds
holds_not s socket h u e = never (sym (sym h ∙ rw (u, eq-eqb s.socket socket e)))

found_from :
    (n : ℕ) (t : List ℕ) (socket i₀ i : ℕ) → place_from n t socket i₀ ≡ Some i → (holds (slot_at t i) socket ≡ true) × (i < i₀ + n)
unfolding place_from
found_from zero t socket i₀ i e = never (ap is_nowhere e)
found_from (suc n) t socket i₀ i e = go (holds (slot_at t i₀) socket) refl e (found_from n t socket (i₀ + 1) i)
  where
    go :
        (b : Bool) → holds (slot_at t i₀) socket ≡ b → cond b (Some i₀) (place_from n t socket (i₀ + 1)) ≡ Some i →
        (place_from n t socket (i₀ + 1) ≡ Some i → (holds (slot_at t i) socket ≡ true) × (i < i₀ + 1 + n)) →
        (holds (slot_at t i) socket ≡ true) × (i < i₀ + suc n)
    go true f g rest = let q : i₀ ≡ i = cc in (rw (← q) f, omega arith)
    go false f g rest = let r = rest g in (r.0, omega (arith, r.1))

-- LAW: a slot that is found holds the socket's device
pub place_found : (slots : ℕ) (t : List ℕ) (socket i : ℕ) → place_of slots t socket ≡ Some i → (holds (slot_at t i) socket ≡ true) × (i < slots)
place_found slots t socket i e = let f = found_from slots t socket 0 i e in (f.0, omega (arith, f.1))

none_from :
    (n : ℕ) (t : List ℕ) (socket i₀ : ℕ) → place_from n t socket i₀ ≡ None →
    (j : ℕ) → i₀ ≤ j → j < i₀ + n → holds (slot_at t j) socket ≡ false
unfolding place_from
none_from zero t socket i₀ e j l m = absurd (omega arith)
none_from (suc n) t socket i₀ e j l m = go (holds (slot_at t i₀) socket) refl e (λ f. none_from n t socket (i₀ + 1) f j)
  where
    go :
        (b : Bool) → holds (slot_at t i₀) socket ≡ b → cond b (Some i₀) (place_from n t socket (i₀ + 1)) ≡ None →
        (place_from n t socket (i₀ + 1) ≡ None → i₀ + 1 ≤ j → j < i₀ + 1 + n → holds (slot_at t j) socket ≡ false) →
        holds (slot_at t j) socket ≡ false
    go true f g rest = never (sym (ap is_nowhere g))
    go false f g rest =
        ⊎_elim (λ (q : i₀ ≡ j). rw (← q) f) (λ (x : i₀ < j). rest g (omega arith) (omega arith)) (eq-or-lt_of_le l)

-- LAW: where none is found, no slot holds the socket's device
pub place_none : (slots : ℕ) (t : List ℕ) (socket : ℕ) → place_of slots t socket ≡ None → (j : ℕ) → j < slots → holds (slot_at t j) socket ≡ false
place_none slots t socket e j l = none_from slots t socket 0 e j (omega arith) (omega arith)

free-from :
    (n : ℕ) (t : List ℕ) (i₀ i : ℕ) → free_from n t i₀ ≡ Some i →
    ((slot_at t i).taken ≡ false) × (i < i₀ + n) × ((j : ℕ) → i₀ ≤ j → j < i → (slot_at t j).taken ≡ true)
unfolding free_from
free-from zero t i₀ i e = never (ap is_nowhere e)
free-from (suc n) t i₀ i e = go (slot_at t i₀).taken refl e (free-from n t (i₀ + 1) i)
  where
    go :
        (b : Bool) → (slot_at t i₀).taken ≡ b → cond b (free_from n t (i₀ + 1)) (Some i₀) ≡ Some i →
        (free_from n t (i₀ + 1) ≡ Some i →
        ((slot_at t i).taken ≡ false) × (i < i₀ + 1 + n) × ((j : ℕ) → i₀ + 1 ≤ j → j < i → (slot_at t j).taken ≡ true)) →
        ((slot_at t i).taken ≡ false) × (i < i₀ + suc n) × ((j : ℕ) → i₀ ≤ j → j < i → (slot_at t j).taken ≡ true)
    go false f g rest = let q : i₀ ≡ i = cc in (rw (← q) f, omega arith, λ j l m. absurd (omega arith))
    go true f g rest =
        let r = rest g in (
          r.0,
          omega (arith, r.1),
          λ j l m. ⊎_elim (λ (q : i₀ ≡ j). rw (← q) f) (λ (x : i₀ < j). r.2 j (omega arith) m) (eq-or-lt_of_le l),
        )

-- LAW: the free slot is empty, and every slot before it is taken
pub free-found :
    (slots : ℕ) (t : List ℕ) (i : ℕ) → free_of slots t ≡ Some i →
    ((slot_at t i).taken ≡ false) × (i < slots) × ((j : ℕ) → j < i → (slot_at t j).taken ≡ true)
free-found slots t i e = let f = free-from slots t 0 i e in (f.0, omega (arith, f.1), λ j m. f.2 j (omega arith) m)

full_from :
    (n : ℕ) (t : List ℕ) (i₀ : ℕ) → free_from n t i₀ ≡ None → (j : ℕ) → i₀ ≤ j → j < i₀ + n → (slot_at t j).taken ≡ true
unfolding free_from
full_from zero t i₀ e j l m = absurd (omega arith)
full_from (suc n) t i₀ e j l m = go (slot_at t i₀).taken refl e (λ f. full_from n t (i₀ + 1) f j)
  where
    go :
        (b : Bool) → (slot_at t i₀).taken ≡ b → cond b (free_from n t (i₀ + 1)) (Some i₀) ≡ None →
        (free_from n t (i₀ + 1) ≡ None → i₀ + 1 ≤ j → j < i₀ + 1 + n → (slot_at t j).taken ≡ true) → (slot_at t j).taken ≡ true
    go false f g rest = never (sym (ap is_nowhere g))
    go true f g rest =
        ⊎_elim (λ (q : i₀ ≡ j). rw (← q) f) (λ (x : i₀ < j). rest g (omega arith) (omega arith)) (eq-or-lt_of_le l)

-- LAW: where no slot is free, all are taken
pub free-none : (slots : ℕ) (t : List ℕ) → free_of slots t ≡ None → (j : ℕ) → j < slots → (slot_at t j).taken ≡ true
free-none slots t e j l = full_from slots t 0 e j (omega arith) (omega arith)

-- LAW: where all slots are taken, none is free
pub none_free : (slots : ℕ) (t : List ℕ) → ((j : ℕ) → j < slots → (slot_at t j).taken ≡ true) → free_of slots t ≡ None
none_free slots t h = go (free_of slots t) refl
  where
    go : (p : Option ℕ) → free_of slots t ≡ p → p ≡ None
    go None e = refl
    go (Some i) e = let f = free-found slots t i e in never (sym (h i f.1) ∙ f.0)

-- LAW: a slot that is taken lies within the table's bytes
pub taken-within : (t : List ℕ) (i : ℕ) → (slot_at t i).taken ≡ true → slot_size * i + slot_size ≤ length t
taken-within t i u = go (leb (slot_size * i + slot_size) (length t)) refl u
  where
    go :
        (b : Bool) → leb (slot_size * i + slot_size) (length t) ≡ b → (cond b (slot_of (row_in t i)) empty_slot).taken ≡ true →
        slot_size * i + slot_size ≤ length t
    go true e w = leb-true _ _ e
    go false e w = never (sym w)
