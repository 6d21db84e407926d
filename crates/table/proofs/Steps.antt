-- A search goes through the slots in rising order: what it finds is what the definitions find.
use Prim.Native.Nat.{ℕ, zero, suc, ◌+◌, ◌≤◌, ◌<◌}
use mathlib.Core.Path.{◌≡◌, refl, sym, ◌∙◌}
use mathlib.Core.Bool.{Bool, true, false, not, cond}
use mathlib.Core.List.{List}
use mathlib.Core.Logic.{⊎_elim}
use native.Mathlib.Omega.{arith}
use native.Mathlib.Nat.{eq-or-lt_of_le}
use Rattle.std.specs.Prelude.{Option, Some, None, MatchOption}
use Rattle.slot.specs.Rows.{slot_at}
use Rattle.table.specs.Places.{holds, place_from, place_of, free_from, free_of}
use Rattle.table.proofs.Tests.{never}

-- what a search through the numbers from i on answers
abbrev pub FirstOf : (ℕ → Bool) → ℕ → ℕ → Option ℕ → Type 0
FirstOf test i end r =
    MatchOption r ((k : ℕ) → i ≤ k → k < end → test k ≡ false)
    (λ j. (i ≤ j) × (j < end) × (test j ≡ true) × ((k : ℕ) → i ≤ k → k < j → test k ≡ false))

-- the first of the n numbers from i on that passes
abbrev first : ℕ → (ℕ → Bool) → ℕ → Option ℕ
first zero test i = None
first (suc n) test i = cond (test i) (Some i) (first n test (i + 1))

first_is : (n : ℕ) (test : ℕ → Bool) (i end : ℕ) (r : Option ℕ) → end ≡ i + n → FirstOf test i end r → r ≡ first n test i
first_is zero test i end None e h = refl
first_is zero test i end (Some j) e h = absurd (omega (arith, h.0, h.1))
first_is (suc n) test i end r e h = go (test i) refl r h (λ s k. first_is n test (i + 1) end s (omega arith) k)
  where
    go :
        (b : Bool) → test i ≡ b → (r : Option ℕ) → FirstOf test i end r →
        ((s : Option ℕ) → FirstOf test (i + 1) end s → s ≡ first n test (i + 1)) → r ≡ cond b (Some i) (first n test (i + 1))
    go true q None h rest = never (sym q ∙ h i (omega arith) (omega arith))
    go true q (Some j) h rest =
        ⊎_elim (λ (x : i ≡ j). rw x) (λ (l : i < j). never (sym q ∙ h.3 i (omega arith) l)) (eq-or-lt_of_le h.0)
    go false q None h rest = rest None (λ k l m. h k (omega arith) m)
    go false q (Some j) h rest =
        ⊎_elim
        (λ (x : i ≡ j). never (sym h.2 ∙ rw (← x) q))
        (λ (l : i < j). rest (Some j) (omega arith, h.1, h.2, λ k l m. h.3 k (omega arith) m))
        (eq-or-lt_of_le h.0)

first-place : (n : ℕ) (t : List ℕ) (socket i : ℕ) → first n (λ j. holds (slot_at t j) socket) i ≡ place_from n t socket i
unfolding place_from
first-place zero t socket i = refl
first-place (suc n) t socket i = rw (first-place n t socket (i + 1))

first-free : (n : ℕ) (t : List ℕ) (i : ℕ) → first n (λ j. not (slot_at t j).taken) i ≡ free_from n t i
unfolding free_from
first-free zero t i = refl
first-free (suc n) t i = rw (first-free n t (i + 1)) (go (slot_at t i).taken)
  where
    go : (b : Bool) → cond (not b) (Some i) (free_from n t (i + 1)) ≡ cond b (free_from n t (i + 1)) (Some i)
    go true = refl
    go false = refl

-- the slot of a socket's device is the first that holds it
pub place-is : (slots : ℕ) (t : List ℕ) (socket : ℕ) (r : Option ℕ) → FirstOf (λ j. holds (slot_at t j) socket) 0 slots r → r ≡ place_of slots t socket
place-is slots t socket r h = first_is slots (λ j. holds (slot_at t j) socket) 0 slots r (omega arith) h ∙ first-place slots t socket 0

-- the free slot is the first that is not taken
pub free_is : (slots : ℕ) (t : List ℕ) (r : Option ℕ) → FirstOf (λ j. not (slot_at t j).taken) 0 slots r → r ≡ free_of slots t
free_is slots t r h = first_is slots (λ j. not (slot_at t j).taken) 0 slots r (omega arith) h ∙ first-free slots t 0
