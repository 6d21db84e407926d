-- Laws of tests that are made one after the other.
use Prim.Native.Nat.{ℕ, zero, suc, ◌+◌, ◌≤◌, ◌<◌}
use mathlib.Core.Path.{◌≡◌, refl}
use mathlib.Core.Bool.{Bool, true, false, ◌&&◌}
use mathlib.Core.Logic.{⊎_elim}
use native.Mathlib.Omega.{arith}
use native.Mathlib.Numerals.{add-one}
use native.Mathlib.Nat.{eq-or-lt_of_le}
use Rattle.wire.specs.Every.{every}

and-false : (b : Bool) → (b && false) ≡ false
and-false true = refl
and-false false = refl

pub and_left : (a b : Bool) → (a && b) ≡ true → a ≡ true
and_left true b h = refl
and_left false b h = h

pub and_right : (a b : Bool) → (a && b) ≡ true → b ≡ true
and_right true b h = h
and_right false b h = absurd (let z : ◌≡◌ {A = ℕ} 0 1 = cc in omega arith)

pub and-true : (a b : Bool) → a ≡ true → b ≡ true → (a && b) ≡ true
and-true a b h k = rw (h, k)

-- a flag that speaks of the first i indices, with the test of the next
pub every-grow : (i : ℕ) (test : ℕ → Bool) {flag next : Bool} → flag ≡ every i test → next ≡ test i → (flag && next) ≡ every (i + 1) test
unfolding every
every-grow i test h k = rw (add-one i, h, k)

-- tests that agree at every index
pub every-same : (n : ℕ) (p q : ℕ → Bool) → ((k : ℕ) → k < n → p k ≡ q k) → every n p ≡ every n q
unfolding every
every-same zero p q h = refl
every-same (suc n) p q h = rw (every-same n p q (λ k l. h k (omega arith)), h n (omega arith))

-- a loop that passed i goes on
pub every_more : (i : ℕ) (test : ℕ → Bool) → every i test ≡ true → test i ≡ true → every (i + 1) test ≡ true
unfolding every
every_more i test h k = rw (add-one i, h, k)

-- a loop stops at the first index that fails
pub every-stop : (n i : ℕ) (test : ℕ → Bool) → i < n → test i ≡ false → false ≡ every n test
unfolding every
every-stop zero i test h k = absurd (omega arith)
every-stop (suc n) i test h k =
    ⊎_elim
    (λ (e : i ≡ n). rw (← e, k, and-false))
    (λ (l : i < n). rw (← every-stop n i test l k))
    (let g : i ≤ n = omega arith in eq-or-lt_of_le g)

-- a loop that reached the end passed all
pub every-all : (n i : ℕ) (test : ℕ → Bool) → i ≤ n → n ≤ i → every i test ≡ true → true ≡ every n test
every-all n i test h k e = let q : n ≡ i = omega arith in rw (q, e)

-- what holds at every index holds at each
pub every-at : (n : ℕ) (test : ℕ → Bool) → every n test ≡ true → (i : ℕ) → i < n → test i ≡ true
unfolding every
every-at zero test h i l = absurd (omega arith)
every-at (suc n) test h i l =
    ⊎_elim
    (λ (e : i ≡ n). rw e (and_right (every n test) (test n) h))
    (λ (g : i < n). every-at n test (and_left (every n test) (test n) h) i g)
    (let g : i ≤ n = omega arith in eq-or-lt_of_le g)
