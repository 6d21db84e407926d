-- Laws of the lists that are open: what comes next, and an array that holds the outer ones, the outermost first.
use Prim.Native.Nat.{ℕ, zero, suc, ◌-◌, ◌≤◌, ◌<◌}
use mathlib.Core.Path.{◌≡◌, refl, ap}
use mathlib.Core.List.{List, [], ◌∷◌}
use native.Mathlib.Omega.{arith}
use native.Mathlib.Numerals.{sub-one}
use lib.ListN.{length, get_or, set}
use lib.Seq.{get_or-set_same, get_or-set_other}
use Rattle.list_rows.specs.Nesting.{next_in}

module _ {A : Type 0} (close : ℕ → A → A) (end : A) (element : List ℕ → ℕ → A) where
  pub next-element : (outer : List ℕ) (left : ℕ) → 0 < left → next_in close end element outer left ≡ element outer (left - 1)
  unfolding next_in
  next-element [] zero h = absurd (omega arith)
  next-element (n ∷ outer) zero h = absurd (omega arith)
  next-element [] (suc left) h = rw sub-one
  next-element (n ∷ outer) (suc left) h = rw sub-one

  pub next-end : next_in close end element [] 0 ≡ end
  unfolding next_in
  next-end = refl

  pub next-close : (n : ℕ) (outer : List ℕ) → next_in close end element (n ∷ outer) 0 ≡ close n (next_in close end element outer n)
  unfolding next_in
  next-close n outer = refl

-- the first n numbers of an array, the last of them first
abbrev pub stack_of : List ℕ → ℕ → List ℕ
stack_of a zero = []
stack_of a (suc n) = get_or a n 0 ∷ stack_of a n

pub stack-length : (a : List ℕ) (n : ℕ) → length (stack_of a n) ≡ n
stack-length a zero = refl
stack-length a (suc n) = ap suc (stack-length a n)

-- a number put behind them
stack-kept : (a : List ℕ) (n m x : ℕ) → n ≤ m → stack_of (set a m x) n ≡ stack_of a n
stack-kept a zero m x h = refl
stack-kept a (suc n) m x h = rw (get_or-set_other a m n x 0 (λ (e : n ≡ m). omega arith), stack-kept a n m x (omega arith))

pub stack_push : (a : List ℕ) (n x : ℕ) → n < length a → stack_of (set a n x) (suc n) ≡ x ∷ stack_of a n
stack_push a n x h = rw (get_or-set_same a n x 0 h, stack-kept a n n x (omega arith))

-- the last of them taken away
pub stack-pop : (a : List ℕ) (n : ℕ) → 0 < n → stack_of a n ≡ get_or a (n - 1) 0 ∷ stack_of a (n - 1)
stack-pop a zero h = absurd (omega arith)
stack-pop a (suc n) h = rw sub-one
