-- Laws of a string's bytes: the last one is looked at first, then the first zero is searched.
use Prim.Native.Nat.{ℕ, zero, suc, ◌-◌, ◌≤◌, ◌<◌}
use mathlib.Core.Path.{◌≡◌, refl, sym, ◌∙◌}
use mathlib.Core.Bool.{Bool, true, false, not, ◌&&◌}
use mathlib.Core.List.{List, [], ◌∷◌}
use native.Mathlib.Omega.{arith}
use lib.Dec.{eqb, eqb-zero-suc, eqb-suc-suc}
use lib.ListN.{length, get_or, take, drop}
use borrow.Author.Tests.{eq-eqb, ne_eqb}
use Rattle.wire.specs.Zero.{has_zero}
use Rattle.wire.specs.Equal.{same}
use Rattle.list.specs.Strings.{terminator, closed}
use Rattle.list_check.specs.Steps.{first_zero}

-- the first zero stands behind a byte that is none, if it was not before
pub zero-passed : (s : List ℕ) (i : ℕ) → i ≤ first_zero s → (get_or s i 0 ≡ 0 → ⊥) → i < first_zero s
unfolding first_zero
zero-passed [] i h e = absurd (e refl)
zero-passed (zero ∷ s) zero h e = absurd (e refl)
zero-passed (zero ∷ s) (suc i) h e = absurd (omega arith)
zero-passed (suc b ∷ s) zero h e = omega arith
zero-passed (suc b ∷ s) (suc i) h e = let l = zero-passed s i (omega arith) e in omega arith

-- not behind another zero
pub zero-late : (s : List ℕ) (i : ℕ) → get_or s i 0 ≡ 0 → first_zero s ≤ i
unfolding first_zero
zero-late [] i e = omega arith
zero-late (zero ∷ s) i e = omega arith
zero-late (suc b ∷ s) zero e = absurd (omega arith)
zero-late (suc b ∷ s) (suc i) e = let h = zero-late s i e in omega arith

-- and at a zero's offset exactly where no zero stands before that
zeros-before : (s : List ℕ) (i : ℕ) → i < length s → get_or s i 0 ≡ 0 → not (has_zero (take i s)) ≡ eqb (first_zero s) i
unfolding first_zero has_zero
zeros-before [] i h e = absurd (omega arith)
zeros-before (zero ∷ s) zero h e = refl
zeros-before (zero ∷ s) (suc i) h e = sym (eqb-zero-suc i)
zeros-before (suc b ∷ s) zero h e = absurd (omega arith)
zeros-before (suc b ∷ s) (suc i) h e = zeros-before s i (omega arith) e ∙ sym (eqb-suc-suc (first_zero s) i)

and-true : (b : Bool) → (b && true) ≡ b
and-true true = refl
and-true false = refl

and-false : (b : Bool) → (b && false) ≡ false
and-false true = refl
and-false false = refl

-- what stands behind a string is its last byte
last-same : (run : List ℕ) (i : ℕ) → suc i ≡ length run → same (drop i run) terminator ≡ eqb (get_or run i 0) 0
unfolding same
last-same [] i h = absurd (omega arith)
last-same (x ∷ []) zero h = and-true (eqb x 0)
last-same (x ∷ y ∷ run) zero h = absurd (omega arith)
last-same (x ∷ run) (suc i) h = last-same run i (omega arith)

pub closed-last : (run : List ℕ) → 0 < length run → get_or run (length run - 1) 0 ≡ 0 → eqb (first_zero run) (length run - 1) ≡ closed run
closed-last run h e =
    rw (last-same run (length run - 1) (omega arith), eq-eqb _ _ e, zeros-before run (length run - 1) (omega arith) e)
    (sym (and-true (eqb (first_zero run) (length run - 1))))

pub closed-open : (run : List ℕ) → 0 < length run → (get_or run (length run - 1) 0 ≡ 0 → ⊥) → false ≡ closed run
closed-open run h e =
    rw (last-same run (length run - 1) (omega arith), ne_eqb _ _ e) (sym (and-false (not (has_zero (take (length run - 1) run)))))
