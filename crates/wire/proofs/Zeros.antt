-- Laws of the search for a zero.
use Prim.Native.Nat.{ℕ, zero, suc, ◌+◌, ◌-◌, ◌≤◌, ◌<◌}
use mathlib.Core.Path.{◌≡◌, refl, sym, ap, ◌∙◌}
use mathlib.Core.Bool.{Bool, true, false, not, ◌||◌, cond}
use mathlib.Core.List.{List, [], ◌∷◌, ◌++◌, append-nil}
use native.Mathlib.Numerals.{add-one}
use native.Mathlib.Omega.{arith}
use lib.Dec.{eqb}
use lib.ListN.{length, take, drop, get_or, replicate, length-drop}
use lib.Seq.{take-suc, take-add, take_at, take_all, drop-length}
use borrow.Author.Tests.{ne_eqb, ltb-false}
use Rattle.std.specs.Prelude.{Some, None, position}
use Rattle.std.specs.List.{position_or_len}
use Rattle.std.proofs.lemmas.List.Recursion.{is_position_or_len}
use Rattle.wire.specs.Zero.{has_zero, zero_at, all_zero}

pub zero-append : (xs ys : List ℕ) → has_zero (xs ++ ys) ≡ (has_zero xs || has_zero ys)
unfolding has_zero
zero-append [] ys = refl
zero-append (zero ∷ xs) ys = refl
zero-append (suc b ∷ xs) ys = zero-append xs ys

zero_one : (b : ℕ) → has_zero (b ∷ []) ≡ eqb b 0
unfolding has_zero
zero_one zero = refl
zero_one (suc b) = sym (ne_eqb (suc b) 0 (λ e. omega arith))

-- a loop that passed i bytes goes on
pub zero_more : (s : List ℕ) (i : ℕ) → i < length s → (has_zero (take i s) || eqb (get_or s i 0) 0) ≡ has_zero (take (i + 1) s)
zero_more s i h = rw (add-one i, take-suc s i 0 h, zero-append (take i s) (get_or s i 0 ∷ []), zero_one (get_or s i 0))

-- the same where the byte is no zero
pub zero-passed : (s : List ℕ) (i : ℕ) → i < length s → has_zero (take i s) ≡ false → (get_or s i 0 ≡ 0 → ⊥) → has_zero (take (i + 1) s) ≡ false
zero-passed s i h p n = sym (zero_more s i h) ∙ rw (p, ne_eqb _ _ n)

-- the first zero is the one before which there is none
pub zero-first : (s : List ℕ) (i : ℕ) → i < length s → has_zero (take i s) ≡ false → get_or s i 0 ≡ 0 → zero_at s ≡ i
unfolding has_zero zero_at
zero-first [] i h p z = absurd (omega arith)
zero-first (zero ∷ s) zero h p z = refl
zero-first (zero ∷ s) (suc i) h p z = absurd (let e : ◌≡◌ {A = ℕ} 0 1 = cc in omega arith)
zero-first (suc b ∷ s) zero h p z = absurd (omega arith)
zero-first (suc b ∷ s) (suc i) h p z = ap suc (zero-first s i (omega arith) p z)

pub zero-none : (s : List ℕ) → has_zero s ≡ false → zero_at s ≡ length s
unfolding has_zero zero_at
zero-none [] p = refl
zero-none (zero ∷ s) p = absurd (let e : ◌≡◌ {A = ℕ} 0 1 = cc in omega arith)
zero-none (suc b ∷ s) p = ap suc (zero-none s p)

-- before it there is none, and it is a zero where it is a byte of the list
pub zero-before : (s : List ℕ) → has_zero (take (zero_at s) s) ≡ false
unfolding has_zero zero_at
zero-before [] = refl
zero-before (zero ∷ s) = refl
zero-before (suc b ∷ s) = zero-before s

pub zero-within : (s : List ℕ) → zero_at s ≤ length s
unfolding zero_at
zero-within [] = omega arith
zero-within (zero ∷ s) = omega arith
zero-within (suc b ∷ s) = let h = zero-within s in omega arith

pub zero-found : (s : List ℕ) → has_zero s ≡ true → zero_at s < length s
unfolding has_zero zero_at
zero-found [] h = absurd (let e : ◌≡◌ {A = ℕ} 0 1 = cc in omega arith)
zero-found (zero ∷ s) h = omega arith
zero-found (suc b ∷ s) h = let k = zero-found s h in omega arith

pub zero-there : (s : List ℕ) → zero_at s < length s → get_or s (zero_at s) 0 ≡ 0
unfolding zero_at
zero-there [] h = absurd (omega arith)
zero-there (zero ∷ s) h = refl
zero-there (suc b ∷ s) h = zero-there s (omega arith)

-- a search by its first index finds the first zero
zero-index : (s : List ℕ) → zero_at s ≡ position_or_len (λ b. eqb b 0) s
unfolding zero_at
zero-index = is_position_or_len zero_at (λ b. eqb b 0) refl step
  where
    step : (x : ℕ) (xs : List ℕ) → zero_at (x ∷ xs) ≡ cond (eqb x 0) 0 (1 + zero_at xs)
    step zero xs = refl
    step (suc b) xs = rw (ne_eqb (suc b) 0 (λ e. omega arith)) (omega arith)

chosen : (t : Bool) (k n : ℕ) → cond t (Some k) None ≡ Some n → k ≡ n
chosen true k n e = cc
chosen false k n e = cc

none_chosen : (t : Bool) (k : ℕ) → cond t (Some k) None ≡ None → t ≡ false
none_chosen true k e = cc
none_chosen false k e = refl

zero-behind : (s : List ℕ) (i : ℕ) → i ≤ length s → has_zero (take i s) ≡ false → zero_at s ≡ i + zero_at (drop i s)
unfolding has_zero zero_at
zero-behind s zero h p = omega arith
zero-behind [] (suc i) h p = absurd (omega arith)
zero-behind (zero ∷ s) (suc i) h p = absurd (let e : ◌≡◌ {A = ℕ} 0 1 = cc in omega arith)
zero-behind (suc b ∷ s) (suc i) h p = let e = zero-behind s i (omega arith) p in omega (arith, e)

rest_all : (i : ℕ) (s : List ℕ) → take (length s - i) (drop i s) ≡ drop i s
rest_all i s = take_all (length s - i) (drop i s) (simp length-drop (omega arith))

pub zero-searched :
    (s : List ℕ) (i n : ℕ) → i ≤ length s → has_zero (take i s) ≡ false
    → Some n ≡ position (λ b. eqb b 0) (take (length s - i) (drop i s)) → i + n ≡ zero_at s
zero-searched s i n h p e =
    let f : position_or_len (λ b. eqb b 0) (drop i s) ≡ n = chosen _ _ n (sym (ap (position (λ b. eqb b 0)) (rest_all i s)) ∙ sym e) in
    omega (arith, zero-behind s i h p, zero-index (drop i s), f)

pub zero-unfound :
    (s : List ℕ) (i : ℕ) → i ≤ length s → has_zero (take i s) ≡ false
    → None ≡ position (λ b. eqb b 0) (take (length s - i) (drop i s)) → length s ≡ zero_at s
zero-unfound s i h p e =
    let f = none_chosen _ _ (sym (ap (position (λ b. eqb b 0)) (rest_all i s)) ∙ sym e) in
    let g = ltb-false _ _ f in
    let k = zero-within (drop i s) in
    omega (arith, zero-behind s i h p, zero-index (drop i s), g, k, length-drop i s)

-- one more stride is passed
pub stride-none :
    (s rest x next : List ℕ) (i n : ℕ) → has_zero (take i s) ≡ false → rest ≡ drop i s → rest ≡ x ++ next → length x ≡ n → has_zero x ≡ false
    → has_zero (take (i + n) s) ≡ false
stride-none s rest x next i n p r e l z =
    let t : take n (drop i s) ≡ x = ap (take n) (sym r ∙ e) ∙ take_at x next n l in
    rw (take-add i n s, zero-append (take i s) (take n (drop i s)), t, p, z)

-- zeros alone
all_append : (xs : List ℕ) (b : ℕ) → not (all_zero (xs ++ b ∷ [])) ≡ (not (all_zero xs) || not (eqb b 0))
unfolding all_zero
all_append [] zero = refl
all_append [] (suc b) = rw (ne_eqb (suc b) 0 (λ e. omega arith))
all_append (zero ∷ xs) b = all_append xs b
all_append (suc x ∷ xs) b = refl

pub other-more : (s : List ℕ) (i : ℕ) → i < length s → (not (all_zero (take i s)) || not (eqb (get_or s i 0) 0)) ≡ not (all_zero (take (i + 1) s))
other-more s i h = rw (add-one i, take-suc s i 0 h, all_append (take i s) (get_or s i 0))

pub not-other : (b : Bool) → not (not b) ≡ b
not-other true = refl
not-other false = refl

pub zeros-alone : (s : List ℕ) → all_zero s ≡ true → s ≡ replicate (length s) 0
unfolding all_zero
zeros-alone [] h = refl
zeros-alone (zero ∷ s) h = ap (λ (t : List ℕ). 0 ∷ t) (zeros-alone s h)
zeros-alone (suc b ∷ s) h = absurd (let e : ◌≡◌ {A = ℕ} 0 1 = cc in omega arith)

pub alone-zeros : (n : ℕ) → all_zero (replicate n 0) ≡ true
unfolding all_zero
alone-zeros zero = refl
alone-zeros (suc n) = alone-zeros n

-- a buffer that is filled to its end
pub filled-all : (d : List ℕ) (i : ℕ) → i ≤ length d → length d ≤ i → replicate i 0 ++ drop i d ≡ replicate (length d) 0
filled-all d i a b = let e : i ≡ length d = omega arith in rw (e, drop-length d) (append-nil (replicate (length d) 0))
