-- An int's text is read as the int, and what is read as an int is its text.
use Prim.Native.Nat.{ℕ, zero, suc, ◌+◌, ◌-◌, ◌^◌, ◌≤◌, ◌<◌}
use mathlib.Core.Path.{◌≡◌, refl, ap, ◌∙◌}
use mathlib.Core.Bool.{Bool, true, false}
use mathlib.Core.List.{List, [], ◌∷◌, ◌++◌}
use native.Mathlib.Omega.{arith}
use lib.Dec.{eqb}
use lib.ListN.{length, drop, get_or}
use borrow.Author.Tests.{leb-true, leb-false, le-leb, lt-leb, eqb-true}
use Rattle.digits.specs.Read.{Read, got, and_read}
use Rattle.digits.specs.Decimal.{decimal, is_decimal, decimal_at}
use Rattle.digits.proofs.Judging.{Judged, judged-all, judged-test, judged-read}
use Rattle.digits.proofs.Decimals.{decimal-read, decimal-sound, decimal-first, decimal-some, digits-all, AllDigits}
use Rattle.list.specs.Strings.{negative}
use Rattle.text.specs.Text.{int_text}
use Rattle.text.specs.Read.{sign_size, minus_bits, int_at}
use Rattle.text.proofs.Fronts.{Front, front-cons, digit_low, digit-high}

-- negative or not
pub by_sign : (P : Type 0) (n : ℕ) → (negative n ≡ true → 2 ^ 31 ≤ n → P) → (negative n ≡ false → n < 2 ^ 31 → P) → P
by_sign P n low high = go (negative n) refl
  where
    go : (b : Bool) → negative n ≡ b → P
    go true e = low e (leb-true 2147483648 n e)
    go false e = high e (leb-false 2147483648 n e)

minus_is : (m count : ℕ) → 1 ≤ m → minus_bits m count ≡ got (2 ^ 32 - m) (suc count)
minus_is zero count h = absurd (omega arith)
minus_is (suc m) count h = refl

-- an int's text, with no digit behind it, is read as the int
pub int-read : (n : ℕ) (s : List ℕ) → n < 2 ^ 32 → is_decimal (get_or s 0 0) ≡ false → int_at (int_text n ++ s) ≡ got n (length (int_text n))
unfolding int_at
int-read n s h d =
    by_sign _ n
    (λ e l. let back : 2 ^ 32 - (2 ^ 32 - n) ≡ n = omega arith in
    rw e (ap (λ (r : Read ℕ). and_read r minus_bits) (decimal-read (2 ^ 31) (2 ^ 32 - n) s (omega arith) (omega arith) (omega arith) d)
    ∙ (minus_is (2 ^ 32 - n) (length (decimal (2 ^ 32 - n))) (omega arith) ∙ rw back)))
    (λ e l. rw (e, digit_low (get_or (decimal n ++ s) 0 0) 45 (decimal-first n s) (omega arith))
    (decimal-read (2 ^ 31 - 1) n s (omega arith) (omega arith) (omega arith) d))

-- the second character of a number and of what stands behind it is no x
second : (t s : List ℕ) → 1 ≤ length t → AllDigits t → eqb (get_or s 0 0) 120 ≡ false → eqb (get_or (t ++ s) 1 0) 120 ≡ false
second [] s h d x = absurd (omega arith)
second (c ∷ []) s h d x = x
second (c ∷ c' ∷ t) s h d x = digit-high c' 120 d.1.0 (omega arith)

-- an int's text is not taken for a float's
pub int-no-x : (n : ℕ) (s : List ℕ) → eqb (get_or s 0 0) 120 ≡ false → eqb (get_or (int_text n ++ s) (sign_size (int_text n ++ s) + 1) 0) 120 ≡ false
unfolding sign_size
int-no-x n s x =
    by_sign _ n
    (λ e l. rw e (second (decimal (2 ^ 32 - n)) s (decimal-some (2 ^ 32 - n)) (digits-all 20 (2 ^ 32 - n)) x))
    (λ e l. rw (e, digit_low (get_or (decimal n ++ s) 0 0) 45 (decimal-first n s) (omega arith)) (second (decimal n) s (decimal-some n) (digits-all 20 n) x))

-- what is read as an int
abbrev pub IntFront : List ℕ → ℕ → ℕ → Type 0
IntFront s n count = (n < 2 ^ 32) × Front s (int_text n) count

minus-sound : (s : List ℕ) (m count : ℕ) → decimal_at (2 ^ 31) s ≡ got m count → Judged (IntFront (45 ∷ s)) (minus_bits m count)
minus-sound s zero count e = tt
minus-sound s (suc m) count e =
    let f = decimal-sound (2 ^ 31) s (suc m) count (omega arith) (omega arith) e in
    let back : 2 ^ 32 - (2 ^ 32 - suc m) ≡ suc m = omega arith in
    rw (le-leb 2147483648 (2 ^ 32 - suc m) (omega arith), back) (omega arith, front-cons 45 s (decimal (suc m)) count (f.1, f.2, f.3))

pub int-sound : (s : List ℕ) → Judged (IntFront s) (int_at s)
unfolding int_at
int-sound s = judged-test (IntFront s) (eqb (get_or s 0 0) 45) _ _ (minus s) (λ e. judged-all (IntFront s) (decimal_at (2 ^ 31 - 1) s) plus)
  where
    plus : (n count : ℕ) → decimal_at (2 ^ 31 - 1) s ≡ got n count → IntFront s n count
    plus n count e =
        let f = decimal-sound (2 ^ 31 - 1) s n count (omega arith) (omega arith) e in
        rw (lt-leb 2147483648 n (omega arith)) (omega arith, (f.1, f.2, f.3))

    minus : (s : List ℕ) → eqb (get_or s 0 0) 45 ≡ true → Judged (IntFront s) (and_read (decimal_at (2 ^ 31) (drop 1 s)) minus_bits)
    minus [] e = absurd (omega (arith, eqb-true 0 45 e))
    minus (c ∷ s) e = rw (eqb-true c 45 e) (judged-read (IntFront (45 ∷ s)) (decimal_at (2 ^ 31) s) minus_bits (minus-sound s))
