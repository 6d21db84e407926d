-- A number's decimal form is read as the number, and what is read as a number is its decimal form.
use Prim.Native.Nat.{ℕ, zero, suc, ◌+◌, ◌-◌, ◌*◌, ◌/◌, ◌%◌, ◌^◌, ◌≤◌, ◌<◌}
use mathlib.Core.Path.{◌≡◌, refl, sym, ap, ◌∙◌}
use mathlib.Core.Bool.{Bool, true, false}
use mathlib.Core.List.{List, [], ◌∷◌, ◌++◌, append-nil}
use mathlib.Core.Logic.{◌⊎◌, ⊎_elim}
use native.Mathlib.Omega.{arith}
use native.Mathlib.Nat.{pow-suc, one-le-pow}
use lib.Dec.{eqb, leb, ltb}
use lib.ListN.{length, take, get_or, length-append}
use lib.Seq.{append_snoc}
use borrow.Author.Tests.{lt-ltb, le-ltb, ltb-true, ltb-false, le-leb, leb-true, ne_eqb, eqb-true, eqb-false}
use Rattle.digits.specs.Read.{got}
use Rattle.digits.specs.Decimal.{decimal_of, decimal, is_decimal, more_decimal, decimal_at}
use Rattle.digits.specs.Fixed.{fixed}
use Rattle.digits.proofs.Judging.{Judged, judged-got, judged-test, judged-map, both_left, both_right}

-- which characters are digits
pub digit-is : (d : ℕ) → d < 10 → is_decimal (48 + d) ≡ true
unfolding is_decimal
digit-is d h = rw (le-leb 48 (48 + d) (omega arith), le-leb (48 + d) 57 (omega arith))

pub digit-bounds : (c : ℕ) → is_decimal c ≡ true → (48 ≤ c) × (c ≤ 57)
unfolding is_decimal
digit-bounds c h =
    (leb-true 48 c (both_left (leb 48 c) (leb c 57) h), leb-true c 57 (both_right (leb 48 c) (leb c 57) h))

-- a number below 10, and one above
one-digit : (most n : ℕ) → n < 10 → decimal_of (suc most) n ≡ (48 + n) ∷ []
unfolding decimal_of
one-digit most n h = rw (lt-ltb n 10 h)

more-digits : (most n : ℕ) → 10 ≤ n → decimal_of (suc most) n ≡ decimal_of most (n / 10) ++ ((48 + n % 10) ∷ [])
unfolding decimal_of
more-digits most n h = rw (le-ltb n 10 h)

-- below 10 or not
by_ten : (P : Type 0) (n : ℕ) → (n < 10 → P) → (10 ≤ n → P) → P
by_ten P n low high = go (ltb n 10) refl
  where
    go : (b : Bool) → ltb n 10 ≡ b → P
    go true e = low (ltb-true n 10 e)
    go false e = high (ltb-false n 10 e)

-- room for more digits than a number has changes nothing
wider : (most n : ℕ) → n < 10 ^ suc most → decimal_of (suc most) n ≡ decimal_of (suc (suc most)) n
wider zero n h = one-digit 0 n (omega arith) ∙ sym (one-digit 1 n (omega arith))
wider (suc most) n h =
    by_ten _ n
    (λ low. one-digit (suc most) n low ∙ sym (one-digit (suc (suc most)) n low))
    (λ high. rw (more-digits (suc most) n high, more-digits (suc (suc most)) n high)
    (ap (λ (x : List ℕ). x ++ ((48 + n % 10) ∷ [])) (wider most (n / 10) (omega (arith, pow-suc 10 (suc most))))))

-- one more digit behind a number's
pub digit-behind : (value d : ℕ) → 1 ≤ value → d < 10 → 10 * value + d < 10 ^ 20 → decimal (10 * value + d) ≡ decimal value ++ ((48 + d) ∷ [])
digit-behind value d h l f =
    let e : (10 * value + d) / 10 ≡ value = omega arith in
    let m : (10 * value + d) % 10 ≡ d = omega arith in
    more-digits 19 (10 * value + d) (omega arith) ∙ rw (e, m, wider 18 value (omega arith))

pub decimal-some : (n : ℕ) → 1 ≤ length (decimal n)
decimal-some n =
    by_ten _ n
    (λ low. rw (one-digit 19 n low) (omega arith))
    (λ high. rw (more-digits 19 n high, length-append (decimal_of 19 (n / 10)) ((48 + n % 10) ∷ [])) (omega arith))

-- every character is a digit
abbrev pub AllDigits : List ℕ → Type 0
AllDigits [] = Unit {0}
AllDigits (c ∷ s) = (is_decimal c ≡ true) × AllDigits s

digits-behind : (s : List ℕ) (c : ℕ) → AllDigits s → is_decimal c ≡ true → AllDigits (s ++ (c ∷ []))
digits-behind [] c h d = (d, tt)
digits-behind (x ∷ s) c h d = (h.0, digits-behind s c h.1 d)

pub digits-all : (most n : ℕ) → AllDigits (decimal_of most n)
unfolding decimal_of
digits-all zero n = tt
digits-all (suc most) n =
    by_ten _ n
    (λ low. rw (lt-ltb n 10 low) (digit-is n low, tt))
    (λ high. rw (le-ltb n 10 high) (digits-behind (decimal_of most (n / 10)) (48 + n % 10) (digits-all most (n / 10)) (digit-is (n % 10) (omega arith))))

-- the first character of a number is a digit
pub decimal-first : (n : ℕ) (s : List ℕ) → is_decimal (get_or (decimal n ++ s) 0 0) ≡ true
decimal-first n s = go (decimal n) (decimal-some n) (digits-all 20 n)
  where
    go : (t : List ℕ) → 1 ≤ length t → AllDigits t → is_decimal (get_or (t ++ s) 0 0) ≡ true
    go [] h d = absurd (omega arith)
    go (c ∷ t) h d = d.0

few : (most k n : ℕ) → 1 ≤ k → n < 10 ^ k → length (decimal_of most n) ≤ k
unfolding decimal_of
few zero k n h l = omega arith
few (suc most) zero n h l = absurd (omega arith)
few (suc most) (suc zero) n h l = rw (lt-ltb n 10 (omega arith)) (omega arith)
few (suc most) (suc (suc k)) n h l =
    by_ten _ n
    (λ low. rw (lt-ltb n 10 low) (omega arith))
    (λ high. rw (le-ltb n 10 high, length-append (decimal_of most (n / 10)) ((48 + n % 10) ∷ []))
    (omega (arith, few most (suc k) (n / 10) (omega arith) (omega (arith, pow-suc 10 (suc k))))))

-- how many digits a number has at most
pub decimal-most : (k n : ℕ) → 1 ≤ k → k ≤ 20 → n < 10 ^ k → length (decimal n) ≤ k
decimal-most k n h l f = few 20 k n h f

module _ (limit : ℕ) where
  -- the digits of a number are read as far as they go
  digits-read :
      (most n : ℕ) (t : List ℕ) → 1 ≤ n → n ≤ limit → n < 10 ^ most
      → decimal_at limit (decimal_of most n ++ t) ≡ more_decimal limit n (length (decimal_of most n)) t
  unfolding decimal_at more_decimal
  digits-read zero n t h l f = absurd (omega arith)
  digits-read (suc most) n t h l f =
      by_ten _ n
      (λ low.
      let d : 48 + n - 48 ≡ n = omega arith in
      rw (one-digit most n low, ne_eqb (48 + n) 48 (λ e. omega arith), digit-is n low, d))
      (λ high.
      let rest = digits-read most (n / 10) ((48 + n % 10) ∷ t) (omega arith) (omega arith) (omega (arith, pow-suc 10 most)) in
      let d : 10 * (n / 10) + (48 + n % 10 - 48) ≡ n = omega arith in
      let k : length (decimal_of most (n / 10)) + 1 ≡ suc (length (decimal_of most (n / 10))) = omega arith in
      rw (more-digits most n high, append_snoc (decimal_of most (n / 10)) (48 + n % 10) t, length-append (decimal_of most (n / 10)) ((48 + n % 10) ∷ []), k)
      (rest ∙ rw (digit-is (n % 10) (omega arith), d, le-leb n limit l)))

  -- behind a number nothing stands that is a digit
  digits-end : (value count : ℕ) (s : List ℕ) → is_decimal (get_or s 0 0) ≡ false → more_decimal limit value count s ≡ got value count
  unfolding more_decimal
  digits-end value count [] h = refl
  digits-end value count (c ∷ s) h = rw h

-- a number's decimal form, with no digit behind it, is read as the number
pub decimal-read :
    (limit n : ℕ) (s : List ℕ) → 9 ≤ limit → n ≤ limit → n < 2 ^ 64 → is_decimal (get_or s 0 0) ≡ false
    → decimal_at limit (decimal n ++ s) ≡ got n (length (decimal n))
unfolding decimal_at decimal_of
decimal-read limit zero s h l f e = refl
decimal-read limit (suc n) s h l f e =
    digits-read limit 20 (suc n) s (omega arith) l (omega arith) ∙ digits-end limit (suc n) (length (decimal (suc n))) s e

module _ (limit : ℕ) (small : limit < 10 ^ 20) where
  -- what is read behind the digits of `value`, of which there are `count`
  abbrev Behind : ℕ → ℕ → List ℕ → ℕ → ℕ → Type 0
  Behind value count t n k =
      (n ≤ limit) × (count ≤ k) × (k - count ≤ length t) × (decimal n ≡ decimal value ++ take (k - count) t) × (k ≡ length (decimal n))

  behind-none : (value count : ℕ) (t : List ℕ) → value ≤ limit → count ≡ length (decimal value) → Behind value count t value count
  behind-none value count t l e =
      let z : count - count ≡ 0 = omega arith in
      (l, omega arith, omega arith, rw z (sym (append-nil (decimal value))), e)

  -- one more digit
  digit-next :
      (value c : ℕ) → 1 ≤ value → is_decimal c ≡ true → 10 * value + (c - 48) ≤ limit
      → decimal (10 * value + (c - 48)) ≡ decimal value ++ (c ∷ [])
  digit-next value c h d f =
      let b = digit-bounds c d in
      let e : 48 + (c - 48) ≡ c = omega arith in
      digit-behind value (c - 48) h (omega arith) (omega arith) ∙ rw e

  behind-step :
      (value count c : ℕ) (t : List ℕ) → 1 ≤ value → is_decimal c ≡ true → 10 * value + (c - 48) ≤ limit → (n k : ℕ)
      → Behind (10 * value + (c - 48)) (suc count) t n k → Behind value count (c ∷ t) n k
  behind-step value count c t h d f n k b =
      let e : k - count ≡ suc (k - suc count) = omega arith in (
        b.0,
        omega arith,
        omega arith,
        rw e (b.3 ∙ rw (digit-next value c h d f, append_snoc (decimal value) c (take (k - suc count) t))),
        b.4,
      )

  next-count :
      (value count c : ℕ) → 1 ≤ value → is_decimal c ≡ true → 10 * value + (c - 48) ≤ limit → count ≡ length (decimal value)
      → suc count ≡ length (decimal (10 * value + (c - 48)))
  next-count value count c h d f e =
      rw (digit-next value c h d f, length-append (decimal value) (c ∷ [])) (omega arith)

  more-sound :
      (value count : ℕ) (t : List ℕ) → 1 ≤ value → value ≤ limit → count ≡ length (decimal value)
      → Judged (Behind value count t) (more_decimal limit value count t)
  unfolding more_decimal
  more-sound value count [] h l e = behind-none value count [] l e
  more-sound value count (c ∷ t) h l e =
      judged-test (Behind value count (c ∷ t)) (is_decimal c) _ _
      (λ d. judged-test (Behind value count (c ∷ t)) (leb (10 * value + (c - 48)) limit) _ _
      (λ f. let g = leb-true (10 * value + (c - 48)) limit f in
      judged-map (Behind (10 * value + (c - 48)) (suc count) t) (Behind value count (c ∷ t)) (more_decimal limit (10 * value + (c - 48)) (suc count) t)
      (behind-step value count c t h d g)
      (more-sound (10 * value + (c - 48)) (suc count) t (omega arith) g (next-count value count c h d g e)))
      (λ f. tt))
      (λ d. behind-none value count (c ∷ t) l e)

-- what stands at the front where a number is read
abbrev pub DecimalFront : ℕ → List ℕ → ℕ → ℕ → Type 0
DecimalFront limit s n k = (n ≤ limit) × (take k s ≡ decimal n) × (k ≡ length (decimal n)) × (k ≤ length s)

front-sound : (limit : ℕ) (s : List ℕ) → 9 ≤ limit → limit < 10 ^ 20 → Judged (DecimalFront limit s) (decimal_at limit s)
unfolding decimal_at
front-sound limit [] h l = tt
front-sound limit (c ∷ s) h l =
    judged-test (DecimalFront limit (c ∷ s)) (eqb c 48) _ _
    (λ e. let z : c ≡ 48 = eqb-true c 48 e in
    let one : decimal 0 ≡ 48 ∷ [] = one-digit 19 0 (omega arith) in
    (omega arith, rw (z, one), rw one, omega arith))
    (λ e. judged-test (DecimalFront limit (c ∷ s)) (is_decimal c) _ _ (more (eqb-false c 48 e)) (λ d. tt))
  where
    more : (c ≡ 48 → ⊥) → is_decimal c ≡ true → Judged (DecimalFront limit (c ∷ s)) (more_decimal limit (c - 48) 1 s)
    more z d =
        let b = digit-bounds c d in
        let e : 48 + (c - 48) ≡ c = omega arith in
        let one : decimal (c - 48) ≡ c ∷ [] = one-digit 19 (c - 48) (omega arith) ∙ rw e in
        let k : c - 48 ≡ 0 → ⊥ = λ q. z (omega arith) in
        judged-map (Behind limit l (c - 48) 1 s) (DecimalFront limit (c ∷ s)) (more_decimal limit (c - 48) 1 s)
        (λ n k b. let e : k ≡ suc (k - 1) = omega arith in
        (b.0, sym (b.3 ∙ rw one (ap (λ (i : ℕ). take i (c ∷ s)) (sym e))), b.4, omega arith))
        (more-sound limit l (c - 48) 1 s (omega arith) (omega arith) (rw one))

-- what is read as a number is its decimal form
pub decimal-sound :
    (limit : ℕ) (s : List ℕ) (n k : ℕ) → 9 ≤ limit → limit < 2 ^ 60 → decimal_at limit s ≡ got n k
    → (n ≤ limit) × (take k s ≡ decimal n) × (k ≡ length (decimal n)) × (k ≤ length s)
decimal-sound limit s n k h l e = judged-got (DecimalFront limit s) (decimal_at limit s) n k (front-sound limit s h (omega arith)) e

-- a number that needs all of k digits
fixed-digits : (most k n : ℕ) → k ≤ most → 1 ≤ k → n < 10 ^ k → (1 < k → 10 ^ (k - 1) ≤ n) → decimal_of most n ≡ fixed 10 k n
fixed-digits most zero n m h l f = absurd (omega arith)
fixed-digits zero (suc k) n m h l f = absurd (omega arith)
fixed-digits (suc most) (suc zero) n m h l f =
    let same : n % 10 ≡ n = omega arith in
    one-digit most n (omega arith) ∙ rw (same, lt-ltb n 10 (omega arith))
fixed-digits (suc most) (suc (suc k)) n m h l f =
    let more : suc (suc k) - 1 ≡ suc k = omega arith in
    let low : 10 ^ suc k ≤ n = rw more at (f (omega arith)) in
    let some : 1 ≤ 10 ^ k = one-le-pow k 10 (omega arith) in
    let fewer : suc k - 1 ≡ k = omega arith in
    let above : 10 ^ k ≤ n / 10 = omega (arith, pow-suc 10 k) in
    let below : n / 10 < 10 ^ suc k = omega (arith, pow-suc 10 (suc k)) in
    let rest = fixed-digits most (suc k) (n / 10) (omega arith) (omega arith) below (λ z. rw fewer above) in
    more-digits most n (omega (arith, pow-suc 10 k)) ∙ rw (lt-ltb (n % 10) 10 (omega arith)) (ap (λ (x : List ℕ). x ++ ((48 + n % 10) ∷ [])) rest)

-- a number whose digits were counted is written by that many
pub decimal-fixed : (k n : ℕ) → k ≤ 20 → 1 ≤ k → n < 10 ^ k → (k ≡ 1 ⊎ 10 ^ (k - 1) ≤ n) → decimal n ≡ fixed 10 k n
decimal-fixed k n m h l f = fixed-digits 20 k n m h l (λ g. ⊎_elim (λ (e : k ≡ 1). absurd (omega arith)) (λ (e : 10 ^ (k - 1) ≤ n). e) f)
