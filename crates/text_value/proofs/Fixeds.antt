-- Laws of numbers of a fixed number of digits, read digit by digit.
use Prim.Native.Nat.{ℕ, zero, suc, ◌+◌, ◌-◌, ◌*◌, ◌/◌, ◌%◌, ◌^◌, ◌≤◌, ◌<◌}
use mathlib.Core.Path.{◌≡◌, refl, sym, ap, ◌∙◌}
use mathlib.Core.Bool.{Bool, true, false, cond, not, ◌&&◌, ◌||◌}
use mathlib.Core.List.{List, [], ◌∷◌}
use mathlib.Core.Option.{Option, some}
use mathlib.Core.Option as option
use native.Mathlib.Omega.{arith}
use native.Mathlib.Numerals.{add-one}
use native.Mathlib.Nat.{pow-succ', pow-le-pow_right}
use lib.Dec.{eqb, ltb, leb}
use lib.ListN.{length, get_or, drop}
use borrow.Author.Tests.{lt-ltb, le-ltb, le-leb, ltb-true, ltb-false, leb-true, leb-false, eq-eqb, ne_eqb}
use Rattle.digits.specs.Decimal.{is_decimal}
use Rattle.digits.specs.Fixed.{digit_of, fixed_from}
use Rattle.digits.proofs.Judging.{both_left, both_right}
use Rattle.digits.proofs.Decimals.{digit-bounds}
use Rattle.text_value.proofs.Decimals.{clash, drop-next}

-- A DIGIT
digit-decimal : (c : ℕ) → is_decimal c ≡ true → digit_of c ≡ c - 48
unfolding is_decimal digit_of
digit-decimal c h = rw h

digit-letter : (c : ℕ) → is_decimal c ≡ false → (leb 97 c && leb c 102) ≡ true → digit_of c ≡ c - 87
unfolding is_decimal digit_of
digit-letter c h k = rw (h, k)

digit-other : (c : ℕ) → is_decimal c ≡ false → (leb 97 c && leb c 102) ≡ false → digit_of c ≡ 16
unfolding is_decimal digit_of
digit-other c h k = rw (h, k)

-- between two bounds
pub range : (a b c : ℕ) → (leb a c && leb c b) ≡ true → (a ≤ c) × (c ≤ b)
range a b c h = (leb-true a c (both_left (leb a c) (leb c b) h), leb-true c b (both_right (leb a c) (leb c b) h))

pub decimal-in : (c : ℕ) → 48 ≤ c → c ≤ 57 → is_decimal c ≡ true
unfolding is_decimal
decimal-in c h k = rw (le-leb 48 c h, le-leb c 57 k)

out_of : (a b c : ℕ) → (leb a c && leb c b) ≡ false → a ≤ c → b < c
out_of a b c h k = leb-false c b (rw (le-leb a c k) at h)

-- ONE TURN: before it, L is what `left` digits from offset i on make behind `value`
module _ (L : Option ℕ) (left value : ℕ) (s : List ℕ) (i : ℕ) (inv : L ≡ fixed_from 16 left value (drop i s)) where
  pub fixed-end : left ≤ 0 → some value ≡ L
  unfolding fixed_from
  fixed-end h = let e : left ≡ 0 = omega arith in sym (inv ∙ rw e)

  front : 0 < left → i < length s
      → L ≡ cond (ltb (digit_of (get_or s i 0)) 16) (fixed_from 16 (left - 1) (16 * value + digit_of (get_or s i 0)) (drop (i + 1) s)) option.none
  unfolding fixed_from
  front more h = let e : left ≡ suc (left - 1) = omega arith in inv ∙ rw (drop-next s i h) (ap (λ (n : ℕ). fixed_from 16 n value (get_or s i 0 ∷ drop (i + 1) s)) e)

  pub fixed-stop : 0 < left → i < length s → 16 ≤ digit_of (get_or s i 0) → option.none ≡ L
  fixed-stop more h d = sym (front more h ∙ rw (le-ltb (digit_of (get_or s i 0)) 16 d))

  pub fixed-turn : 0 < left → i < length s → digit_of (get_or s i 0) < 16 → L ≡ fixed_from 16 (left - 1) (16 * value + digit_of (get_or s i 0)) (drop (i + 1) s)
  fixed-turn more h d = front more h ∙ rw (lt-ltb (digit_of (get_or s i 0)) 16 d)

-- HEXADECIMAL DIGITS
-- the test of a character
pub hex-test : (c : ℕ) → (is_decimal c || (leb 97 c && leb c 102)) ≡ ltb (digit_of c) 16
hex-test c = go (is_decimal c) (leb 97 c && leb c 102) refl refl
  where
    go : (b d : Bool) → is_decimal c ≡ b → (leb 97 c && leb c 102) ≡ d → (b || d) ≡ ltb (digit_of c) 16
    go true d p q = sym (lt-ltb (digit_of c) 16 (rw (digit-decimal c p) (omega (arith, digit-bounds c p))))
    go false true p q = sym (lt-ltb (digit_of c) 16 (rw (digit-letter c p q) (omega (arith, range 97 102 c q))))
    go false false p q = sym (le-ltb (digit_of c) 16 (rw (digit-other c p q) (omega arith)))

-- its value without a branch for the letters: the low half of the character, and 9 more for a letter
pub hex-value : (c : ℕ) → digit_of c < 16 → c % 16 + 9 * (c / 64) ≡ digit_of c
hex-value c h = go (is_decimal c) (leb 97 c && leb c 102) refl refl
  where
    go : (b d : Bool) → is_decimal c ≡ b → (leb 97 c && leb c 102) ≡ d → c % 16 + 9 * (c / 64) ≡ digit_of c
    go true d p q = rw (digit-decimal c p) (omega (arith, digit-bounds c p))
    go false true p q = rw (digit-letter c p q) (omega (arith, range 97 102 c q))
    go false false p q = absurd (omega (arith, digit-other c p q, h))

-- POWERS OF A BASE
module _ (base i : ℕ) where
  pub power-next : base ^ (i + 1) ≡ base * base ^ i
  power-next = rw add-one (pow-succ' base i)

  pub power-most : (n : ℕ) → 0 < base → i ≤ n → base ^ i ≤ base ^ n
  power-most n h k = pow-le-pow_right h k

-- HEXADECIMAL DIGITS, ALL OF THEM READ
-- what i of `width` digits have made: their number while all were digits, and nothing after another character
module _ (s : List ℕ) (at width i value : ℕ) where
  abbrev pub Hex : Bool → Type 0
  Hex true = (fixed_from 16 width 0 (drop at s) ≡ fixed_from 16 (width - i) value (drop (at + i) s)) × (value < 16 ^ i)
  Hex false = fixed_from 16 width 0 (drop at s) ≡ option.none

pub hex-turn : (s : List ℕ) (at width i value c : ℕ) (good hex : Bool) → c ≡ get_or s (at + i) 0 → Hex s at width i value good → hex ≡ ltb (digit_of c) 16
    → i < width → at + width ≤ length s → Hex s at width (i + 1) (16 * value + (c % 16 + 9 * (c / 64))) (good && hex)
hex-turn s at width i value c false hex ec x e h k = x
hex-turn s at width i value c true false ec x e h k =
    let d = ltb-false (digit_of c) 16 (sym e) in
    sym (fixed-stop (fixed_from 16 width 0 (drop at s)) (width - i) value s (at + i) x.0 (omega arith) (omega arith) (rw (sym ec) d))
hex-turn s at width i value c true true ec x e h k =
    let d = ltb-true (digit_of c) 16 (sym e) in
    let l : width - i - 1 ≡ width - (i + 1) = omega arith in
    let p : at + i + 1 ≡ at + (i + 1) = omega arith in
    let turn = fixed-turn (fixed_from 16 width 0 (drop at s)) (width - i) value s (at + i) x.0 (omega arith) (omega arith) (rw (sym ec) d) in
    let turn₂ : fixed_from 16 width 0 (drop at s) ≡ fixed_from 16 (width - i - 1) (16 * value + digit_of c) (drop (at + i + 1) s) = rw ec turn in
    rw (hex-value c d) (turn₂ ∙ rw (l, p), rw (power-next 16 i) (omega (arith, x.1, d)))

pub hex-end : (s : List ℕ) (at width i value : ℕ) (good : Bool) → Hex s at width i value good → good ≡ true → width ≤ i
    → (some value ≡ fixed_from 16 width 0 (drop at s)) × (value < 16 ^ i)
hex-end s at width i value true x e h = (fixed-end (fixed_from 16 width 0 (drop at s)) (width - i) value s (at + i) x.0 (omega arith), x.1)
hex-end s at width i value false x e h = clash e

pub hex-bad : (s : List ℕ) (at width i value : ℕ) (good : Bool) → Hex s at width i value good → good ≡ false → option.none ≡ fixed_from 16 width 0 (drop at s)
hex-bad s at width i value true x e = clash (sym e)
hex-bad s at width i value false x e = sym x

-- OCTAL DIGITS
-- a digit below 8, or 8
abbrev pub octal_digit : ℕ → ℕ
octal_digit c = cond (ltb (digit_of c) 8) (digit_of c) 8

pub octal-is : (c : ℕ) → (leb 48 c && leb c 55) ≡ true → octal_digit c ≡ c - 48
octal-is c h =
    let x = range 48 55 c h in
    let d : is_decimal c ≡ true = decimal-in c (omega arith) (omega arith) in
    rw (digit-decimal c d, lt-ltb (c - 48) 8 (omega arith))

pub octal-other : (c : ℕ) → (leb 48 c && leb c 55) ≡ false → octal_digit c ≡ 8
octal-other c h = rw (le-ltb (digit_of c) 8 (high (is_decimal c) (leb 97 c && leb c 102) refl refl))
  where
    high : (b d : Bool) → is_decimal c ≡ b → (leb 97 c && leb c 102) ≡ d → 8 ≤ digit_of c
    high true d p q = rw (digit-decimal c p) (omega (arith, digit-bounds c p, out_of 48 55 c h (digit-bounds c p).0))
    high false true p q = rw (digit-letter c p q) (omega (arith, range 97 102 c q))
    high false false p q = rw (digit-other c p q) (omega arith)

-- the test of a character
octal-test : (c : ℕ) (p : Bool) → p ≡ (leb 48 c && leb c 55) → eqb (octal_digit c) 8 ≡ not p
octal-test c true e = ne_eqb (octal_digit c) 8 (λ k. omega (arith, range 48 55 c (sym e), octal-is c (sym e), k))
octal-test c false e = eq-eqb (octal_digit c) 8 (octal-other c (sym e))

-- its value without a subtraction
octal-value : (c : ℕ) → (leb 48 c && leb c 55) ≡ true → c % 8 ≡ octal_digit c
octal-value c h = omega (arith, range 48 55 c h, octal-is c h)

-- three characters, and the test of each
module _ (a b d : ℕ) (p q r : Bool) (is-p : p ≡ (leb 48 a && leb a 55)) (is-q : q ≡ (leb 48 b && leb b 55)) (is-r : r ≡ (leb 48 d && leb d 55)) where
  tested : (eqb (octal_digit a) 8 || (eqb (octal_digit b) 8 || eqb (octal_digit d) 8)) ≡ not (p && (q && r))
  tested = rw (octal-test a p is-p, octal-test b q is-q, octal-test d r is-r) (go p q r)
    where
      go : (x y z : Bool) → (not x || (not y || not z)) ≡ not (x && (y && z))
      go true true z = refl
      go true false z = refl
      go false y z = refl

  pub octals-other : (p && (q && r)) ≡ false → (eqb (octal_digit a) 8 || (eqb (octal_digit b) 8 || eqb (octal_digit d) 8)) ≡ true
  octals-other h = tested ∙ ap not h

  pub octals-are : (p && (q && r)) ≡ true
      → ((eqb (octal_digit a) 8 || (eqb (octal_digit b) 8 || eqb (octal_digit d) 8)) ≡ false)
      × (64 * (a % 8) + 8 * (b % 8) + d % 8 ≡ 64 * octal_digit a + 8 * octal_digit b + octal_digit d)
  octals-are h =
      let k = both_right p (q && r) h in
      let x = octal-value a (sym is-p ∙ both_left p (q && r) h) in
      let y = octal-value b (sym is-q ∙ both_left q r k) in
      let z = octal-value d (sym is-r ∙ both_right q r k) in
      (tested ∙ ap not h, rw (x, y, z))

one-digit : (width value c : ℕ) (s : List ℕ)
    → fixed_from 8 (suc width) value (c ∷ s) ≡ cond (eqb (octal_digit c) 8) option.none (fixed_from 8 width (8 * value + octal_digit c) s)
unfolding fixed_from
one-digit width value c s = go (ltb (digit_of c) 8) refl
  where
    go : (b : Bool) → ltb (digit_of c) 8 ≡ b
        → cond b (fixed_from 8 width (8 * value + digit_of c) s) option.none
        ≡ cond (eqb (cond b (digit_of c) 8) 8) option.none (fixed_from 8 width (8 * value + cond b (digit_of c) 8) s)
    go true q = rw (ne_eqb (digit_of c) 8 (λ e. omega (arith, ltb-true (digit_of c) 8 q)))
    go false q = refl

no_digit : (s : List ℕ) (x y z : ℕ) → fixed_from 8 0 (8 * (8 * (8 * 0 + x) + y) + z) s ≡ some (64 * x + 8 * y + z)
unfolding fixed_from
no_digit s x y z = let e : 8 * (8 * (8 * 0 + x) + y) + z ≡ 64 * x + 8 * y + z = omega arith in rw e

pub three-digits : (a b d : ℕ) (s : List ℕ)
    → fixed_from 8 3 0 (a ∷ b ∷ d ∷ s)
    ≡ cond (eqb (octal_digit a) 8 || (eqb (octal_digit b) 8 || eqb (octal_digit d) 8)) option.none
    (some (64 * octal_digit a + 8 * octal_digit b + octal_digit d))
three-digits a b d s =
    one-digit 2 0 a (b ∷ d ∷ s)
    ∙ ap (cond (eqb (octal_digit a) 8) option.none) (one-digit 1 (8 * 0 + octal_digit a) b (d ∷ s)
    ∙ ap (cond (eqb (octal_digit b) 8) option.none) (one-digit 0 (8 * (8 * 0 + octal_digit a) + octal_digit b) d s
    ∙ ap (cond (eqb (octal_digit d) 8) option.none) (no_digit s (octal_digit a) (octal_digit b) (octal_digit d))))
    ∙ joined (eqb (octal_digit a) 8) (eqb (octal_digit b) 8) (eqb (octal_digit d) 8) (some (64 * octal_digit a + 8 * octal_digit b + octal_digit d))
  where
    joined : (x y z : Bool) (o : Option ℕ) → cond x option.none (cond y option.none (cond z option.none o)) ≡ cond (x || (y || z)) option.none o
    joined true y z o = refl
    joined false true z o = refl
    joined false false z o = refl

pub fixed-short : (width value : ℕ) (s : List ℕ) → length s < width → fixed_from 8 width value s ≡ option.none
unfolding fixed_from
fixed-short zero value s h = absurd (omega arith)
fixed-short (suc width) value [] h = refl
fixed-short (suc width) value (c ∷ s) h = go (ltb (digit_of c) 8) (fixed-short width (8 * value + digit_of c) s (omega arith))
  where
    go : (b : Bool) {o : Option ℕ} → o ≡ option.none → cond b o option.none ≡ option.none
    go true e = e
    go false e = refl
