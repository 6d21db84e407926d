-- The fewest decimal digits of a number are its decimal form, and eight hexadecimal digits hold a number of 32 bits.
use Prim.Native.Nat.{ℕ, zero, suc, ◌+◌, ◌-◌, ◌/◌, ◌%◌, ◌^◌, ◌≤◌, ◌<◌}
use mathlib.Core.Bool.{Bool, true, false, cond}
use mathlib.Core.Path.{◌≡◌, refl, sym, ap, ◌∙◌}
use mathlib.Core.List.{List, [], ◌∷◌, ◌++◌}
use mathlib.Core.Logic.{inl, inr, ⊎_elim}
use native.Mathlib.Omega.{arith}
use native.Mathlib.Nat.{pow-le-pow_right, eq-or-lt_of_le}
use lib.Dec.{leb, ltb}
use lib.ListN.{length, length-append}
use borrow.Author.Tests.{leb-true, leb-false, lt-ltb}
use Rattle.io.specs.Digits.{hex_digit_ascii, last_digits, IsDigitCount}
use Rattle.digits.specs.Decimal.{decimal_of, decimal, digit_room}
use Rattle.digits.specs.Fixed.{fixed}
use Rattle.digits.proofs.Decimals.{decimal-fixed}
use Rattle.output.specs.Digits.{hex_word}

-- the digits that io writes are those of a number of a fixed number of digits
fixed-is : (k n : ℕ) → fixed 10 k n ≡ last_digits 10 k n
fixed-is zero n = refl
fixed-is (suc k) n = ap (λ (x : List ℕ). x ++ (hex_digit_ascii (n % 10) ∷ [])) (fixed-is k (n / 10))

-- no power of the base that is too large for a number is among its digits
fewest-most : (base least most k n : ℕ) → 1 ≤ base → least ≤ most → n < base ^ most → IsDigitCount base least n k → k ≤ most
fewest-most base least most k n b l h f = go (leb k most) refl
  where
    go : (e : Bool) → leb k most ≡ e → k ≤ most
    go true e = leb-true k most e
    go false e =
        let long : most < k = leb-false k most e in
        let far : most ≤ k - 1 = omega arith in
        let power : base ^ most ≤ base ^ (k - 1) = pow-le-pow_right b far in
        let low : base ^ (k - 1) ≤ n = f.2 (omega arith) in
        absurd (omega arith)

pub decimal-digits : (k n : ℕ) → n < 2 ^ 64 → IsDigitCount 10 1 n k → last_digits 10 k n ≡ decimal n
decimal-digits k n h f =
    let most : k ≤ digit_room = fewest-most 10 1 digit_room k n (omega arith) (omega arith) (omega arith) f in
    sym (decimal-fixed k n most f.0 f.1 (⊎_elim (λ e. inl (sym e)) (λ l. inr (f.2 l)) (eq-or-lt_of_le f.0)) ∙ fixed-is k n)

pub word-digits : (k n : ℕ) → n < 2 ^ 32 → IsDigitCount 16 8 n k → last_digits 16 k n ≡ hex_word n
unfolding hex_word
word-digits k n h f =
    let most : k ≤ 8 = fewest-most 16 8 8 k n (omega arith) (omega arith) (omega arith) f in
    let same : k ≡ 8 = omega (arith, f.0) in
    rw same

-- a number in decimal has at most as many digits as it may
few-digits : (most n : ℕ) → length (decimal_of most n) ≤ most
unfolding decimal_of
few-digits zero n = omega arith
few-digits (suc most) n = go (ltb n 10) (few-digits most (n / 10))
  where
    go : (b : Bool) → length (decimal_of most (n / 10)) ≤ most → length (cond b ((48 + n) ∷ []) (decimal_of most (n / 10) ++ ((48 + n % 10) ∷ []))) ≤ suc most
    go true h = omega arith
    go false h = rw (length-append (decimal_of most (n / 10)) ((48 + n % 10) ∷ [])) (omega arith)

pub decimal-short : (n : ℕ) → length (decimal n) ≤ digit_room
decimal-short n = few-digits digit_room n

-- a number below 10 is its one digit
pub decimal-one : (n : ℕ) → n < 10 → decimal n ≡ (48 + n) ∷ []
unfolding decimal_of
decimal-one n h = rw (lt-ltb n 10 h)
