-- The room of a part: no 00 among the bytes held, zeros behind them, by one test of each byte.
use Rattle.std.proofs.Common.{◌≡◌, ℕ, zero, suc, ◌+◌, ◌-◌, ◌%◌, ◌<◌, ◌≤◌, Bool, true, false, cond, eqb, leb, List, [], ◌∷◌, ◌++◌, length, get_or, take, drop, sym, refl, ap, ◌∙◌, add-one, arith, length-drop, take-append-drop, length-take-le, get_or-drop, get_or-take, take-suc, eq-eqb, ne_eqb, eqb-true, le-leb, leb-false, leb-true}
use mathlib.Core.Bool.{beq}
use borrow.Author.Tests.{lt-leb}
use Rattle.wire.specs.Zero.{has_zero, zero_at, all_zero}
use Rattle.wire.specs.Every.{every}
use Rattle.wire.proofs.Chains.{every-at}
use Rattle.packet.proofs.Zeros.{zero-at, clash}
use Rattle.packet_line.specs.Steps.{is_mark, one_if, filled_of}

-- no 00, byte by byte; and zeros alone
none-zero : (xs : List ℕ) → ((i : ℕ) → i < length xs → get_or xs i 0 ≡ 0 → ⊥) → has_zero xs ≡ false
unfolding has_zero
none-zero [] f = refl
none-zero (zero ∷ xs) f = absurd (f 0 (omega arith) refl)
none-zero (suc b ∷ xs) f = none-zero xs (λ i h. f (suc i) (omega arith))

all-zero : (xs : List ℕ) → ((i : ℕ) → i < length xs → get_or xs i 0 ≡ 0) → all_zero xs ≡ true
unfolding all_zero
all-zero [] f = refl
all-zero (zero ∷ xs) f = all-zero xs (λ i h. f (suc i) (omega arith))
all-zero (suc b ∷ xs) f = absurd (let e = f 0 (omega arith) in omega arith)

pub zero-each : (xs : List ℕ) (i : ℕ) → all_zero xs ≡ true → get_or xs i 0 ≡ 0
unfolding all_zero
zero-each [] i h = refl
zero-each (zero ∷ xs) zero h = refl
zero-each (zero ∷ xs) (suc i) h = zero-each xs i h
zero-each (suc b ∷ xs) i h = clash (sym h)

module _ (s : List ℕ) (held : ℕ) (fits : suc held ≤ length s) where
  abbrev k : ℕ
  k = suc held

  marked : every (length s) (is_mark s held) ≡ true → (i : ℕ) → i < length s → is_mark s held i ≡ true
  marked e i h = every-at (length s) (is_mark s held) e i h

  -- what the test of each byte says
  pub marks-held : every (length s) (is_mark s held) ≡ true → has_zero (take k s) ≡ false
  marks-held e =
      let n = length-take-le k s fits in
      none-zero (take k s) (λ i h z.
      let l : i < k = omega arith in
      let zero-here : eqb (get_or s i 0) 0 ≡ true = eq-eqb _ _ (sym (get_or-take k s i 0 l) ∙ z) in
      clash (rw (zero-here, lt-leb k i l) at (sym (marked e i (omega arith)))))

  pub marks-free : every (length s) (is_mark s held) ≡ true → all_zero (drop k s) ≡ true
  marks-free e =
      all-zero (drop k s) (λ i h.
      let l : k + i < length s = omega (arith, length-drop k s) in
      get_or-drop k s i 0 ∙ eqb-true _ _ (only (eqb (get_or s (k + i) 0) 0) (rw (le-leb k (k + i) (omega arith)) at (marked e (k + i) l))))
    where
      only : (b : Bool) → beq b true ≡ true → b ≡ true
      only true q = refl
      only false q = clash (sym q)

  pub marks-all : has_zero (take k s) ≡ false → all_zero (drop k s) ≡ true → (n : ℕ) → n ≤ length s → every n (is_mark s held) ≡ true
  unfolding every
  marks-all z f zero h = refl
  marks-all z f (suc n) h = rw (marks-all z f n (omega arith)) (by (leb k n) refl)
    where
      by : (b : Bool) → leb k n ≡ b → is_mark s held n ≡ true
      by true t =
          let l : k ≤ n = leb-true k n t in
          let e : k + (n - k) ≡ n = omega arith in
          let v : get_or s n 0 ≡ 0 = ap (λ (i : ℕ). get_or s i 0) (sym e) ∙ sym (get_or-drop k s (n - k) 0) ∙ zero-each (drop k s) (n - k) f in
          rw (t, eq-eqb _ _ v)
      by false t =
          let l : n < k = leb-false k n t in
          let one = zero-at (take k s) n z (omega (arith, length-take-le k s fits)) in
          let v : get_or s n 0 ≡ 0 → ⊥ = λ q. omega (arith, get_or-take k s n 0 l) in
          rw (t, ne_eqb _ _ v)

-- the first 00 stands no later than another
pub zero-upto : (s : List ℕ) (i : ℕ) → i < length s → get_or s i 0 ≡ 0 → zero_at s ≤ i
unfolding zero_at
zero-upto [] i h z = absurd (omega arith)
zero-upto (zero ∷ s) i h z = omega arith
zero-upto (suc b ∷ s) zero h z = absurd (omega arith)
zero-upto (suc b ∷ s) (suc i) h z = omega (arith, zero-upto s i (omega arith) z)

-- the bytes that are not 00
one-suc : (b : ℕ) → one_if (suc b) ≡ 1
one-suc b = rw (ne_eqb (suc b) 0 (λ e. omega arith))

filled-append : (xs ys : List ℕ) → filled_of (xs ++ ys) ≡ filled_of xs + filled_of ys
unfolding filled_of
filled-append [] ys = let e : 0 + filled_of ys ≡ filled_of ys = omega arith in sym e
filled-append (x ∷ xs) ys =
    let e : one_if x + (filled_of xs + filled_of ys) ≡ one_if x + filled_of xs + filled_of ys = omega arith in
    ap (λ (n : ℕ). one_if x + n) (filled-append xs ys) ∙ e

pub filled_more : (s : List ℕ) (i : ℕ) → i < length s → filled_of (take (i + 1) s) ≡ filled_of (take i s) + one_if (get_or s i 0)
unfolding filled_of
filled_more s i h =
    let e : one_if (get_or s i 0) + 0 ≡ one_if (get_or s i 0) = omega arith in
    rw (add-one i, take-suc s i 0 h, filled-append (take i s) (get_or s i 0 ∷ []), e)

pub counted-more : (f b : ℕ) → cond (eqb b 0) (f % 256) ((f % 256 + 1) % 256) ≡ (f + one_if b) % 256
counted-more f b = by (eqb b 0) refl
  where
    by : (t : Bool) → eqb b 0 ≡ t → cond (eqb b 0) (f % 256) ((f % 256 + 1) % 256) ≡ (f + one_if b) % 256
    by true t = let e : f % 256 ≡ (f + 0) % 256 = omega arith in rw t e
    by false t = let e : (f % 256 + 1) % 256 ≡ (f + 1) % 256 = omega arith in rw t e

filled-most : (xs : List ℕ) → filled_of xs ≤ length xs
unfolding filled_of
filled-most [] = omega arith
filled-most (zero ∷ xs) = omega (arith, filled-most xs)
filled-most (suc b ∷ xs) = omega (arith, one-suc b, filled-most xs)

filled-all : (xs : List ℕ) → has_zero xs ≡ false → filled_of xs ≡ length xs
unfolding filled_of has_zero
filled-all [] h = refl
filled-all (zero ∷ xs) h = clash h
filled-all (suc b ∷ xs) h = omega (arith, one-suc b, filled-all xs h)

filled-free : (xs : List ℕ) → filled_of xs ≡ 0 → all_zero xs ≡ true
unfolding filled_of all_zero
filled-free [] h = refl
filled-free (zero ∷ xs) h = filled-free xs (omega arith)
filled-free (suc b ∷ xs) h = absurd (omega (arith, one-suc b))

free-filled : (xs : List ℕ) → all_zero xs ≡ true → filled_of xs ≡ 0
unfolding filled_of all_zero
free-filled [] h = refl
free-filled (zero ∷ xs) h = omega (arith, free-filled xs h)
free-filled (suc b ∷ xs) h = clash (sym h)

-- those held and no other
module _ (s : List ℕ) (held : ℕ) (fits : suc held ≤ length s) (none : has_zero (take (suc held) s) ≡ false) where
  filled-sum : filled_of s ≡ suc held + filled_of (drop (suc held) s)
  filled-sum =
      let n : filled_of (take (suc held) s) ≡ suc held = filled-all (take (suc held) s) none ∙ length-take-le (suc held) s fits in
      ap filled_of (sym (take-append-drop (suc held) s)) ∙ filled-append (take (suc held) s) (drop (suc held) s) ∙ ap (λ (k : ℕ). k + filled_of (drop (suc held) s)) n

  pub count-free : length s ≤ 256 → filled_of s % 256 ≡ held + 1 → all_zero (drop (suc held) s) ≡ true
  count-free top e = filled-free (drop (suc held) s) (omega (arith, filled-sum, filled-most (drop (suc held) s), length-drop (suc held) s))

  pub free-count : held + 1 < 256 → all_zero (drop (suc held) s) ≡ true → filled_of s % 256 ≡ held + 1
  free-count top f = omega (arith, filled-sum, free-filled (drop (suc held) s) f)
