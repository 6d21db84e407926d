-- Numbers of a text that was judged: what is known of each of their characters.
use Prim.Native.Nat.{ℕ, zero, suc, ◌+◌, ◌-◌, ◌*◌, ◌^◌, ◌≤◌, ◌<◌}
use mathlib.Core.Path.{◌≡◌, refl, sym, ap, ◌∙◌}
use mathlib.Core.Bool.{Bool, true, false, cond, ◌&&◌, ◌||◌}
use mathlib.Core.List.{List, [], ◌∷◌}
use mathlib.Core.Option.{Option, some}
use mathlib.Core.Option as option
use native.Mathlib.Omega.{arith}
use native.Mathlib.Nat.{add-zero}
use lib.Dec.{eqb, ltb, leb}
use lib.ListN.{length, get_or, drop, drop_of_length-le}
use borrow.Author.Tests.{le-leb, leb-true, leb-false, ltb-true, ltb-false, eqb-true, eqb-false}
use Rattle.digits.specs.Read.{Read, got, wrong, and_read}
use Rattle.digits.specs.Decimal.{is_decimal, more_decimal, decimal_at}
use Rattle.digits.specs.Fixed.{digit_of, fixed_from, fixed_at}
use Rattle.digits.proofs.Fixing.{fixed-sound}
use Rattle.text.specs.Read.{sign_size, minus_bits, int_at, int_value, minus_scale, plus_scale, scale_at, small_scale}
use Rattle.text.specs.Read.{Halves, halves, high_of, halves_of, float_from, float_at, float_value, number_at}
use Rattle.text_value.specs.Answers.{AtMost}
use Rattle.text_value.proofs.Decimals.{first_char, inside-some, digit-in, more-over, more_turn, decimal-past, decimal-more, decimal-none}
use Rattle.text_value.proofs.ByteDigits.{figure, three_figures, first-none, too_large, three-digits}
use Rattle.text_value.proofs.Fixeds.{fixed-stop, fixed-turn}
use Rattle.text_value.proofs.Bounds.{decimal-bounds, scale-bounds}
use Rattle.text_value.proofs.Floats.{int-minus, int-plain, scale-plus, scale-minus, scale-none}
use Rattle.text_value.proofs.Floats.{float-unframed, float-parts, float-no-low, float-no-fraction, number-float, number-int}
use Rattle.text_decode.specs.declared.known.Known.{Known}
use Rattle.text_decode.specs.Pieces.{is_got, is_some, size_read, read_or, KnownAs, known_decimal, known_high}

-- SOMETHING WAS READ: what, and how many characters it has
pub record Got {A : Type 0} (r : Read A) : Type 0 where
  pub is : A
  pub count : ℕ
  pub same : r ≡ got is count

pub got_of : {A : Type 0} (r : Read A) → is_got r ≡ true → Got r
got_of (got a n) h = record { is = a; count = n; same = refl }
got_of wrong h = absurd (let z : ◌≡◌ {A = ℕ} 0 1 = cc in omega arith)

pub of-got : {A : Type 0} {r : Read A} {a : A} {n : ℕ} → r ≡ got a n → is_got r ≡ true
of-got e = rw e

pub no_read : {A : Type 0} {r : Read A} → is_got r ≡ true → r ≡ wrong → ⊥
no_read h e = let f = rw e at h in let z : ◌≡◌ {A = ℕ} 0 1 = cc in omega arith

-- what comes behind was read too
pub got-first : {A B : Type 0} (r : Read A) (go : A → ℕ → Read B) → is_got (and_read r go) ≡ true → is_got r ≡ true
got-first (got a n) go h = refl
got-first wrong go h = h

-- a number that was read is no larger than its limit
most-got : (most : ℕ) {r : Read ℕ} {n k : ℕ} → r ≡ got n k → AtMost most r → n ≤ most
most-got most e w = rw e at w

-- a number that may not be there is
pub none-not : {o : Option ℕ} → is_some o ≡ true → o ≡ option.none → ⊥
none-not h e = let f = rw e at h in let z : ◌≡◌ {A = ℕ} 0 1 = cc in omega arith

pub of_some : {o : Option ℕ} {n : ℕ} → o ≡ some n → is_some o ≡ true
of_some e = rw e

pub same_some : {m n : ℕ} → some m ≡ some n → m ≡ n
same_some e = cc

-- what the code answers of what was read
pub known_as : (p : Read ℕ) (n k at : ℕ) (r : Known) → p ≡ got n k → r.bits ≡ n → r.end ≡ at + k → KnownAs p at r
known_as p n k at r e b d = record { bits = b ∙ sym (ap (read_or 0) e); end = d ∙ sym (ap (λ (q : Read ℕ). at + size_read q) e) }

pub known_is : {p : Read ℕ} {at : ℕ} {r : Known} → KnownAs p at r → (n k : ℕ) → p ≡ got n k → (r.bits ≡ n) × (r.end ≡ at + k)
known_is {p} {at} x n k e = (x.bits ∙ ap (read_or 0) e, x.end ∙ ap (λ (q : Read ℕ). at + size_read q) e)

pub known_same : {p q : Read ℕ} {at : ℕ} {r : Known} → p ≡ q → KnownAs q at r → KnownAs p at r
known_same e x = rw e x

-- not at the end or past it
pub lt_of : (m n : ℕ) → (n ≤ m → ⊥) → m < n
lt_of m n h = go (ltb m n) refl
  where
    go : (b : Bool) → ltb m n ≡ b → m < n
    go true e = ltb-true m n e
    go false e = absurd (h (ltb-false m n e))

-- NUMBERS IN DECIMAL
-- a higher limit changes nothing where a number was read
more-wider : (low high value count : ℕ) (s : List ℕ) (n k : ℕ) → low ≤ high → more_decimal low value count s ≡ got n k → more_decimal high value count s ≡ got n k
unfolding more_decimal
more-wider low high value count [] n k l h = h
more-wider low high value count (c ∷ s) n k l h =
    go (is_decimal c) (leb (10 * value + (c - 48)) low) refl (λ q. more-wider low high (10 * value + (c - 48)) (suc count) s n k l q) h
  where
    go : (b d : Bool) → leb (10 * value + (c - 48)) low ≡ d
        → (more_decimal low (10 * value + (c - 48)) (suc count) s ≡ got n k → more_decimal high (10 * value + (c - 48)) (suc count) s ≡ got n k)
        → cond b (cond d (more_decimal low (10 * value + (c - 48)) (suc count) s) wrong) (got value count) ≡ got n k
        → cond b (cond (leb (10 * value + (c - 48)) high) (more_decimal high (10 * value + (c - 48)) (suc count) s) wrong) (got value count) ≡ got n k
    go true true q behind h = rw (le-leb (10 * value + (c - 48)) high (omega (arith, leb-true (10 * value + (c - 48)) low q))) (behind h)
    go true false q behind h = absurd (let z : ◌≡◌ {A = ℕ} 0 1 = cc in omega arith)
    go false d q behind h = h

-- LAW: a number in decimal that was read under a limit of 32 bits is read under the highest
pub decimal-known : (limit : ℕ) (s : List ℕ) (n k : ℕ) → limit ≤ 2 ^ 32 - 1 → decimal_at limit s ≡ got n k → known_decimal s ≡ got n k
unfolding decimal_at
decimal-known limit [] n k l h = h
decimal-known limit (c ∷ s) n k l h = go (eqb c 48) (is_decimal c) h
  where
    go : (b d : Bool) → cond b (got 0 1) (cond d (more_decimal limit (c - 48) 1 s) wrong) ≡ got n k
        → cond b (got 0 1) (cond d (more_decimal (2 ^ 32 - 1) (c - 48) 1 s) wrong) ≡ got n k
    go true d h = h
    go false true h = more-wider limit (2 ^ 32 - 1) (c - 48) 1 s n k l h
    go false false h = h

pub decimal-inside : (limit : ℕ) (s : List ℕ) (at : ℕ) → is_got (decimal_at limit (drop at s)) ≡ true → at < length s
decimal-inside limit s at h = lt_of at (length s) (λ l. no_read h (sym (decimal-past limit s at l)))

-- all digits, where none was taken yet
pub decimal-start : (limit : ℕ) (s : List ℕ) (at : ℕ) → 9 ≤ limit → (get_or s at 0 ≡ 48 → ⊥) → is_got (decimal_at limit (drop at s)) ≡ true
    → decimal_at limit (drop at s) ≡ more_decimal limit 0 0 (drop at s)
decimal-start limit s at l n h = go (is_decimal (get_or s at 0)) refl
  where
    inside : at < length s
    inside = decimal-inside limit s at h

    go : (b : Bool) → is_decimal (get_or s at 0) ≡ b → decimal_at limit (drop at s) ≡ more_decimal limit 0 0 (drop at s)
    go true d =
        let e : 10 * 0 + (get_or s at 0 - 48) ≡ get_or s at 0 - 48 = omega arith in
        let f : 10 * 0 + (get_or s at 0 - 48) ≤ limit = omega (arith, digit-in s at d) in
        sym (more_turn (more_decimal limit 0 0 (drop at s)) limit 0 0 s at refl inside d f ∙ rw e (decimal-more limit s at inside n d))
    go false d = absurd (no_read h (sym (decimal-none limit s at inside n d)))

-- ONE TURN: before it, L is what the digits from offset i on make behind `value`
module _ (L : Read ℕ) (limit value count : ℕ) (s : List ℕ) (i : ℕ) (inv : L ≡ more_decimal limit value count (drop i s)) where
  pub digit-turn : is_got L ≡ true → is_decimal (get_or s i 0) ≡ true
      → (i < length s) × (48 ≤ get_or s i 0) × (get_or s i 0 ≤ 57) × (10 * value + (get_or s i 0 - 48) ≤ limit)
      × (L ≡ more_decimal limit (10 * value + (get_or s i 0 - 48)) (suc count) (drop (i + 1) s))
  digit-turn h d =
      let r = digit-in s i d in
      let fits = go (leb (10 * value + (get_or s i 0 - 48)) limit) refl in
      (r.0, r.1, r.2, fits, more_turn L limit value count s i inv r.0 d fits)
    where
      go : (b : Bool) → leb (10 * value + (get_or s i 0 - 48)) limit ≡ b → 10 * value + (get_or s i 0 - 48) ≤ limit
      go true e = leb-true (10 * value + (get_or s i 0 - 48)) limit e
      go false e =
          absurd (no_read h (sym (more-over L limit value count s i inv (digit-in s i d).0 d (leb-false (10 * value + (get_or s i 0 - 48)) limit e))))

-- A BYTE IN DECIMAL: its first character is a digit, and behind three digits stands no other
module _ (s : List ℕ) (at : ℕ) (there : is_got (decimal_at 255 (drop at s)) ≡ true) where
  pub byte-first : is_decimal (get_or s at 0) ≡ true
  byte-first = go (is_decimal (get_or s at 0)) refl
    where
      go : (b : Bool) → is_decimal (get_or s at 0) ≡ b → is_decimal (get_or s at 0) ≡ true
      go true e = e
      go false e = absurd (no_read there (sym (first-none s at e)))

  pub byte-three : 0 < figure s at → is_decimal (get_or s (at + 1) 0) ≡ true → is_decimal (get_or s (at + 2) 0) ≡ true
      → decimal_at 255 (drop at s) ≡ got (three_figures s at) 3
  byte-three more two three = go (ltb 255 (three_figures s at) || is_decimal (get_or s (at + 3) 0)) refl
    where
      go : (b : Bool) → (ltb 255 (three_figures s at) || is_decimal (get_or s (at + 3) 0)) ≡ b → decimal_at 255 (drop at s) ≡ got (three_figures s at) 3
      go true e = absurd (no_read there (sym (too_large s at byte-first more two three _ refl e)))
      go false e = sym (three-digits s at byte-first more two three _ refl e)

-- INTS
-- the digits behind the sign that say an int
pub record IntKnown (s : List ℕ) (at sign : ℕ) : Type 0 where
  pub n : ℕ
  pub k : ℕ
  pub digits : known_decimal (drop (at + sign) s) ≡ got n k
  pub inside : at + sign < length s
  pub plain : sign ≡ 0 → int_at (drop at s) ≡ got n k
  pub minus : (sign ≡ 0 → ⊥) → (1 ≤ n) × (sign ≡ 1) × (int_at (drop at s) ≡ got (2 ^ 32 - n) (suc k))

minus-got : (n k : ℕ) → is_got (minus_bits n k) ≡ true → (1 ≤ n) × (minus_bits n k ≡ got (2 ^ 32 - n) (suc k))
minus-got zero k h = absurd (let z : ◌≡◌ {A = ℕ} 0 1 = cc in omega arith)
minus-got (suc n) k h = (omega arith, refl)

pub int-known : (s : List ℕ) (at sign : ℕ) → sign ≡ sign_size (drop at s) → is_got (int_at (drop at s)) ≡ true → IntKnown s at sign
unfolding sign_size
int-known s at sign is-sign h = go (eqb (get_or s at 0) 45) refl
  where
    sign-is : (b : Bool) → eqb (get_or s at 0) 45 ≡ b → sign ≡ cond b 1 0
    sign-is b e = is-sign ∙ rw (first_char s at, e)

    go : (b : Bool) → eqb (get_or s at 0) 45 ≡ b → IntKnown s at sign
    go true e =
        let one : sign ≡ 1 = sign-is true e in
        let whole = sym (int-minus s at (eqb-true (get_or s at 0) 45 e)) in
        let g = got_of (decimal_at 2147483648 (drop (at + 1) s)) (got-first (decimal_at 2147483648 (drop (at + 1) s)) minus_bits (rw whole at h)) in
        let all : int_at (drop at s) ≡ minus_bits g.is g.count = whole ∙ ap (λ (r : Read ℕ). and_read r minus_bits) g.same in
        let m = minus-got g.is g.count (rw all at h) in
        record {
          n = g.is;
          k = g.count;
          digits = rw one (decimal-known 2147483648 (drop (at + 1) s) g.is g.count (omega arith) g.same);
          inside = rw one (decimal-inside 2147483648 s (at + 1) (of-got g.same));
          plain = λ z. absurd (omega arith);
          minus = λ z. (m.0, one, all ∙ m.1);
        }
    go false e =
        let none : sign ≡ 0 = sign-is false e in
        let whole = sym (int-plain s at (eqb-false (get_or s at 0) 45 e)) in
        let g = got_of (int_at (drop at s)) h in
        let same : decimal_at 2147483647 (drop at s) ≡ got g.is g.count = sym whole ∙ g.same in
        record {
          n = g.is;
          k = g.count;
          digits = rw (none, add-zero at) (decimal-known 2147483647 (drop at s) g.is g.count (omega arith) same);
          inside = rw (none, add-zero at) (decimal-inside 2147483647 s at (of-got same));
          plain = λ z. g.same;
          minus = λ z. absurd (z none);
        }

-- SCALES
-- the digits behind the sign that say a scale
pub record ScaleKnown (s : List ℕ) (at : ℕ) : Type 0 where
  pub n : ℕ
  pub k : ℕ
  pub inside : at < length s
  pub digits : known_decimal (drop (at + 1) s) ≡ got n k
  pub plus : get_or s at 0 ≡ 43 → (n ≤ 1023) × (scale_at (drop at s) ≡ got (1023 + n) (suc k))
  pub minus : (get_or s at 0 ≡ 43 → ⊥) → (n ≤ 1022) × (scale_at (drop at s) ≡ got (1023 - n) (suc k))

scale-got : (n k : ℕ) → is_got (minus_scale n k) ≡ true → minus_scale n k ≡ got (1023 - n) (suc k)
scale-got zero k h = absurd (let z : ◌≡◌ {A = ℕ} 0 1 = cc in omega arith)
scale-got (suc n) k h = refl

pub scale-known : (s : List ℕ) (at : ℕ) → is_got (scale_at (drop at s)) ≡ true → ScaleKnown s at
scale-known s at h = go (eqb (get_or s at 0) 43) (eqb (get_or s at 0) 45) refl refl
  where
    go : (b d : Bool) → eqb (get_or s at 0) 43 ≡ b → eqb (get_or s at 0) 45 ≡ d → ScaleKnown s at
    go true d e f =
        let c = eqb-true (get_or s at 0) 43 e in
        let whole = sym (scale-plus s at c) in
        let r = decimal_at 1023 (drop (at + 1) s) in
        let g = got_of r (got-first r plus_scale (rw whole at h)) in
        record {
          n = g.is;
          k = g.count;
          inside = inside-some s at (omega arith);
          digits = decimal-known 1023 (drop (at + 1) s) g.is g.count (omega arith) g.same;
          plus = λ z. (most-got 1023 g.same (decimal-bounds 1023 (drop (at + 1) s)).1, whole ∙ ap (λ (r : Read ℕ). and_read r plus_scale) g.same);
          minus = λ z. absurd (z c);
        }
    go false true e f =
        let c = eqb-true (get_or s at 0) 45 f in
        let whole = sym (scale-minus s at (eqb-false (get_or s at 0) 43 e) c) in
        let r = decimal_at 1022 (drop (at + 1) s) in
        let g = got_of r (got-first r minus_scale (rw whole at h)) in
        let all : scale_at (drop at s) ≡ minus_scale g.is g.count = whole ∙ ap (λ (r : Read ℕ). and_read r minus_scale) g.same in
        record {
          n = g.is;
          k = g.count;
          inside = inside-some s at (omega arith);
          digits = decimal-known 1022 (drop (at + 1) s) g.is g.count (omega arith) g.same;
          plus = λ z. absurd (eqb-false (get_or s at 0) 43 e z);
          minus = λ z. (most-got 1022 g.same (decimal-bounds 1022 (drop (at + 1) s)).1, all ∙ scale-got g.is g.count (rw all at h));
        }
    go false false e f = absurd (no_read h (sym (scale-none s at (eqb-false (get_or s at 0) 43 e) (eqb-false (get_or s at 0) 45 f))))

-- HEXADECIMAL DIGITS
-- one turn: before it, L is what `left` digits from offset i on make behind `value`
pub hex-turn : (L : Option ℕ) (left value : ℕ) (s : List ℕ) (i : ℕ) → L ≡ fixed_from 16 left value (drop i s) → is_some L ≡ true → 0 < left
    → (i < length s) × (digit_of (get_or s i 0) < 16) × (L ≡ fixed_from 16 (left - 1) (16 * value + digit_of (get_or s i 0)) (drop (i + 1) s))
unfolding fixed_from
hex-turn L left value s i inv h more =
    let e : left ≡ suc (left - 1) = omega arith in
    let none : length s ≤ i → L ≡ option.none = λ l. inv ∙ rw (drop_of_length-le s l) (ap (λ (k : ℕ). fixed_from 16 k value []) e) in
    let inside : i < length s = lt_of i (length s) (λ l. none-not h (none l)) in
    let digit : digit_of (get_or s i 0) < 16 = lt_of (digit_of (get_or s i 0)) 16 (λ l. none-not h (sym (fixed-stop L left value s i inv more inside l))) in
    (inside, digit, fixed-turn L left value s i inv more inside digit)

-- FLOATS
pub cond-most : (b : Bool) (n most : ℕ) → n ≤ most → cond b n 0 ≤ most
cond-most true n most h = h
cond-most false n most h = omega arith

-- the parts of a float behind its sign
pub record FloatKnown (sign : ℕ) (s : List ℕ) (at : ℕ) : Type 0 where
  pub fraction : ℕ
  pub low : ℕ
  pub scale : ℕ
  pub k : ℕ
  pub room : at + 18 < length s
  pub fraction-is : fixed_at 16 5 (drop (at + 4) s) ≡ some fraction
  pub low-is : fixed_at 16 8 (drop (at + 9) s) ≡ some low
  pub scale-is : scale_at (drop (at + 18) s) ≡ got scale k
  pub small : fraction < 2 ^ 20
  pub most : scale ≤ 2046
  pub whole : float_at sign (drop at s) ≡ got (halves low (sign * 2 ^ 31 + (cond (eqb (get_or s (at + 2) 0) 49) scale 0 * 2 ^ 20 + fraction))) (sign + 18 + k)

exponent-got : (sign lead fraction low scale k : ℕ) → is_got (float_from sign lead fraction low scale k) ≡ true
    → float_from sign lead fraction low scale k ≡ got (halves low (sign * 2 ^ 31 + (cond (eqb lead 49) scale 0 * 2 ^ 20 + fraction))) (sign + 18 + k)
exponent-got sign lead fraction low scale k = go (eqb lead 49) (eqb lead 48 && eqb scale (small_scale fraction low))
  where
    parts : Bool → Bool → Read Halves
    parts a b = halves_of low (sign + 18 + k) (high_of sign fraction (cond a (some scale) (cond b (some 0) option.none)))

    go : (a b : Bool) → is_got (parts a b) ≡ true → parts a b ≡ got (halves low (sign * 2 ^ 31 + (cond a scale 0 * 2 ^ 20 + fraction))) (sign + 18 + k)
    go true b h = refl
    go false true h = refl
    go false false h = absurd (let z : ◌≡◌ {A = ℕ} 0 1 = cc in omega arith)

pub float_known : (sign : ℕ) (s : List ℕ) (at : ℕ) → is_got (float_at sign (drop at s)) ≡ true → FloatKnown sign s at
float_known sign s at h = framed (eqb (get_or s at 0) 48 && (eqb (get_or s (at + 3) 0) 46 && eqb (get_or s (at + 17) 0) 112)) refl
  where
    lead : ℕ
    lead = get_or s (at + 2) 0

    framed : (b : Bool) → (eqb (get_or s at 0) 48 && (eqb (get_or s (at + 3) 0) 46 && eqb (get_or s (at + 17) 0) 112)) ≡ b → FloatKnown sign s at
    framed false e = absurd (no_read h (sym (float-unframed sign s at e)))
    framed true e = high (fixed_at 16 5 (drop (at + 4) s)) refl
      where
        scaled : (fraction low : ℕ) (r : Read ℕ) → fixed_at 16 5 (drop (at + 4) s) ≡ some fraction → fixed_at 16 8 (drop (at + 9) s) ≡ some low
            → r ≡ scale_at (drop (at + 18) s) → FloatKnown sign s at
        scaled fraction low wrong f l q = absurd (no_read h (sym (float-parts sign s at e fraction low wrong q f l)))
        scaled fraction low (got scale k) f l q =
            let all = float-parts sign s at e fraction low (got scale k) q f l in
            record {
              fraction = fraction;
              low = low;
              scale = scale;
              k = k;
              room = (scale-known s (at + 18) (of-got (sym q))).inside;
              fraction-is = f;
              low-is = l;
              scale-is = sym q;
              small = (fixed-sound 16 (omega arith) (omega arith) 5 (drop (at + 4) s) fraction f).1;
              most = most-got 2046 (sym q) (scale-bounds (drop (at + 18) s)).1;
              whole = sym all ∙ exponent-got sign lead fraction low scale k (rw (sym all) at h);
            }

        lows : (fraction : ℕ) (o : Option ℕ) → fixed_at 16 5 (drop (at + 4) s) ≡ some fraction → fixed_at 16 8 (drop (at + 9) s) ≡ o → FloatKnown sign s at
        lows fraction (some low) f l = scaled fraction low (scale_at (drop (at + 18) s)) f l refl
        lows fraction option.none f l = absurd (no_read h (sym (float-no-low sign s at e fraction f l)))

        high : (o : Option ℕ) → fixed_at 16 5 (drop (at + 4) s) ≡ o → FloatKnown sign s at
        high (some fraction) f = lows fraction (fixed_at 16 8 (drop (at + 9) s)) f refl
        high option.none f = absurd (no_read h (sym (float-no-fraction sign s at e f)))

-- a float's high half and its characters behind the sign
pub high-known : (sign : ℕ) (s : List ℕ) (at : ℕ) (x : FloatKnown sign s at)
    → known_high sign (drop at s) ≡ got (sign * 2 ^ 31 + (cond (eqb (get_or s (at + 2) 0) 49) x.scale 0 * 2 ^ 20 + x.fraction)) (18 + x.k)
high-known sign s at x =
    let e : sign + 18 + x.k - sign ≡ 18 + x.k = omega arith in
    ap (λ (r : Read Halves). and_read r (λ h count. got h.high (count - sign))) x.whole ∙ rw e

-- INTS AND FLOATS
pub sign-most : (s : List ℕ) → sign_size s ≤ 1
unfolding sign_size
sign-most s = go (eqb (get_or s 0 0) 45)
  where
    go : (b : Bool) → cond b 1 0 ≤ 1
    go true = omega arith
    go false = omega arith

-- LAW: a number that was read is an int or a float, by the character behind its sign and a digit
module _ (s : List ℕ) (at sign : ℕ) (is-sign : sign ≡ sign_size (drop at s)) (there : is_got (number_at (drop at s)) ≡ true) where
  pub number-is-float : eqb (get_or s (at + sign + 1) 0) 120 ≡ true
      → (number_at (drop at s) ≡ and_read (float_at sign (drop (at + sign) s)) float_value) × (is_got (float_at sign (drop (at + sign) s)) ≡ true)
  number-is-float h =
      let e = sym (number-float s at sign is-sign h) in
      (e, got-first (float_at sign (drop (at + sign) s)) float_value (rw e at there))

  pub number-is-int : eqb (get_or s (at + sign + 1) 0) 120 ≡ false
      → (number_at (drop at s) ≡ and_read (int_at (drop at s)) int_value) × (is_got (int_at (drop at s)) ≡ true)
  number-is-int h =
      let e = sym (number-int s at sign is-sign h) in
      (e, got-first (int_at (drop at s)) int_value (rw e at there))

  pub number-inside : at + sign < length s
  number-inside = go (eqb (get_or s (at + sign + 1) 0) 120) refl
    where
      go : (b : Bool) → eqb (get_or s (at + sign + 1) 0) 120 ≡ b → at + sign < length s
      go true e = omega (arith, (float_known sign s (at + sign) (number-is-float e).1).room)
      go false e = (int-known s at sign is-sign (number-is-int e).1).inside
