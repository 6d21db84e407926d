-- Where what was read stands, and how large it is.
use Prim.Native.Nat.{ℕ, zero, suc, ◌+◌, ◌-◌, ◌*◌, ◌≤◌, ◌<◌}
use mathlib.Core.Path.{◌≡◌, refl}
use mathlib.Core.Bool.{Bool, true, false, cond, not, ◌&&◌, ◌||◌}
use mathlib.Core.List.{List, [], ◌∷◌}
use mathlib.Core.Option.{Option, some}
use mathlib.Core.Option as option
use native.Mathlib.Omega.{arith}
use lib.Dec.{eqb, ltb, leb}
use lib.ListN.{length, get_or, drop, length-drop}
use borrow.Author.Tests.{ltb-true, ltb-false, leb-true, eqb-true}
use Rattle.digits.specs.Read.{Read, got, wrong, and_read, and_digits}
use Rattle.digits.specs.Decimal.{is_decimal, more_decimal, decimal_at}
use Rattle.digits.specs.Fixed.{fixed_at}
use Rattle.digits.proofs.Judging.{both_right}
use Rattle.digits.proofs.Decimals.{digit-bounds}
use Rattle.list.specs.Tree.{Value}
use Rattle.text.specs.Text.{is_printed, is_marked}
use Rattle.text.specs.Form.{is_letter}
use Rattle.text.specs.Read.{
  minus_bits,
  int_at,
  minus_scale,
  plus_scale,
  scale_at,
  Halves,
  exponent_from,
  high_of,
  halves_of,
  float_from,
  is_float_frame,
  float_at,
  int_value,
  float_value,
  sign_size,
  number_at,
  letters_at,
  vocab_bits,
  vocab_at,
  octal_byte,
  escape_at,
}
use Rattle.text_value.specs.Answers.{Within, AtMost, reach}
use Rattle.text_value.proofs.Decimals.{clash, inside, inside-some}
use Rattle.text_value.proofs.Fixeds.{fixed-short}

module _ {A : Type 0} where
  -- a wider frame
  pub within_wider : (a b n m : ℕ) (r : Read A) → a ≤ b → n ≤ m → Within b n r → Within a m r
  within_wider a b n m (got x count) h k w = (w.0, omega arith)
  within_wider a b n m wrong h k w = tt

  pub within-moved : (at n m : ℕ) (r : Read A) → at + n ≤ m → Within 0 n r → Within at m r
  within-moved at n m (got x count) h w = (w.0, omega arith)
  within-moved at n m wrong h w = tt

  -- what stands in the characters from `at` on stands in all of them
  pub within-drop : (s : List ℕ) (at : ℕ) (r : Read A) → at ≤ length s → Within 0 (length (drop at s)) r → Within at (length s) r
  within-drop s at r h w = within-moved at (length (drop at s)) (length s) r (omega (arith, length-drop at s)) w

-- going on with what was read
pub within-and : {A B : Type 0} (most extra end : ℕ) (r : Read A) (go : A → ℕ → Read B)
    → ((a : A) (count : ℕ) → 1 ≤ count → Within 0 (extra + count) (go a count)) → extra + most ≤ end → Within 0 most r → Within 0 end (and_read r go)
within-and most extra end (got a count) go h fits w = within_wider 0 0 (extra + count) end (go a count) (omega arith) (omega arith) (h a count w.0)
within-and most extra end wrong go h fits w = tt

-- NUMBERS IN DECIMAL
more-bounds : (limit value count most : ℕ) (s : List ℕ) → 1 ≤ count → value ≤ most → limit ≤ most
    → Within 0 (count + length s) (more_decimal limit value count s) × AtMost most (more_decimal limit value count s)
unfolding more_decimal
more-bounds limit value count most [] h v l = ((h, omega arith), v)
more-bounds limit value count most (c ∷ s) h v l =
    go (λ x q. more-bounds limit x (suc count) most s (omega arith) (omega arith) l) (is_decimal c) (leb (10 * value + (c - 48)) limit) refl
  where
    go : ((x : ℕ) → x ≤ limit → Within 0 (suc count + length s) (more_decimal limit x (suc count) s) × AtMost most (more_decimal limit x (suc count) s))
        → (b d : Bool) → leb (10 * value + (c - 48)) limit ≡ d
        → Within 0 (count + suc (length s)) (cond b (cond d (more_decimal limit (10 * value + (c - 48)) (suc count) s) wrong) (got value count))
        × AtMost most (cond b (cond d (more_decimal limit (10 * value + (c - 48)) (suc count) s) wrong) (got value count))
    go behind true true q =
        let w = behind (10 * value + (c - 48)) (leb-true (10 * value + (c - 48)) limit q) in
        (within_wider 0 0 (suc count + length s) (count + suc (length s)) (more_decimal limit (10 * value + (c - 48)) (suc count) s) (omega arith) (omega arith) w.0, w.1)
    go behind true false q = (tt, tt)
    go behind false d q = ((h, omega arith), v)

reach-most : (limit : ℕ) → (9 ≤ reach limit) × (limit ≤ reach limit)
reach-most limit = go (ltb limit 9) refl
  where
    go : (b : Bool) → ltb limit 9 ≡ b → (9 ≤ cond b 9 limit) × (limit ≤ cond b 9 limit)
    go true q = (omega arith, omega (arith, ltb-true limit 9 q))
    go false q = (ltb-false limit 9 q, omega arith)

pub decimal-bounds : (limit : ℕ) (s : List ℕ) → Within 0 (length s) (decimal_at limit s) × AtMost (reach limit) (decimal_at limit s)
unfolding decimal_at
decimal-bounds limit [] = (tt, tt)
decimal-bounds limit (c ∷ s) = go (eqb c 48) (is_decimal c) refl
  where
    go : (b d : Bool) → is_decimal c ≡ d
        → Within 0 (suc (length s)) (cond b (got 0 1) (cond d (more_decimal limit (c - 48) 1 s) wrong))
        × AtMost (reach limit) (cond b (got 0 1) (cond d (more_decimal limit (c - 48) 1 s) wrong))
    go true d q = ((omega arith, omega arith), omega arith)
    go false true q =
        let e : 1 + length s ≡ suc (length s) = omega arith in
        rw e at (more-bounds limit (c - 48) 1 (reach limit) s (omega arith) (omega (arith, digit-bounds c q, reach-most limit)) (reach-most limit).1)
    go false false q = (tt, tt)

pub decimal-placed :
    (limit : ℕ) (s : List ℕ) (at : ℕ) (r : Read ℕ) → at ≤ length s → r ≡ decimal_at limit (drop at s)
    → (r ≡ decimal_at limit (drop at s)) × Within at (length s) r × AtMost (reach limit) r
decimal-placed limit s at r h e =
    let w = decimal-bounds limit (drop at s) in
    (e, rw e (within-drop s at (decimal_at limit (drop at s)) h w.0), rw e w.1)

-- INTS AND SCALES
minus-within : (n count : ℕ) → 1 ≤ count → Within 0 (1 + count) (minus_bits n count)
minus-within zero count h = tt
minus-within (suc n) count h = (omega arith, omega arith)

pub int-within : (s : List ℕ) → Within 0 (length s) (int_at s)
unfolding int_at decimal_at
int-within [] = tt
int-within (c ∷ s) = go (eqb c 45)
  where
    go : (b : Bool) → Within 0 (suc (length s)) (cond b (and_read (decimal_at 2147483648 s) minus_bits) (decimal_at 2147483647 (c ∷ s)))
    go true = within-and (length s) 1 (suc (length s)) (decimal_at 2147483648 s) minus_bits minus-within (omega arith) (decimal-bounds 2147483648 s).0
    go false = (decimal-bounds 2147483647 (c ∷ s)).0

plus-scale-within : (e count : ℕ) → 1 ≤ count → Within 0 (1 + count) (plus_scale e count)
plus-scale-within e count h = (omega arith, omega arith)

minus-scale-within : (e count : ℕ) → 1 ≤ count → Within 0 (1 + count) (minus_scale e count)
minus-scale-within zero count h = tt
minus-scale-within (suc e) count h = (omega arith, omega arith)

plus-scale-most : (r : Read ℕ) → AtMost 1023 r → AtMost 2046 (and_read r plus_scale)
plus-scale-most (got e count) h = omega arith
plus-scale-most wrong h = tt

minus-scale-most : (r : Read ℕ) → AtMost 2046 (and_read r minus_scale)
minus-scale-most (got zero count) = tt
minus-scale-most (got (suc e) count) = omega arith
minus-scale-most wrong = tt

pub scale-bounds : (s : List ℕ) → Within 0 (length s) (scale_at s) × AtMost 2046 (scale_at s)
unfolding scale_at
scale-bounds [] = (tt, tt)
scale-bounds (c ∷ s) = go (eqb c 43) (eqb c 45)
  where
    frame : Read ℕ → Type 0
    frame r = Within 0 (suc (length s)) r × AtMost 2046 r

    go : (b d : Bool) → frame (cond b (and_read (decimal_at 1023 s) plus_scale) (cond d (and_read (decimal_at 1022 s) minus_scale) wrong))
    go true d =
        let x = decimal-bounds 1023 s in
        (within-and (length s) 1 (suc (length s)) (decimal_at 1023 s) plus_scale plus-scale-within (omega arith) x.0, plus-scale-most (decimal_at 1023 s) x.1)
    go false true =
        let x = decimal-bounds 1022 s in
        (within-and (length s) 1 (suc (length s)) (decimal_at 1022 s) minus_scale minus-scale-within (omega arith) x.0, minus-scale-most (decimal_at 1022 s))
    go false false = (tt, tt)

pub int-placed : (s : List ℕ) (at : ℕ) (r : Read ℕ) → at ≤ length s → r ≡ int_at (drop at s) → (r ≡ int_at (drop at s)) × Within at (length s) r
int-placed s at r h e = (e, rw e (within-drop s at (int_at (drop at s)) h (int-within (drop at s))))

pub scale-placed :
    (s : List ℕ) (at : ℕ) (r : Read ℕ) → at ≤ length s → r ≡ scale_at (drop at s)
    → (r ≡ scale_at (drop at s)) × Within at (length s) r × AtMost 2046 r
scale-placed s at r h e =
    let w = scale-bounds (drop at s) in
    (e, rw e (within-drop s at (scale_at (drop at s)) h w.0), rw e w.1)

-- FLOATS AND NUMBERS
digits-within : {A : Type 0} (end : ℕ) (o : Option ℕ) (go : ℕ → Read A) → ((n : ℕ) → Within 0 end (go n)) → Within 0 end (and_digits o go)
digits-within end (some n) go h = h n
digits-within end option.none go h = tt

halves-within : (low count sign fraction : ℕ) (o : Option ℕ) → 1 ≤ count → Within 0 count (halves_of low count (high_of sign fraction o))
halves-within low count sign fraction (some n) h = (h, omega arith)
halves-within low count sign fraction option.none h = tt

pub frame-long : (t : List ℕ) → is_float_frame t ≡ true → 17 < length t
unfolding is_float_frame
frame-long t h =
    let x = both_right (eqb (get_or t 0 0) 48) (eqb (get_or t 3 0) 46 && eqb (get_or t 17 0) 112) h in
    inside t 17 111 (eqb-true (get_or t 17 0) 112 (both_right (eqb (get_or t 3 0) 46) (eqb (get_or t 17 0) 112) x))

float-within : (sign : ℕ) (t : List ℕ) → Within 0 (sign + length t) (float_at sign t)
unfolding float_at
float-within sign t = go (is_float_frame t) refl
  where
    parts : ℕ → ℕ → Read Halves
    parts fraction low = and_read (scale_at (drop 18 t)) (float_from sign (get_or t 2 0) fraction low)

    go : (b : Bool) → is_float_frame t ≡ b
        → Within 0 (sign + length t)
        (cond b (and_digits (fixed_at 16 5 (drop 4 t)) (λ fraction. and_digits (fixed_at 16 8 (drop 9 t)) (λ low. parts fraction low))) wrong)
    go false q = tt
    go true q =
        digits-within (sign + length t) (fixed_at 16 5 (drop 4 t)) _ (λ fraction.
        digits-within (sign + length t) (fixed_at 16 8 (drop 9 t)) _ (λ low.
        within-and (length (drop 18 t)) (sign + 18) (sign + length t) (scale_at (drop 18 t)) (float_from sign (get_or t 2 0) fraction low)
        (λ scale count h. halves-within low (sign + 18 + count) sign fraction (exponent_from (get_or t 2 0) fraction low scale) (omega arith))
        (omega (arith, length-drop 18 t, frame-long t q)) (scale-bounds (drop 18 t)).0))

number-within : (s : List ℕ) → Within 0 (length s) (number_at s)
unfolding number_at
number-within s = go (eqb (get_or s (sign_size s + 1) 0) 120) refl
  where
    go : (b : Bool) → eqb (get_or s (sign_size s + 1) 0) 120 ≡ b
        → Within 0 (length s) (cond b (and_read (float_at (sign_size s) (drop (sign_size s) s)) float_value) (and_read (int_at s) int_value))
    go true q =
        let long = inside s (sign_size s + 1) 119 (eqb-true (get_or s (sign_size s + 1) 0) 120 q) in
        within-and (sign_size s + length (drop (sign_size s) s)) 0 (length s) (float_at (sign_size s) (drop (sign_size s) s)) float_value
        (λ h count k. (k, omega arith)) (omega (arith, length-drop (sign_size s) s)) (float-within (sign_size s) (drop (sign_size s) s))
    go false q = within-and (length s) 0 (length s) (int_at s) int_value (λ bits count k. (k, omega arith)) (omega arith) (int-within s)

pub number-placed : (s : List ℕ) (at : ℕ) (r : Read Value) → at ≤ length s → r ≡ number_at (drop at s) → (r ≡ number_at (drop at s)) × Within at (length s) r
number-placed s at r h e = (e, rw e (within-drop s at (number_at (drop at s)) h (number-within (drop at s))))

-- VOCABS
letters-within : (most : ℕ) (s : List ℕ) → Within 0 (length s) (letters_at most s)
unfolding letters_at
letters-within zero [] = tt
letters-within (suc most) [] = tt
letters-within zero (c ∷ s) = go (eqb c 93)
  where
    go : (b : Bool) → Within {A = List ℕ} 0 (suc (length s)) (cond b (got [] 1) wrong)
    go true = (omega arith, omega arith)
    go false = tt
letters-within (suc most) (c ∷ s) = go (letters-within most s) (eqb c 93) (is_letter c)
  where
    go : Within 0 (length s) (letters_at most s) → (b d : Bool)
        → Within {A = List ℕ} 0 (suc (length s)) (cond b (got [] 1) (cond d (and_read (letters_at most s) (λ bs count. got (c ∷ bs) (suc count))) wrong))
    go w true d = (omega arith, omega arith)
    go w false true =
        within-and (length s) 1 (suc (length s)) (letters_at most s) (λ bs count. got (c ∷ bs) (suc count))
        (λ bs count h. (omega arith, omega arith)) (omega arith) w
    go w false false = tt

vocab-within : (s : List ℕ) → Within 0 (length s) (vocab_at s)
unfolding vocab_at
vocab-within s = within-and (length s) 0 (length s) (letters_at 4 s) vocab_bits bits (omega arith) (letters-within 4 s)
  where
    bits : (bs : List ℕ) (count : ℕ) → 1 ≤ count → Within 0 (0 + count) (vocab_bits bs count)
    bits [] count h = tt
    bits (b ∷ bs) count h = (h, omega arith)

pub vocab-placed : (s : List ℕ) (at : ℕ) (r : Read ℕ) → at ≤ length s → r ≡ vocab_at (drop at s) → (r ≡ vocab_at (drop at s)) × Within at (length s) r
vocab-placed s at r h e = (e, rw e (within-drop s at (vocab_at (drop at s)) h (vocab-within (drop at s))))

-- ESCAPES
pub marked-range : (c : ℕ) → is_marked c ≡ true → (34 ≤ c) × (c ≤ 92)
unfolding is_marked
marked-range c = go (eqb c 34) (eqb c 92) refl refl
  where
    go : (b d : Bool) → eqb c 34 ≡ b → eqb c 92 ≡ d → (b || d) ≡ true → (34 ≤ c) × (c ≤ 92)
    go true d p q h = let e = eqb-true c 34 p in (omega arith, omega arith)
    go false true p q h = let e = eqb-true c 92 q in (omega arith, omega arith)
    go false false p q h = clash h

octal-bounds : (b end : ℕ) → 4 ≤ end → Within 0 end (octal_byte b) × AtMost 255 (octal_byte b)
octal-bounds b end h = go (eqb b 0) (ltb b 256) (is_printed b) refl
  where
    go : (x y z : Bool) → ltb b 256 ≡ y
        → Within 0 end (cond (not x && (y && not z)) (got b 4) wrong) × AtMost 255 (cond (not x && (y && not z)) (got b 4) wrong)
    go true y z q = (tt, tt)
    go false false z q = (tt, tt)
    go false true true q = (tt, tt)
    go false true false q = ((omega arith, h), omega (arith, ltb-true b 256 q))

digits-bounds : (end most : ℕ) (o : Option ℕ) (go : ℕ → Read ℕ) → ((n : ℕ) → Within 0 end (go n) × AtMost most (go n))
    → Within 0 end (and_digits o go) × AtMost most (and_digits o go)
digits-bounds end most (some n) go h = h n
digits-bounds end most option.none go h = (tt, tt)

escape-bounds : (s : List ℕ) → Within 0 (length s + 1) (escape_at s) × AtMost 255 (escape_at s)
unfolding escape_at
escape-bounds s = go (is_marked (get_or s 0 0)) (ltb (length s) 3) refl refl
  where
    go : (b d : Bool) → is_marked (get_or s 0 0) ≡ b → ltb (length s) 3 ≡ d
        → Within 0 (length s + 1) (cond b (got (get_or s 0 0) 2) (and_digits (fixed_at 8 3 s) octal_byte))
        × AtMost 255 (cond b (got (get_or s 0 0) 2) (and_digits (fixed_at 8 3 s) octal_byte))
    go true d p q =
        let m = marked-range (get_or s 0 0) p in
        ((omega arith, omega (arith, inside-some s 0 (omega (arith, m)))), omega (arith, m))
    go false true p q = rw (fixed-short 3 0 s (ltb-true (length s) 3 q)) (tt, tt)
    go false false p q = digits-bounds (length s + 1) 255 (fixed_at 8 3 s) octal_byte (λ n. octal-bounds n (length s + 1) (omega (arith, ltb-false (length s) 3 q)))

pub escape-placed :
    (s : List ℕ) (at : ℕ) (r : Read ℕ) → at ≤ length s → r ≡ escape_at (drop at s)
    → (r ≡ escape_at (drop at s)) × Within at (length s + 1) r × AtMost 255 r
escape-placed s at r h e =
    let w = escape-bounds (drop at s) in
    (e, rw e (within-moved at (length (drop at s) + 1) (length s + 1) (escape_at (drop at s)) (omega (arith, length-drop at s)) w.0), rw e w.1)
