-- Laws of a vocab's letters and of a string's escapes.
use Prim.Native.Nat.{ℕ, zero, suc, ◌+◌, ◌-◌, ◌*◌, ◌^◌, ◌≤◌, ◌<◌}
use mathlib.Core.Path.{◌≡◌, refl, sym, ap, ◌∙◌}
use mathlib.Core.Bool.{Bool, true, false, cond, not, ◌&&◌, ◌||◌}
use mathlib.Core.List.{List, [], ◌∷◌}
use mathlib.Core.Option.{Option, some}
use mathlib.Core.Option as option
use native.Mathlib.Omega.{arith}
use native.Mathlib.Nat.{add-zero, mul-add, mul_comm, mul_assoc, mul-le-mul_right}
use lib.Dec.{eqb, ltb, leb}
use lib.ListN.{length, get_or, drop, drop_of_length-le, length-drop}
use borrow.Author.Tests.{eq-eqb, ne_eqb, eqb-true, eqb-false, leb-true, leb-false, lt-ltb, le-ltb}
use Rattle.wire.specs.Number.{le_value}
use Rattle.digits.specs.Read.{Read, got, wrong, and_read, and_digits}
use Rattle.digits.specs.Fixed.{fixed_at}
use Rattle.text.specs.Text.{is_printed, is_marked}
use Rattle.text.specs.Form.{is_letter}
use Rattle.text.specs.Read.{letters_at, vocab_bits, vocab_at, octal_byte, escape_at}
use Rattle.text.proofs.Vocabs.{letter-bounds}
use Rattle.text_value.proofs.Decimals.{clash, drop-next, first_char}
use Rattle.text_value.proofs.Fixeds.{octal_digit, power-most, three-digits, fixed-short}

-- LETTERS
letters-none : (most : ℕ) → letters_at most [] ≡ wrong
unfolding letters_at
letters-none zero = refl
letters-none (suc most) = refl

letters-close : (most c : ℕ) (s : List ℕ) → c ≡ 93 → letters_at most (c ∷ s) ≡ got [] 1
unfolding letters_at
letters-close zero c s e = rw (eq-eqb c 93 e)
letters-close (suc most) c s e = rw (eq-eqb c 93 e)

letters-over : (c : ℕ) (s : List ℕ) → (c ≡ 93 → ⊥) → letters_at 0 (c ∷ s) ≡ wrong
unfolding letters_at
letters-over c s n = rw (ne_eqb c 93 n)

letters-other : (most c : ℕ) (s : List ℕ) → (c ≡ 93 → ⊥) → is_letter c ≡ false → letters_at most (c ∷ s) ≡ wrong
unfolding letters_at
letters-other zero c s n e = rw (ne_eqb c 93 n)
letters-other (suc most) c s n e = rw (ne_eqb c 93 n, e)

letters-more : (most c : ℕ) (s : List ℕ) → (c ≡ 93 → ⊥) → is_letter c ≡ true
    → letters_at (suc most) (c ∷ s) ≡ and_read (letters_at most s) (λ bs count. got (c ∷ bs) (suc count))
unfolding letters_at
letters-more most c s n e = rw (ne_eqb c 93 n, e)

-- what the letters behind i others make, which make `bits`; `unit` is what the next letter counts
abbrev pub behind : ℕ → ℕ → ℕ → List ℕ → ℕ → Read ℕ
behind i unit bits bs count = cond (eqb (i + length bs) 0) wrong (got (bits + unit * le_value bs) (i + count))

pub behind-none : (r : Read (List ℕ)) → and_read r vocab_bits ≡ and_read r (behind 0 1 0)
behind-none (got [] count) = refl
behind-none (got (b ∷ bs) count) =
    let e : 0 + 1 * le_value (b ∷ bs) ≡ le_value (b ∷ bs) = omega arith in
    let f : 0 + count ≡ count = omega arith in
    sym (rw (ne_eqb (0 + suc (length bs)) 0 (λ q. omega arith), e, f))
behind-none wrong = refl

sum : (a b d : ℕ) → a + (b + d) ≡ a + b + d
sum a b d = omega arith

spelled : (bits unit c more : ℕ) → bits + unit * (c + 256 * more) ≡ bits + c * unit + unit * 256 * more
spelled bits unit c more = rw (mul-add unit c (256 * more), mul_comm unit c, mul_assoc unit 256 more) (sum bits (c * unit) (unit * (256 * more)))

behind-letter : (i unit bits c : ℕ) (r : Read (List ℕ))
    → and_read (and_read r (λ bs count. got (c ∷ bs) (suc count))) (behind i unit bits) ≡ and_read r (behind (i + 1) (unit * 256) (bits + c * unit))
behind-letter i unit bits c (got bs count) =
    let e : i + suc count ≡ i + 1 + count = omega arith in
    rw (ne_eqb (i + suc (length bs)) 0 (λ q. omega arith), ne_eqb (i + 1 + length bs) 0 (λ q. omega arith), e)
    (ap (λ (n : ℕ). got n (i + 1 + count)) (spelled bits unit c (le_value bs)))
behind-letter i unit bits c wrong = refl

-- ONE TURN: before it, L is what the letters from offset at + i on make behind i letters
module _ (L : Read ℕ) (bits unit i at : ℕ) (s : List ℕ) (inv : L ≡ and_read (letters_at (4 - i) (drop (at + i) s)) (behind i unit bits)) where
  pub vocab-end : length s ≤ at + i → wrong ≡ L
  vocab-end h = sym (inv ∙ rw (drop_of_length-le s h, letters-none (4 - i)))

  front : at + i < length s → L ≡ and_read (letters_at (4 - i) (get_or s (at + i) 0 ∷ drop (at + i + 1) s)) (behind i unit bits)
  front h = inv ∙ rw (drop-next s (at + i) h)

  pub vocab-empty : at + i < length s → get_or s (at + i) 0 ≡ 93 → i ≡ 0 → wrong ≡ L
  vocab-empty h e z = sym (front h ∙ rw (letters-close (4 - i) (get_or s (at + i) 0) (drop (at + i + 1) s) e, eq-eqb (i + 0) 0 (omega arith)))

  pub vocab-close : at + i < length s → get_or s (at + i) 0 ≡ 93 → (i ≡ 0 → ⊥) → got bits (i + 1) ≡ L
  vocab-close h e z =
      let f : bits + unit * 0 ≡ bits = omega arith in
      sym (front h ∙ rw (letters-close (4 - i) (get_or s (at + i) 0) (drop (at + i + 1) s) e, ne_eqb (i + 0) 0 (λ q. z (omega arith)), f))

  stopped : (c : ℕ) (t : List ℕ) → (c ≡ 93 → ⊥) → (eqb i 4 || not (is_letter c)) ≡ true → letters_at (4 - i) (c ∷ t) ≡ wrong
  stopped c t n = go (eqb i 4) (is_letter c) refl refl
    where
      go : (b d : Bool) → eqb i 4 ≡ b → is_letter c ≡ d → (b || not d) ≡ true → letters_at (4 - i) (c ∷ t) ≡ wrong
      go true d p q h = let e : 4 - i ≡ 0 = omega (arith, eqb-true i 4 p) in rw e (letters-over c t n)
      go false false p q h = letters-other (4 - i) c t n q
      go false true p q h = clash h

  pub vocab-stop : at + i < length s → (get_or s (at + i) 0 ≡ 93 → ⊥) → (eqb i 4 || not (is_letter (get_or s (at + i) 0))) ≡ true → wrong ≡ L
  vocab-stop h n e = sym (front h ∙ rw (stopped (get_or s (at + i) 0) (drop (at + i + 1) s) n e))

  pub vocab-turn : at + i < length s → (get_or s (at + i) 0 ≡ 93 → ⊥) → i < 4 → is_letter (get_or s (at + i) 0) ≡ true
      → L ≡ and_read (letters_at (4 - (i + 1)) (drop (at + (i + 1)) s)) (behind (i + 1) (unit * 256) (bits + get_or s (at + i) 0 * unit))
  vocab-turn h n few e =
      let k : 4 - i ≡ suc (4 - (i + 1)) = omega arith in
      let o : at + i + 1 ≡ at + (i + 1) = omega arith in
      let step = letters-more (4 - (i + 1)) (get_or s (at + i) 0) (drop (at + i + 1) s) n e in
      front h ∙ rw (k, step, o) (behind-letter i unit bits (get_or s (at + i) 0) (letters_at (4 - (i + 1)) (drop (at + (i + 1)) s)))

letter-taken : (i c : ℕ) → i ≤ 4 → (eqb i 4 || not (is_letter c)) ≡ false → (i < 4) × (is_letter c ≡ true)
letter-taken i c m = go (eqb i 4) (is_letter c) refl
  where
    go : (b d : Bool) → eqb i 4 ≡ b → (b || not d) ≡ false → (i < 4) × (d ≡ true)
    go true d p h = clash (sym h)
    go false true p h = (omega (arith, eqb-false i 4 p), refl)
    go false false p h = clash (sym h)

-- what holds where one more letter is taken: what it adds has room, and so has what the next counts
pub letter-next : (c unit i : ℕ) → i ≤ 4 → (eqb i 4 || not (is_letter c)) ≡ false → unit ≡ 256 ^ i
    → (i < 4) × (is_letter c ≡ true) × (c ≤ 126) × (c * unit ≤ 126 * unit) × (unit ≤ 16777216)
letter-next c unit i m t e =
    let n = letter-taken i c m t in
    let small = (letter-bounds c n.1).1 in
    (n.0, n.1, small, mul-le-mul_right unit small, rw e (power-most 256 i 3 (omega arith) (omega arith)))

pub vocab-past : (s : List ℕ) (at : ℕ) → length s ≤ at → wrong ≡ vocab_at (drop at s)
unfolding vocab_at letters_at
vocab-past s at h = sym (rw (drop_of_length-le s h))

pub vocab-start : (s : List ℕ) (at : ℕ) → vocab_at (drop at s) ≡ and_read (letters_at (4 - 0) (drop (at + 0) s)) (behind 0 1 0)
unfolding vocab_at
vocab-start s at = rw add-zero (behind-none (letters_at 4 (drop at s)))

-- ESCAPES
pub octal-bad : (b : ℕ) → (eqb b 0 || leb 256 b) ≡ true → wrong ≡ octal_byte b
octal-bad b = go (eqb b 0) (leb 256 b) refl
  where
    go : (x y : Bool) → leb 256 b ≡ y → (x || y) ≡ true → wrong ≡ cond (not x && (ltb b 256 && not (is_printed b))) (got b 4) wrong
    go true y q h = refl
    go false true q h = rw (le-ltb b 256 (leb-true 256 b q))
    go false false q h = clash h

pub octal-low : (b : ℕ) → (eqb b 0 || leb 256 b) ≡ false → (eqb b 0 ≡ false) × (b < 256)
octal-low b = go (eqb b 0) (leb 256 b) refl
  where
    go : (x y : Bool) → leb 256 b ≡ y → (x || y) ≡ false → (x ≡ false) × (b < 256)
    go true y q h = clash (sym h)
    go false true q h = clash (sym h)
    go false false q h = (refl, leb-false 256 b q)

pub octal-good : (b : ℕ) (z : Bool) → (eqb b 0 || leb 256 b) ≡ false → is_printed b ≡ z → cond z wrong (got b 4) ≡ octal_byte b
octal-good b z h p = let m = octal-low b h in go z (sym (rw (m.0, lt-ltb b 256 m.1, p)))
  where
    go : (z : Bool) → cond (not z) (got b 4) wrong ≡ octal_byte b → cond z wrong (got b 4) ≡ octal_byte b
    go true e = e
    go false e = e

module _ (s : List ℕ) (at : ℕ) where
  pub escape-past : length s ≤ at → wrong ≡ escape_at (drop at s)
  unfolding escape_at is_marked
  escape-past h = sym (rw (drop_of_length-le s h, fixed-short 3 0 [] (omega arith)))

  pub escape-marked : is_marked (get_or s at 0) ≡ true → got (get_or s at 0) 2 ≡ escape_at (drop at s)
  unfolding escape_at
  escape-marked e = sym (rw (first_char, e))

  digits : is_marked (get_or s at 0) ≡ false → escape_at (drop at s) ≡ and_digits (fixed_at 8 3 (drop at s)) octal_byte
  unfolding escape_at
  digits e = rw (first_char, e)

  pub escape-short : is_marked (get_or s at 0) ≡ false → length s - at < 3 → wrong ≡ escape_at (drop at s)
  escape-short e h = sym (digits e ∙ rw (fixed-short 3 0 (drop at s) (omega (arith, length-drop at s))))

  three : at + 3 ≤ length s → drop at s ≡ get_or s at 0 ∷ get_or s (at + 1) 0 ∷ get_or s (at + 2) 0 ∷ drop (at + 3) s
  three h =
      let e₂ : at + 1 + 1 ≡ at + 2 = omega arith in
      let e₃ : at + 2 + 1 ≡ at + 3 = omega arith in
      let d₂ : drop (at + 1) s ≡ get_or s (at + 1) 0 ∷ drop (at + 2) s = rw e₂ at (drop-next s (at + 1) (omega arith)) in
      let d₃ : drop (at + 2) s ≡ get_or s (at + 2) 0 ∷ drop (at + 3) s = rw e₃ at (drop-next s (at + 2) (omega arith)) in
      drop-next s at (omega arith) ∙ rw (d₂, d₃)

  -- three digits, each below 8 or 8
  module _ (x y z : ℕ) (is_x : x ≡ octal_digit (get_or s at 0)) (is_y : y ≡ octal_digit (get_or s (at + 1) 0)) (is-z : z ≡ octal_digit (get_or s (at + 2) 0)) where
    number : at + 3 ≤ length s → fixed_at 8 3 (drop at s) ≡ cond (eqb x 8 || (eqb y 8 || eqb z 8)) option.none (some (64 * x + 8 * y + z))
    number h = ap (fixed_at 8 3) (three h) ∙ three-digits (get_or s at 0) (get_or s (at + 1) 0) (get_or s (at + 2) 0) (drop (at + 3) s) ∙ sym (rw (is_x, is_y, is-z))

    pub escape-none : is_marked (get_or s at 0) ≡ false → at + 3 ≤ length s → (eqb x 8 || (eqb y 8 || eqb z 8)) ≡ true → wrong ≡ escape_at (drop at s)
    escape-none e h t = sym (digits e ∙ ap (λ (o : Option ℕ). and_digits o octal_byte) (number h) ∙ rw t)

    pub escape-byte : is_marked (get_or s at 0) ≡ false → at + 3 ≤ length s → (eqb x 8 || (eqb y 8 || eqb z 8)) ≡ false
        → octal_byte (64 * x + 8 * y + z) ≡ escape_at (drop at s)
    escape-byte e h t = sym (digits e ∙ ap (λ (o : Option ℕ). and_digits o octal_byte) (number h) ∙ rw t)
