-- A vocab's letters and a string's characters in a text that was judged.
use Prim.Native.Nat.{ℕ, ◌+◌, ◌-◌, ◌*◌, ◌^◌, ◌≤◌, ◌<◌}
use mathlib.Core.Path.{◌≡◌, refl, sym, ap, ◌∙◌}
use mathlib.Core.Bool.{Bool, true, false, cond, not, ◌&&◌, ◌||◌}
use mathlib.Core.List.{List, ◌∷◌}
use native.Mathlib.Omega.{arith}
use native.Mathlib.Nat.{mul_comm}
use lib.Dec.{eqb, ltb, leb}
use lib.ListN.{length, get_or, drop, drop_of_length-le}
use borrow.Author.Tests.{ne_eqb, eqb-true, eqb-false}
use Rattle.digits.specs.Read.{Read, got, wrong, and_read}
use Rattle.digits.proofs.Judging.{both_left}
use Rattle.text.specs.Text.{is_printed, is_marked}
use Rattle.text.specs.Form.{is_letter}
use Rattle.text.specs.Read.{letters_at, vocab_at, octal_byte, escape_at, char_at}
use Rattle.text.proofs.Fronts.{or_left, or_right}
use Rattle.text_value.proofs.Decimals.{drop-next}
use Rattle.text_value.proofs.Fixeds.{range, octal_digit, octal-is, octal-other, power-next, power-most}
use Rattle.text_value.proofs.Letters.{behind, letter-next, vocab-start, vocab-end, vocab-empty, vocab-close, vocab-stop, vocab-turn}
use Rattle.text_value.proofs.Letters.{escape-past, escape-marked, escape-short, escape-none, escape-byte}
use Rattle.text_decode.specs.Pieces.{is_got}
use Rattle.text_decode.proofs.Knowns.{no_read, lt_of}

-- LETTERS up to `end`, which make `bits`; the next counts `unit`
pub record Letters (s : List ℕ) (at bits unit end : ℕ) : Type 0 where
  pub i : ℕ
  pub place : end ≡ at + i
  pub few : i ≤ 4
  pub power : unit ≡ 256 ^ i
  pub small : bits < unit
  pub left : vocab_at (drop at s) ≡ and_read (letters_at (4 - i) (drop (at + i) s)) (behind i unit bits)

pub letters-start : (s : List ℕ) (at : ℕ) → Letters s at 0 1 at
letters-start s at = record { i = 0; place = omega arith; few = omega arith; power = refl; small = omega arith; left = vocab-start s at }

module _ {s : List ℕ} {at bits unit end : ℕ} (x : Letters s at bits unit end) (there : is_got (vocab_at (drop at s)) ≡ true) where
  abbrev L : Read ℕ
  L = vocab_at (drop at s)

  pub letters-inside : end < length s
  letters-inside = lt_of end (length s) (λ l. no_read there (sym (vocab-end L bits unit x.i at s x.left (omega (arith, x.place)))))

  -- the bits fit 32, and what the next letter counts fits 64
  pub letters-fit : (bits < 2 ^ 32) × (unit ≤ 2 ^ 32)
  letters-fit = let p = power-most 256 x.i 4 (omega arith) x.few in (omega (arith, x.power, x.small), omega (arith, x.power))

  pub letters-done : get_or s end 0 ≡ 93 → vocab_at (drop at s) ≡ got bits (x.i + 1)
  letters-done e = go (eqb x.i 0) refl
    where
      inside : at + x.i < length s
      inside = omega (arith, letters-inside, x.place)

      here : get_or s (at + x.i) 0 ≡ 93
      here = ap (λ (k : ℕ). get_or s k 0) (sym x.place) ∙ e

      go : (b : Bool) → eqb x.i 0 ≡ b → vocab_at (drop at s) ≡ got bits (x.i + 1)
      go true z = absurd (no_read there (sym (vocab-empty L bits unit x.i at s x.left inside here (eqb-true x.i 0 z))))
      go false z = sym (vocab-close L bits unit x.i at s x.left inside here (eqb-false x.i 0 z))

  -- one letter more
  pub record More : Type 0 where
    pub letter : get_or s end 0 ≤ 126
    pub counts : get_or s end 0 * unit ≤ 126 * unit
    pub room : unit ≤ 16777216
    pub next : Letters s at (bits + get_or s end 0 * unit) (unit * 256) (end + 1)

  pub letters-more : (get_or s end 0 ≡ 93 → ⊥) → More
  letters-more n = go (eqb x.i 4 || not (is_letter (get_or s (at + x.i) 0))) refl
    where
      same : get_or s (at + x.i) 0 ≡ get_or s end 0
      same = ap (λ (k : ℕ). get_or s k 0) (sym x.place)

      inside : at + x.i < length s
      inside = omega (arith, letters-inside, x.place)

      other : get_or s (at + x.i) 0 ≡ 93 → ⊥
      other e = n (sym same ∙ e)

      go : (b : Bool) → (eqb x.i 4 || not (is_letter (get_or s (at + x.i) 0))) ≡ b → More
      go true t = absurd (no_read there (sym (vocab-stop L bits unit x.i at s x.left inside other t)))
      go false t =
          let w = letter-next (get_or s (at + x.i) 0) unit x.i x.few t x.power in
          let c : get_or s end 0 * unit ≤ 126 * unit = rw same at w.3 in
          record {
            letter = omega (arith, w.2, same);
            counts = c;
            room = w.4;
            next = record {
              i = x.i + 1;
              place = omega (arith, x.place);
              few = omega (arith, w.0);
              power = rw (power-next 256 x.i, x.power) (mul_comm (256 ^ x.i) 256);
              small = omega (arith, c, x.small);
              left =
                  rw same at (vocab-turn L bits unit x.i at s x.left inside other w.0 w.1);
            };
          }

-- ESCAPES, at the backslash
pub escape-inside : (s : List ℕ) (at : ℕ) → is_got (escape_at (drop at s)) ≡ true → at < length s
escape-inside s at h = lt_of at (length s) (λ l. no_read h (sym (escape-past s at l)))

-- three octal digits at offsets `at`, `at2` and `at3`, and what they say
pub record Octal (s : List ℕ) (at at2 at3 : ℕ) : Type 0 where
  pub room : at + 3 ≤ length s
  pub x : (48 ≤ get_or s at 0) × (get_or s at 0 ≤ 55)
  pub y : (48 ≤ get_or s at2 0) × (get_or s at2 0 ≤ 55)
  pub z : (48 ≤ get_or s at3 0) × (get_or s at3 0 ≤ 55)
  pub whole : escape_at (drop at s) ≡ got (64 * (get_or s at 0 - 48) + 8 * (get_or s at2 0 - 48) + (get_or s at3 0 - 48)) 4

-- a digit below 8
below-8 : (c : ℕ) → eqb (octal_digit c) 8 ≡ false → (octal_digit c ≡ c - 48) × (48 ≤ c) × (c ≤ 55)
below-8 c n = go (leb 48 c && leb c 55) refl
  where
    go : (b : Bool) → (leb 48 c && leb c 55) ≡ b → (octal_digit c ≡ c - 48) × (48 ≤ c) × (c ≤ 55)
    go true e = let r = range 48 55 c e in (octal-is c e, r.0, r.1)
    go false e = absurd (eqb-false (octal_digit c) 8 n (octal-other c e))

octal-got : (n : ℕ) (r : Read ℕ) → octal_byte n ≡ r → is_got r ≡ true → r ≡ got n 4
octal-got n r e h = sym e ∙ go (not (eqb n 0) && (ltb n 256 && not (is_printed n))) (rw e h)
  where
    go : (b : Bool) → is_got (cond b (got n 4) wrong) ≡ true → cond b (got n 4) wrong ≡ got n 4
    go true h = refl
    go false h = absurd (let z : ◌≡◌ {A = ℕ} 0 1 = cc in omega arith)

module _ (s : List ℕ) (at : ℕ) (there : is_got (escape_at (drop at s)) ≡ true) where
  pub escape-mark : is_marked (get_or s at 0) ≡ true → escape_at (drop at s) ≡ got (get_or s at 0) 2
  escape-mark e = sym (escape-marked s at e)

  pub escape-octal : (at2 at3 : ℕ) → at2 ≡ at + 1 → at3 ≡ at + 2 → is_marked (get_or s at 0) ≡ false → Octal s at at2 at3
  escape-octal at2 at3 second third e = rw (second, third) (go (eqb x 8 || (eqb y 8 || eqb z 8)) refl)
    where
      x : ℕ
      x = octal_digit (get_or s at 0)

      y : ℕ
      y = octal_digit (get_or s (at + 1) 0)

      z : ℕ
      z = octal_digit (get_or s (at + 2) 0)

      few : length s - at < 3 → ⊥
      few l = no_read there (sym (escape-short s at e l))

      room : at + 3 ≤ length s
      room = let l = lt_of 2 (length s - at) (λ l. few (omega arith)) in omega (arith, escape-inside s at there)

      go : (b : Bool) → (eqb x 8 || (eqb y 8 || eqb z 8)) ≡ b → Octal s at (at + 1) (at + 2)
      go true t = absurd (no_read there (sym (escape-none s at x y z refl refl refl e room t)))
      go false t =
          let more = or_right (eqb x 8) (eqb y 8 || eqb z 8) t in
          let a = below-8 (get_or s at 0) (or_left (eqb x 8) (eqb y 8 || eqb z 8) t) in
          let b = below-8 (get_or s (at + 1) 0) (or_left (eqb y 8) (eqb z 8) more) in
          let d = below-8 (get_or s (at + 2) 0) (or_right (eqb y 8) (eqb z 8) more) in
          record {
            room = room;
            x = (a.1, a.2);
            y = (b.1, b.2);
            z = (d.1, d.2);
            whole = octal-got (64 * x + 8 * y + z) (escape_at (drop at s)) (escape-byte s at x y z refl refl refl e room t) there ∙ rw (a.0, b.0, d.0);
          }

-- CHARACTERS
pub char-inside : (s : List ℕ) (at : ℕ) → is_got (char_at (drop at s)) ≡ true → at < length s
unfolding char_at
char-inside s at h =
    let none : length s ≤ at → char_at (drop at s) ≡ wrong = λ l. rw (drop_of_length-le s l) in
    lt_of at (length s) (λ l. no_read h (none l))

module _ (s : List ℕ) (at : ℕ) (there : is_got (char_at (drop at s)) ≡ true) where
  split : drop at s ≡ get_or s at 0 ∷ drop (at + 1) s
  split = drop-next s at (char-inside s at there)

  pub char-plain : (get_or s at 0 ≡ 92 → ⊥) → char_at (drop at s) ≡ got (get_or s at 0) 1
  unfolding char_at
  char-plain n =
      let e : char_at (drop at s) ≡ cond (is_printed (get_or s at 0) && not (is_marked (get_or s at 0))) (got (get_or s at 0) 1) wrong =
      ap char_at split ∙ rw (ne_eqb (get_or s at 0) 92 n) in
      e ∙ go (is_printed (get_or s at 0) && not (is_marked (get_or s at 0))) (rw e at there)
    where
      go : (b : Bool) → is_got (cond b (got (get_or s at 0) 1) wrong) ≡ true → cond b (got (get_or s at 0) 1) wrong ≡ got (get_or s at 0) 1
      go true h = refl
      go false h = absurd (let z : ◌≡◌ {A = ℕ} 0 1 = cc in omega arith)

  printed : (get_or s at 0 ≡ 92 → ⊥) → (b : Bool) → (is_printed (get_or s at 0) && not (is_marked (get_or s at 0))) ≡ b → is_printed (get_or s at 0) ≡ true
  unfolding char_at
  printed n true e = both_left (is_printed (get_or s at 0)) (not (is_marked (get_or s at 0))) e
  printed n false e = absurd (no_read there (ap char_at split ∙ rw (ne_eqb (get_or s at 0) 92 n, e)))

  pub char-small : (get_or s at 0 ≡ 92 → ⊥) → get_or s at 0 ≤ 126
  unfolding is_printed
  char-small n = (range 32 126 (get_or s at 0) (printed n (is_printed (get_or s at 0) && not (is_marked (get_or s at 0))) refl)).1
