-- A string's text is read as the string, and what is read as a string is its text.
use Prim.Native.Nat.{ℕ, zero, suc, ◌+◌, ◌-◌, ◌/◌, ◌%◌, ◌≤◌, ◌<◌}
use mathlib.Core.Path.{◌≡◌, refl, sym, ap, ◌∙◌}
use mathlib.Core.Bool.{Bool, true, false, not, ◌&&◌, ◌||◌}
use mathlib.Core.List.{List, [], ◌∷◌, ◌++◌, append_assoc}
use mathlib.Core.Option.{Option, some}
use native.Mathlib.Omega.{arith}
use lib.Dec.{eqb, ltb, leb}
use lib.ListN.{length, take, drop, get_or, length-append}
use lib.Seq.{drop-append_seam}
use borrow.Author.Tests.{lt-ltb, ltb-true, leb-true, ne_eqb, eqb-true, eqb-false, not-true}
use Rattle.wire.specs.Number.{Bytes}
use Rattle.digits.specs.Read.{Read, got, wrong, and_read, and_digits}
use Rattle.digits.specs.Fixed.{fixed, glyph, fixed_at}
use Rattle.digits.proofs.Judging.{Judged, judged-got, judged-map, judged-test, judged-read, judged-digits, both_left, both_right}
use Rattle.digits.proofs.Fixing.{fixed-read, fixed-sound}
use Rattle.list.specs.Legal.{NoZero}
use Rattle.text.specs.Text.{is_printed, is_marked, char_text, chars_text}
use Rattle.text.specs.Read.{octal_byte, escape_at, char_at, chars_at}
use Rattle.text.proofs.Fronts.{Front, front-cons, or_left, or_right}

-- by what is done with a byte: a backslash before it, nothing, or octal digits
by-char : (P : Type 0) (b : ℕ) → (is_printed b ≡ true → is_marked b ≡ true → P) → (is_printed b ≡ true → is_marked b ≡ false → P) → (is_printed b ≡ false → P) → P
by-char P b marked plain octal = go (is_printed b) (is_marked b) refl refl
  where
    go : (p m : Bool) → is_printed b ≡ p → is_marked b ≡ m → P
    go true true e f = marked e f
    go true false e f = plain e f
    go false m e f = octal e

-- what is marked
unmarked : (b : ℕ) → is_marked b ≡ false → (eqb b 34 ≡ false) × (eqb b 92 ≡ false)
unfolding is_marked
unmarked b h = (or_left (eqb b 34) (eqb b 92) h, or_right (eqb b 34) (eqb b 92) h)

digit-unmarked : (d : ℕ) → d < 10 → is_marked (glyph d) ≡ false
unfolding is_marked
digit-unmarked d h = rw (lt-ltb d 10 h, ne_eqb (48 + d) 34 (λ e. omega arith), ne_eqb (48 + d) 92 (λ e. omega arith))

octal-is : (b : ℕ) → b < 256 → (b ≡ 0 → ⊥) → is_printed b ≡ false → octal_byte b ≡ got b 4
octal-is b h z p = rw (ne_eqb b 0 z, lt-ltb b 256 h, p)

escape-read : (b : ℕ) (s : List ℕ) → b < 256 → (b ≡ 0 → ⊥) → is_printed b ≡ false → escape_at (fixed 8 3 b ++ s) ≡ got b 4
unfolding escape_at
escape-read b s h z p =
    rw (digit-unmarked (b / 8 / 8 % 8) (omega arith))
    (ap (λ (o : Option ℕ). and_digits o octal_byte) (fixed-read 8 (omega arith) (omega arith) 3 b s (omega arith)) ∙ octal-is b h z p)

-- a byte's text is read as the byte
pub char-read : (b : ℕ) (s : List ℕ) → b < 256 → (b ≡ 0 → ⊥) → char_at (char_text b ++ s) ≡ got b (length (char_text b))
unfolding char_at escape_at
char-read b s h z =
    by-char _ b
    (λ p m. rw (p, m, m))
    (λ p m. rw (p, m, (unmarked b m).1, p, m))
    (λ p. rw p (escape-read b s h z p))

-- a byte's text starts with no quote
pub char-start : (b : ℕ) → eqb (get_or (char_text b) 0 0) 34 ≡ false
char-start b =
    by-char _ b
    (λ p m. rw (p, m))
    (λ p m. rw (p, m, (unmarked b m).0))
    (λ p. rw p)

-- a byte's text has one character or more
pub char-some : (b : ℕ) → 1 ≤ length (char_text b)
char-some b =
    by-char _ b
    (λ p m. rw (p, m) (omega arith))
    (λ p m. rw (p, m) (omega arith))
    (λ p. rw p (omega arith))

-- characters that were read already
pub chars-skip : (skip : ℕ) (s : List ℕ) → chars_at skip s ≡ and_read (chars_at 0 (drop skip s)) (λ bs count. got bs (skip + count))
unfolding chars_at
chars-skip zero s = go (chars_at 0 s)
  where
    go : (r : Read (List ℕ)) → r ≡ and_read r (λ bs count. got bs (0 + count))
    go (got bs count) = let z : 0 + count ≡ count = omega arith in rw z
    go wrong = refl
chars-skip (suc skip) [] = refl
chars-skip (suc skip) (c ∷ s) = ap (λ (r : Read (List ℕ)). and_read r (λ bs count. got bs (suc count))) (chars-skip skip s) ∙ go (chars_at 0 (drop skip s))
  where
    go : (r : Read (List ℕ))
        → and_read (and_read r (λ bs count. got bs (skip + count))) (λ bs count. got bs (suc count)) ≡ and_read r (λ bs count. got bs (suc skip + count))
    go (got bs count) = let z : suc skip + count ≡ suc (skip + count) = omega arith in rw z
    go wrong = refl

-- one byte, then those behind it
pub chars-step :
    (b : ℕ) (text rest : List ℕ) (bs : List ℕ) (count : ℕ) → char_at (text ++ rest) ≡ got b (length text) → eqb (get_or text 0 0) 34 ≡ false
    → 1 ≤ length text → chars_at 0 rest ≡ got bs count → chars_at 0 (text ++ rest) ≡ got (b ∷ bs) (length text + count)
unfolding chars_at
chars-step b [] rest bs count e q h f = absurd (omega arith)
chars-step b (c ∷ text) rest bs count e q h f =
    let size : suc (length text) - 1 ≡ length text = omega arith in
    let sum : suc (length text) + count ≡ suc (length text + count) = omega arith in
    rw (q, e, size, chars-skip (length text) (text ++ rest), drop-append_seam text rest, f, sum)

-- a string's text behind the opening quote is read as its bytes
pub chars-read : (bs s : List ℕ) → Bytes bs → NoZero bs → chars_at 0 (chars_text bs ++ (34 ∷ s)) ≡ got bs (length (chars_text bs) + 1)
unfolding chars_at
chars-read [] s h z = refl
chars-read (b ∷ bs) s h z =
    let rest = chars_text bs ++ (34 ∷ s) in
    let e = chars-step b (char_text b) rest bs (length (chars_text bs) + 1) (char-read b rest h.0 z.0) (char-start b) (char-some b) (chars-read bs s h.1 z.1) in
    let n : length (char_text b) + (length (chars_text bs) + 1) ≡ length (char_text b) + length (chars_text bs) + 1 = omega arith in
    rw (append_assoc (char_text b) (chars_text bs) (34 ∷ s), length-append (char_text b) (chars_text bs)) (e ∙ rw n)

-- what is read as a byte of a string
abbrev CharFront : List ℕ → ℕ → ℕ → Type 0
CharFront s b count = (b < 256) × (b ≡ 0 → ⊥) × Front s (char_text b) count

octal-sound : (s : List ℕ) (b : ℕ) → fixed_at 8 3 s ≡ some b → Judged (CharFront (92 ∷ s)) (octal_byte b)
octal-sound s b e =
    let f = fixed-sound 8 (omega arith) (omega arith) 3 s b e in
    judged-test (CharFront (92 ∷ s)) (not (eqb b 0) && (ltb b 256 && not (is_printed b))) (got b 4) wrong
    (λ t. let z = eqb-false b 0 (not-true (eqb b 0) (both_left (not (eqb b 0)) (ltb b 256 && not (is_printed b)) t)) in
    let more = both_right (not (eqb b 0)) (ltb b 256 && not (is_printed b)) t in
    let p = not-true (is_printed b) (both_right (ltb b 256) (not (is_printed b)) more) in
    (ltb-true b 256 (both_left (ltb b 256) (not (is_printed b)) more), z, rw p (front-cons 92 s (fixed 8 3 b) 3 (f.0, refl, f.2))))
    (λ t. tt)

marked-printed : (b : ℕ) → is_marked b ≡ true → (b < 256) × (b ≡ 0 → ⊥) × (is_printed b ≡ true)
unfolding is_marked is_printed
marked-printed b = go (eqb b 34) (eqb b 92) refl refl
  where
    go : (m n : Bool) → eqb b 34 ≡ m → eqb b 92 ≡ n → (m || n) ≡ true → (b < 256) × (b ≡ 0 → ⊥) × (is_printed b ≡ true)
    go true n e f h = let q : b ≡ 34 = eqb-true b 34 e in rw q (omega arith, λ z. omega arith, refl)
    go false true e f h = let q : b ≡ 92 = eqb-true b 92 f in rw q (omega arith, λ z. omega arith, refl)
    go false false e f h = absurd (let z : ◌≡◌ {A = ℕ} 0 1 = cc in omega arith)

escape-sound : (s : List ℕ) → Judged (CharFront (92 ∷ s)) (escape_at s)
unfolding escape_at
escape-sound s =
    judged-test (CharFront (92 ∷ s)) (is_marked (get_or s 0 0)) _ _ (marked s)
    (λ m. judged-digits (CharFront (92 ∷ s)) (fixed_at 8 3 s) octal_byte (octal-sound s))
  where
    marked : (s : List ℕ) → is_marked (get_or s 0 0) ≡ true → CharFront (92 ∷ s) (get_or s 0 0) 2
    marked [] m = absurd ((marked-printed 0 m).1 refl)
    marked (c ∷ s) m = let p = marked-printed c m in (p.0, p.1, rw (p.2, m) (refl, refl, omega arith))

printed-bounds : (b : ℕ) → is_printed b ≡ true → (b < 256) × (b ≡ 0 → ⊥)
unfolding is_printed
printed-bounds b h =
    let low = leb-true 32 b (both_left (leb 32 b) (leb b 126) h) in
    let high = leb-true b 126 (both_right (leb 32 b) (leb b 126) h) in
    (omega arith, λ z. omega arith)

pub char-sound : (s : List ℕ) → Judged (CharFront s) (char_at s)
unfolding char_at
char-sound [] = tt
char-sound (c ∷ s) =
    judged-test (CharFront (c ∷ s)) (eqb c 92) _ _
    (λ e. rw (eqb-true c 92 e) (escape-sound s))
    (λ e. judged-test (CharFront (c ∷ s)) (is_printed c && not (is_marked c)) _ _
    (λ t. let p = both_left (is_printed c) (not (is_marked c)) t in
    let m = not-true (is_marked c) (both_right (is_printed c) (not (is_marked c)) t) in
    let b = printed-bounds c p in
    (b.0, b.1, rw (p, m) (refl, refl, omega arith)))
    (λ t. tt))

-- what is read as a string's bytes behind `skip` characters that were read already
abbrev CharsFront : ℕ → List ℕ → List ℕ → ℕ → Type 0
CharsFront skip s bs count =
    Bytes bs × NoZero bs × (take count s ≡ take skip s ++ (chars_text bs ++ (34 ∷ []))) × (count ≡ skip + (length (chars_text bs) + 1)) × (count ≤ length s)

chars-join :
    (c : ℕ) (s : List ℕ) (b size : ℕ) (bs : List ℕ) (count : ℕ) → CharFront (c ∷ s) b size → CharsFront (size - 1) s bs count
    → CharsFront 0 (c ∷ s) (b ∷ bs) (suc count)
chars-join c s b size bs count f r =
    let k = char-some b in
    let e : size ≡ suc (size - 1) = omega arith in
    let first : c ∷ take (size - 1) s ≡ char_text b = ap (λ (n : ℕ). take n (c ∷ s)) (sym e) ∙ f.2.0 in (
      (f.0, r.0),
      (f.1, r.1),
      ap (λ (t : List ℕ). c ∷ t) r.2 ∙ (ap (λ (t : List ℕ). t ++ (chars_text bs ++ (34 ∷ []))) first ∙ sym (append_assoc (char_text b) (chars_text bs) (34 ∷ []))),
      rw (length-append (char_text b) (chars_text bs)) (omega arith),
      omega arith,
    )

chars-sound-at : (skip : ℕ) (s : List ℕ) → Judged (CharsFront skip s) (chars_at skip s)
unfolding chars_at
chars-sound-at zero [] = tt
chars-sound-at (suc skip) [] = tt
chars-sound-at (suc skip) (c ∷ s) =
    judged-read (CharsFront (suc skip) (c ∷ s)) (chars_at skip s) (λ bs count. got bs (suc count))
    (λ bs count e. let r = judged-got (CharsFront skip s) (chars_at skip s) bs count (chars-sound-at skip s) e in
    (r.0, r.1, ap (λ (t : List ℕ). c ∷ t) r.2, omega arith, omega arith))
chars-sound-at zero (c ∷ s) =
    judged-test (CharsFront 0 (c ∷ s)) (eqb c 34) _ _
    (λ q. rw (eqb-true c 34 q) (tt, tt, refl, refl, omega arith))
    (λ q. judged-read (CharsFront 0 (c ∷ s)) (char_at (c ∷ s)) _
    (λ b size e. judged-read (CharsFront 0 (c ∷ s)) (chars_at (size - 1) s) (λ bs count. got (b ∷ bs) (suc count))
    (λ bs count g. chars-join c s b size bs count
    (judged-got (CharFront (c ∷ s)) (char_at (c ∷ s)) b size (char-sound (c ∷ s)) e)
    (judged-got (CharsFront (size - 1) s) (chars_at (size - 1) s) bs count (chars-sound-at (size - 1) s) g))))

-- what is read as a string, behind the opening quote
abbrev pub StringFront : List ℕ → List ℕ → ℕ → Type 0
StringFront s bs count = Bytes bs × NoZero bs × Front s (chars_text bs ++ (34 ∷ [])) count

pub chars-sound : (s : List ℕ) → Judged (StringFront s) (chars_at 0 s)
chars-sound s =
    judged-map (CharsFront 0 s) (StringFront s) (chars_at 0 s)
    (λ bs count r. (r.0, r.1, (r.2, rw (length-append (chars_text bs) (34 ∷ [])) (omega arith), r.4))) (chars-sound-at 0 s)
