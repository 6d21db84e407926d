-- A vocab's text is read as the vocab, and what is read as a vocab is its text.
use Prim.Native.Nat.{ℕ, zero, suc, ◌+◌, ◌*◌, ◌/◌, ◌%◌, ◌^◌, ◌≤◌, ◌<◌}
use mathlib.Core.Path.{◌≡◌, refl, ap, ◌∙◌}
use mathlib.Core.Bool.{Bool, true, false, not, cond, ◌&&◌, ◌||◌}
use mathlib.Core.List.{List, [], ◌∷◌, ◌++◌}
use native.Mathlib.Omega.{arith}
use native.Mathlib.Nat.{pow-le-pow_right}
use lib.Dec.{eqb, leb}
use lib.ListN.{length}
use borrow.Author.Tests.{leb-true, eq-eqb, ne_eqb, eqb-true, not-true}
use Rattle.wire.specs.Number.{le_value, le_bytes, Bytes}
use Rattle.wire.proofs.Numbers.{value-fits}
use Rattle.digits.specs.Read.{Read, got, and_read}
use Rattle.digits.proofs.Judging.{Judged, judged-got, judged-test, judged-read, both_left, both_right}
use Rattle.text.specs.Text.{until_zero, letters}
use Rattle.text.specs.Form.{is_letter, all_letters, is_vocab}
use Rattle.text.specs.Read.{letters_at, vocab_bits, vocab_at}
use Rattle.text.proofs.Fronts.{Front, front-cons, or_right}

-- a letter is printed and no bracket
pub letter-bounds : (b : ℕ) → is_letter b ≡ true → (33 ≤ b) × (b ≤ 126) × (eqb b 93 ≡ false)
unfolding is_letter
letter-bounds b h =
    let range = both_left (leb 33 b && leb b 126) (not (eqb b 91 || eqb b 93)) h in
    let other = not-true (eqb b 91 || eqb b 93) (both_right (leb 33 b && leb b 126) (not (eqb b 91 || eqb b 93)) h) in
    (leb-true 33 b (both_left (leb 33 b) (leb b 126) range), leb-true b 126 (both_right (leb 33 b) (leb b 126) range), or_right (eqb b 91) (eqb b 93) other)

letters-close : (most : ℕ) (s : List ℕ) → letters_at most (93 ∷ s) ≡ got [] 1
unfolding letters_at
letters-close zero s = refl
letters-close (suc most) s = refl

letters-read :
    (most : ℕ) (bs s : List ℕ) → length bs ≤ most → all_letters bs ≡ true → letters_at most (bs ++ (93 ∷ s)) ≡ got bs (suc (length bs))
unfolding letters_at
letters-read most [] s h a = letters-close most s
letters-read zero (b ∷ bs) s h a = absurd (omega arith)
letters-read (suc most) (b ∷ bs) s h a =
    let l = both_left (is_letter b) (all_letters bs) a in
    let rest = letters-read most bs s (omega arith) (both_right (is_letter b) (all_letters bs) a) in
    rw ((letter-bounds b l).2, l, rest)

-- a number's bytes below the first zero are as many as it has at most
pub until-most : (width n : ℕ) → length (until_zero (le_bytes width n)) ≤ width
until-most zero n = omega arith
until-most (suc width) n = go (eqb (n % 256) 0) (until-most width (n / 256))
  where
    go : (b : Bool) → length (until_zero (le_bytes width (n / 256))) ≤ width → length (cond b [] (n % 256 ∷ until_zero (le_bytes width (n / 256)))) ≤ suc width
    go true h = omega arith
    go false h = omega arith

vocab-bits : (bs : List ℕ) (count : ℕ) → eqb (length bs) 0 ≡ false → vocab_bits bs count ≡ got (le_value bs) count
vocab-bits [] count h = absurd (let z : ◌≡◌ {A = ℕ} 0 1 = cc in omega arith)
vocab-bits (b ∷ bs) count h = refl

-- a vocab's text behind the opening bracket is read as the vocab
pub vocab-read : (n : ℕ) (s : List ℕ) → is_vocab n ≡ true → vocab_at (letters n ++ (93 ∷ s)) ≡ got n (suc (length (letters n)))
unfolding vocab_at is_vocab
vocab-read n s h =
    let some = not-true (eqb (length (letters n)) 0) (both_left (not (eqb (length (letters n)) 0)) _ h) in
    let more = both_right (not (eqb (length (letters n)) 0)) (all_letters (letters n) && eqb (le_value (letters n)) n) h in
    let all = both_left (all_letters (letters n)) (eqb (le_value (letters n)) n) more in
    let same = eqb-true (le_value (letters n)) n (both_right (all_letters (letters n)) (eqb (le_value (letters n)) n) more) in
    ap (λ (r : Read (List ℕ)). and_read r vocab_bits) (letters-read 4 (letters n) s (until-most 4 n) all)
    ∙ (vocab-bits (letters n) (suc (length (letters n))) some ∙ ap (λ (m : ℕ). got m (suc (length (letters n)))) same)

-- letters are the letters of the number that they spell
pub letters-of-value : (width : ℕ) (bs : List ℕ) → length bs ≤ width → all_letters bs ≡ true → until_zero (le_bytes width (le_value bs)) ≡ bs
letters-of-value zero [] h a = refl
letters-of-value (suc width) [] h a = refl
letters-of-value zero (b ∷ bs) h a = absurd (omega arith)
letters-of-value (suc width) (b ∷ bs) h a =
    let l = letter-bounds b (both_left (is_letter b) (all_letters bs) a) in
    let low : (b + 256 * le_value bs) % 256 ≡ b = omega arith in
    let rest : (b + 256 * le_value bs) / 256 ≡ le_value bs = omega arith in
    rw (low, rest, ne_eqb b 0 (λ e. omega arith), letters-of-value width bs (omega arith) (both_right (is_letter b) (all_letters bs) a))

letters-bytes : (bs : List ℕ) → all_letters bs ≡ true → Bytes bs
letters-bytes [] a = tt
letters-bytes (b ∷ bs) a =
    let l = letter-bounds b (both_left (is_letter b) (all_letters bs) a) in
    (omega arith, letters-bytes bs (both_right (is_letter b) (all_letters bs) a))

-- what is read as letters, behind the opening bracket
abbrev LettersFront : ℕ → List ℕ → List ℕ → ℕ → Type 0
LettersFront most s bs count = (length bs ≤ most) × (all_letters bs ≡ true) × Front s (bs ++ (93 ∷ [])) count

letters-end : (most : ℕ) (c : ℕ) (s : List ℕ) → eqb c 93 ≡ true → LettersFront most (c ∷ s) [] 1
letters-end most c s e = let q : c ≡ 93 = eqb-true c 93 e in rw q (omega arith, refl, (refl, refl, omega arith))

letters-sound : (most : ℕ) (s : List ℕ) → Judged (LettersFront most s) (letters_at most s)
unfolding letters_at
letters-sound zero [] = tt
letters-sound (suc most) [] = tt
letters-sound zero (c ∷ s) = judged-test (LettersFront 0 (c ∷ s)) (eqb c 93) _ _ (letters-end 0 c s) (λ e. tt)
letters-sound (suc most) (c ∷ s) =
    judged-test (LettersFront (suc most) (c ∷ s)) (eqb c 93) _ _ (letters-end (suc most) c s)
    (λ e. judged-test (LettersFront (suc most) (c ∷ s)) (is_letter c) _ _
    (λ l. judged-read (LettersFront (suc most) (c ∷ s)) (letters_at most s) (λ bs count. got (c ∷ bs) (suc count))
    (λ bs count q. let r = judged-got (LettersFront most s) (letters_at most s) bs count (letters-sound most s) q in
    (omega arith, rw l r.1, front-cons c s (bs ++ (93 ∷ [])) count r.2)))
    (λ l. tt))

-- what is read as a vocab, behind the opening bracket
abbrev pub VocabFront : List ℕ → ℕ → ℕ → Type 0
VocabFront s n count = (n < 2 ^ 32) × (is_vocab n ≡ true) × Front s (letters n ++ (93 ∷ [])) count

vocab-is : (s bs : List ℕ) (count : ℕ) → eqb (length bs) 0 ≡ false → LettersFront 4 s bs count → VocabFront s (le_value bs) count
unfolding is_vocab
vocab-is s bs count h f =
    let e : letters (le_value bs) ≡ bs = letters-of-value 4 bs f.0 f.1 in
    let small : le_value bs < 256 ^ length bs = value-fits bs (letters-bytes bs f.1) in
    let power : 256 ^ length bs ≤ 256 ^ 4 = pow-le-pow_right (omega arith) f.0 in
    rw (e, h, f.1, eq-eqb (le_value bs) (le_value bs) refl) (omega arith, refl, f.2)

pub vocab-sound : (s : List ℕ) → Judged (VocabFront s) (vocab_at s)
unfolding vocab_at
vocab-sound s = judged-read (VocabFront s) (letters_at 4 s) vocab_bits go
  where
    go : (bs : List ℕ) (count : ℕ) → letters_at 4 s ≡ got bs count → Judged (VocabFront s) (vocab_bits bs count)
    go [] count e = tt
    go (b ∷ bs) count e =
        vocab-is s (b ∷ bs) count (ne_eqb (suc (length bs)) 0 (λ z. omega arith)) (judged-got (LettersFront 4 s) (letters_at 4 s) (b ∷ bs) count (letters-sound 4 s) e)
