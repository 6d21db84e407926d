-- An element's text is read as the element, and what is read as an element that is no list is its text.
use Prim.Native.Nat.{ℕ, suc, ◌+◌, ◌^◌, ◌≤◌, ◌<◌}
use mathlib.Core.Path.{◌≡◌, refl, ◌∙◌}
use mathlib.Core.Bool.{Bool, true, false, cond}
use mathlib.Core.List.{List, [], ◌∷◌, ◌++◌, append-nil}
use mathlib.Core.Logic.{◌⊎◌, inl, inr, ⊎_elim}
use native.Mathlib.Omega.{arith}
use lib.Dec.{eqb}
use lib.ListN.{length, take, drop, get_or, length-append}
use lib.Seq.{append_snoc}
use borrow.Author.Tests.{ne_eqb, eqb-true}
use Rattle.digits.specs.Read.{Read, got, and_read}
use Rattle.digits.specs.Decimal.{decimal, is_decimal}
use Rattle.digits.proofs.Judging.{Judged, judged-got, judged-test, judged-read}
use Rattle.digits.proofs.Decimals.{decimal-first, decimal-some, digit-is, digit-bounds}
use Rattle.list.specs.Strings.{negative}
use Rattle.list.specs.Tree.{Value, int, vocab, float, str, blob}
use Rattle.list.specs.Legal.{LegalValue}
use Rattle.text.specs.Text.{value_text, int_text, float_text, letters, chars_text, bytes_text}
use Rattle.text.specs.Form.{has_form, is_finite}
use Rattle.text.specs.Read.{Halves, halves, sign_size, float_at, int_at, chars_at, bytes_at, vocab_at, int_value, float_value, number_at, within, value_at}
use Rattle.text.proofs.Fronts.{Front, front-cons}
use Rattle.text.proofs.Ints.{by_sign, int-read, int-no-x, IntFront, int-sound}
use Rattle.text.proofs.Vocabs.{vocab-read, VocabFront, vocab-sound}
use Rattle.text.proofs.Strings.{chars-read, StringFront, chars-sound}
use Rattle.text.proofs.Blobs.{bytes_read, BlobFront, bytes-sound}
use Rattle.text.proofs.Floats.{float_tail, float_read, FloatFront, float-sound}

-- the first character of a number's text is a minus or a digit
record NumberStart (s : List ℕ) : Type 0 where
  some : 1 ≤ length s
  start : (get_or s 0 0 ≡ 45) ⊎ (is_decimal (get_or s 0 0) ≡ true)

length_more : (t s : List ℕ) → 1 ≤ length t → 1 ≤ length (t ++ s)
length_more t s h = rw (length-append t s) (omega arith)

int-start : (n : ℕ) (s : List ℕ) → NumberStart (int_text n ++ s)
int-start n s =
    by_sign _ n
    (λ e l. rw e (record { some = omega arith; start = inl refl }))
    (λ e l. rw e (record { some = length_more (decimal n) s (decimal-some n); start = inr (decimal-first n s) }))

float-start : (low high : ℕ) (s : List ℕ) → NumberStart (float_text low high ++ s)
unfolding is_decimal
float-start low high s =
    by_sign _ high
    (λ e l. rw e (record { some = omega arith; start = inl refl }))
    (λ e l. rw e (record { some = omega arith; start = inr refl }))

-- such a first character is none of a few others
start-other : (c k : ℕ) → (c ≡ 45) ⊎ (is_decimal c ≡ true) → (eqb 45 k ≡ false) → (48 ≤ k → 58 ≤ k) → eqb c k ≡ false
start-other c k h m f = ⊎_elim (λ (e : c ≡ 45). rw e m) (λ (d : is_decimal c ≡ true). ne_eqb c k (λ z. let b = digit-bounds c d in omega (arith, f (omega arith)))) h

number-value : (s : List ℕ) → NumberStart s → value_at s ≡ number_at s
unfolding value_at
number-value [] n = absurd (omega arith)
number-value (c ∷ s) n =
    rw (start-other c 34 n.start refl (λ l. omega arith), start-other c 123 n.start refl (λ l. omega arith), start-other c 91 n.start refl (λ l. omega arith))

-- numbers
int_number :
    (n : ℕ) (s : List ℕ) → n < 2 ^ 32 → is_decimal (get_or s 0 0) ≡ false → eqb (get_or s 0 0) 120 ≡ false
    → number_at (int_text n ++ s) ≡ got (int n) (length (int_text n))
unfolding number_at
int_number n s h d x = rw (int-no-x n s x, int-read n s h d)

plus-number :
    (t : List ℕ) (low high n : ℕ) → float_at 0 (48 ∷ 120 ∷ t) ≡ got (halves low high) n → number_at (48 ∷ 120 ∷ t) ≡ got (float low high) n
unfolding number_at sign_size
plus-number t low high n e = rw e

minus_number :
    (t : List ℕ) (low high n : ℕ) → float_at 1 (48 ∷ 120 ∷ t) ≡ got (halves low high) n → number_at (45 ∷ 48 ∷ 120 ∷ t) ≡ got (float low high) n
unfolding number_at sign_size
minus_number t low high n e = rw e

float-number :
    (low high : ℕ) (s : List ℕ) → low < 2 ^ 32 → high < 2 ^ 32 → is_finite high ≡ true → is_decimal (get_or s 0 0) ≡ false
    → number_at (float_text low high ++ s) ≡ got (float low high) (length (float_text low high))
float-number low high s hl hh f d =
    by_sign _ high
    (λ e l. rw e (minus_number (drop 2 (float_tail low high) ++ s) low high (suc (length (float_tail low high)))
    (float_read 1 low high (suc (length (float_tail low high))) s (rw e) (omega arith) hl hh f d)))
    (λ e l. rw e (plus-number (drop 2 (float_tail low high) ++ s) low high (length (float_tail low high))
    (float_read 0 low high (length (float_tail low high)) s (rw e) (omega arith) hl hh f d)))

-- an element behind its first character
behind-read :
    {A : Type 0} (kind : A → Value) (a : A) (r : Read A) (text : List ℕ) (n : ℕ) → r ≡ got a n → n ≡ length text
    → and_read r (within kind) ≡ got (kind a) (suc (length text))
behind-read kind a r text n e q = rw (e, q)

-- an element's text, with no digit and no x behind it, is read as the element
pub value_read :
    (v : Value) (s : List ℕ) → LegalValue v → has_form v ≡ true → is_decimal (get_or s 0 0) ≡ false → eqb (get_or s 0 0) 120 ≡ false
    → value_at (value_text v ++ s) ≡ got v (length (value_text v))
unfolding value_at
value_read (int n) s l f d x = number-value (int_text n ++ s) (int-start n s) ∙ int_number n s l d x
value_read (float low high) s l f d x = number-value (float_text low high ++ s) (float-start low high s) ∙ float-number low high s l.0 l.1 f d
value_read (vocab n) s l f d x =
    behind-read vocab n (vocab_at ((letters n ++ (93 ∷ [])) ++ s)) (letters n ++ (93 ∷ [])) (suc (length (letters n)))
    (rw (append_snoc (letters n) 93 s) (vocab-read n s f)) (rw (length-append (letters n) (93 ∷ [])) (omega arith))
value_read (str bs) s l f d x =
    behind-read str bs (chars_at 0 ((chars_text bs ++ (34 ∷ [])) ++ s)) (chars_text bs ++ (34 ∷ [])) (length (chars_text bs) + 1)
    (rw (append_snoc (chars_text bs) 34 s) (chars-read bs s l.0 l.1)) (rw (length-append (chars_text bs) (34 ∷ [])))
value_read (blob bs) s l f d x =
    behind-read blob bs (bytes_at true 0 ((bytes_text true bs ++ (125 ∷ [])) ++ s)) (bytes_text true bs ++ (125 ∷ [])) (length (bytes_text true bs) + 1)
    (rw (append_snoc (bytes_text true bs) 125 s) (bytes_read true bs s l)) (rw (length-append (bytes_text true bs) (125 ∷ [])))

-- what is read as an element
abbrev pub ValueFront : List ℕ → Value → ℕ → Type 0
ValueFront s v count = LegalValue v × (has_form v ≡ true) × Front s (value_text v) count

plus-front : (t : List ℕ) (h : Halves) (count : ℕ) → FloatFront 0 t h count → ValueFront t (float h.low h.high) count
plus-front t h count f =
    let m : negative h.high ≡ false = f.minus in
    let n : count ≡ f.size = omega arith in
    rw (m, n) ((f.low_fits, f.high_fits), f.finite, f.front)

minus-front : (t : List ℕ) (h : Halves) (count : ℕ) → FloatFront 1 t h count → ValueFront (45 ∷ t) (float h.low h.high) count
minus-front t h count f =
    let m : negative h.high ≡ true = f.minus in
    let n : count ≡ suc f.size = omega arith in
    rw (m, n) ((f.low_fits, f.high_fits), f.finite, front-cons 45 t (float_tail h.low h.high) f.size f.front)

float_value_lem :
    (b : Bool) (s : List ℕ) → eqb (get_or s 0 0) 45 ≡ b → get_or s (cond b 1 0 + 1) 0 ≡ 120
    → Judged (ValueFront s) (and_read (float_at (cond b 1 0) (drop (cond b 1 0) s)) float_value)
float_value_lem true [] e x = absurd (omega (arith, eqb-true 0 45 e))
float_value_lem true (c ∷ t) e x =
    rw (eqb-true c 45 e)
    (judged-read (ValueFront (45 ∷ t)) (float_at 1 t) float_value
    (λ h count q. minus-front t h count (judged-got (FloatFront 1 t) (float_at 1 t) h count (float-sound 1 t (omega arith) x) q)))
float_value_lem false s e x =
    judged-read (ValueFront s) (float_at 0 s) float_value
    (λ h count q. plus-front s h count (judged-got (FloatFront 0 s) (float_at 0 s) h count (float-sound 0 s (omega arith) x) q))

number-sound : (s : List ℕ) → Judged (ValueFront s) (number_at s)
unfolding number_at sign_size
number-sound s =
    judged-test (ValueFront s) (eqb (get_or s (sign_size s + 1) 0) 120) _ _
    (λ x. float_value_lem (eqb (get_or s 0 0) 45) s refl (eqb-true (get_or s (sign_size s + 1) 0) 120 x))
    (λ x. judged-read (ValueFront s) (int_at s) int_value
    (λ n count e. let f = judged-got (IntFront s) (int_at s) n count (int-sound s) e in (f.0, refl, f.1)))

value-sound-at : (s : List ℕ) → Judged (ValueFront s) (value_at s)
unfolding value_at
value-sound-at [] = tt
value-sound-at (c ∷ s) =
    judged-test (ValueFront (c ∷ s)) (eqb c 34) _ _
    (λ e. rw (eqb-true c 34 e) (judged-read (ValueFront (34 ∷ s)) (chars_at 0 s) (within str)
    (λ bs count q. let f = judged-got (StringFront s) (chars_at 0 s) bs count (chars-sound s) q in ((f.0, f.1), refl, front-cons 34 s _ count f.2))))
    (λ e. judged-test (ValueFront (c ∷ s)) (eqb c 123) _ _
    (λ e. rw (eqb-true c 123 e) (judged-read (ValueFront (123 ∷ s)) (bytes_at true 0 s) (within blob)
    (λ bs count q. let f = judged-got (BlobFront s) (bytes_at true 0 s) bs count (bytes-sound s) q in (f.0, refl, front-cons 123 s _ count f.1))))
    (λ e. judged-test (ValueFront (c ∷ s)) (eqb c 91) _ _
    (λ e. rw (eqb-true c 91 e) (judged-read (ValueFront (91 ∷ s)) (vocab_at s) (within vocab)
    (λ n count q. let f = judged-got (VocabFront s) (vocab_at s) n count (vocab-sound s) q in (f.0, f.1, front-cons 91 s _ count f.2))))
    (λ e. number-sound (c ∷ s))))

-- what is read as an element is its text, and the element is legal and has a text form
pub value-sound :
    (s : List ℕ) (v : Value) (n : ℕ) → value_at s ≡ got v n
    → LegalValue v × (has_form v ≡ true) × (take n s ≡ value_text v) × (n ≡ length (value_text v)) × (n ≤ length s)
value-sound s v n e =
    let f = judged-got (ValueFront s) (value_at s) v n (value-sound-at s) e in
    (f.0, f.1, f.2.0, f.2.1, f.2.2)

-- an element's text has one character or more
pub value-some : (v : Value) → 1 ≤ length (value_text v)
value-some (int n) = by_sign _ n (λ e l. rw e (omega arith)) (λ e l. rw e (decimal-some n))
value-some (float low high) = by_sign _ high (λ e l. rw e (omega arith)) (λ e l. rw e (omega arith))
value-some (vocab n) = omega arith
value-some (str bs) = omega arith
value-some (blob bs) = omega arith

not-bracket : (c : ℕ) → (c ≡ 45) ⊎ (is_decimal c ≡ true) → (c ≡ 32 → ⊥) × (c ≡ 40 → ⊥) × (c ≡ 41 → ⊥)
not-bracket c (inl e) = (λ z. omega arith, λ z. omega arith, λ z. omega arith)
not-bracket c (inr d) = let b = digit-bounds c d in (λ z. omega arith, λ z. omega arith, λ z. omega arith)

-- its first character is neither a space nor a bracket
pub value-first :
    (v : Value) → LegalValue v → has_form v ≡ true
    → (get_or (value_text v) 0 0 ≡ 32 → ⊥) × (get_or (value_text v) 0 0 ≡ 40 → ⊥) × (get_or (value_text v) 0 0 ≡ 41 → ⊥)
value-first (int n) l f =
    by_sign _ n
    (λ e l. rw e (not-bracket 45 (inl refl)))
    (λ e l. rw e (not-bracket (get_or (decimal n) 0 0) (inr (rw (append-nil (decimal n)) at (decimal-first n [])))))
value-first (float low high) l f = by_sign _ high (λ e l. rw e (not-bracket 45 (inl refl))) (λ e l. rw e (not-bracket 48 (inr (digit-is 0 (omega arith)))))
value-first (vocab n) l f = (λ e. omega arith, λ e. omega arith, λ e. omega arith)
value-first (str bs) l f = (λ e. omega arith, λ e. omega arith, λ e. omega arith)
value-first (blob bs) l f = (λ e. omega arith, λ e. omega arith, λ e. omega arith)
