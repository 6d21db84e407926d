-- A token as the tally needs it: what the code answers for each first character is the token's shape.
use Prim.Native.Nat.{ℕ, suc, ◌+◌, ◌-◌, ◌^◌, ◌≤◌, ◌<◌}
use mathlib.Core.Path.{◌≡◌, refl, sym, ap, ◌∙◌}
use mathlib.Core.Bool.{Bool, true, false, cond, ◌||◌}
use mathlib.Core.List.{List, [], ◌∷◌}
use native.Mathlib.Omega.{arith}
use native.Mathlib.Nat.{add-zero}
use lib.Dec.{eqb}
use lib.ListN.{length, get_or, drop, length-append, drop_of_length-le}
use borrow.Author.Tests.{ne_eqb}
use Rattle.std.specs.Prelude as std
use Rattle.std.specs.Prelude.{Some, None}
use Rattle.digits.specs.Read.{Read, got, wrong, and_read}
use Rattle.list.specs.Strings.{terminator}
use Rattle.list.specs.Tree.{Value, vocab, str, blob}
use Rattle.list.specs.Bytes.{value_bytes}
use Rattle.text.specs.Read.{number_at, vocab_at, chars_at, bytes_at, within, value_at}
use Rattle.text.specs.Tokens.{Token, opening, closing, item, item_token, element_at, spaced, token_at}
use Rattle.text_value.specs.declared.Word.{Word}
use Rattle.text_value.specs.declared.NumberRead.{NumberRead}
use Rattle.text_value.specs.declared.NumberRead.TheVariants as number
use Rattle.text_value.specs.Answers.{word_of, number_of, gap_size, Within}
use Rattle.text_value.proofs.Decimals.{drop-next}
use Rattle.text_value.proofs.BlobBytes.{moved_by, moved_none, moved-one}
use Rattle.text_check.specs.declared.span.Span.{Span}
use Rattle.text_check.specs.declared.token.TokenRead.{TokenRead}
use Rattle.text_check.specs.declared.token.TokenRead.TheVariants as read
use Rattle.text_check.specs.Answers.{
  span_of,
  counted,
  at_most,
  Shape,
  opened,
  closed,
  valued,
  shape_of,
  shaped,
  token_of,
  span_token,
  vocab_token,
  number_token,
  behind_gap,
}
use Rattle.text_check.proofs.Counters.{at-most-is}

-- ONE KIND AFTER THE OTHER
string-shape : (q : Read (List ℕ))
    → and_read (and_read q counted) (λ stored count. got (valued 4 (at_most (4 + (stored + 1)))) (suc count)) ≡ and_read (and_read (and_read q (within str)) item_token) shaped
string-shape (got bs n) =
    let e : length (value_bytes (str bs)) ≡ 4 + (length bs + 1) = rw (length-append bs terminator) (omega arith) in
    ap (λ (k : ℕ). got (valued 4 (at_most k)) (suc n)) (sym e)
string-shape wrong = refl

blob-shape : (q : Read (List ℕ))
    → and_read (and_read q counted) (λ stored count. got (valued 12 (at_most (4 + (stored + 0)))) (suc count)) ≡ and_read (and_read (and_read q (within blob)) item_token) shaped
blob-shape (got bs n) =
    let e : length (value_bytes (blob bs)) ≡ 4 + (length bs + 0) = omega arith in
    ap (λ (k : ℕ). got (valued 12 (at_most k)) (suc n)) (sym e)
blob-shape wrong = refl

vocab-shape : (q : Read ℕ) → and_read q (λ bits count. got (valued 9 4) (suc count)) ≡ and_read (and_read (and_read q (within vocab)) item_token) shaped
vocab-shape (got bits n) = ap (λ (k : ℕ). got (valued 9 k) (suc n)) (at-most-is 4 (omega arith))
vocab-shape wrong = refl

number-shape : (r : std.Option NumberRead) → number_token r ≡ and_read (and_read (number_of r) item_token) shaped
number-shape (Some (number.Int bits n)) = ap (λ (k : ℕ). got (valued 1 k) n) (at-most-is 4 (omega arith))
number-shape (Some (number.Float low high n)) = ap (λ (k : ℕ). got (valued 10 k) n) (at-most-is 8 (omega arith))
number-shape None = refl

-- WHERE THEY STAND
span-within : (code tail at end : ℕ) (r : Read ℕ) → Within (at + 1) end r
    → Within at end (and_read r (λ stored count. got (valued code (at_most (4 + (stored + tail)))) (suc count)))
span-within code tail at end (got stored n) w = (omega arith, omega arith)
span-within code tail at end wrong w = tt

vocab-within : (at end : ℕ) (r : Read ℕ) → Within (at + 1) end r → Within at end (and_read r (λ bits count. got (valued 9 4) (suc count)))
vocab-within at end (got bits n) w = (omega arith, omega arith)
vocab-within at end wrong w = tt

number-within : (at end : ℕ) (r : std.Option NumberRead) → Within at end (number_of r) → Within at end (number_token r)
number-within at end (Some (number.Int bits n)) w = w
number-within at end (Some (number.Float low high n)) w = w
number-within at end None w = tt

-- what is asked of a reading that one character more is counted for
pub roomy : {A : Type 0} (at end : ℕ) (r : Read A) → end < 2 ^ 64 → Within (at + 1) end r → Within 1 (2 ^ 64 - 1) r
roomy at end (got a n) h w = (w.0, omega arith)
roomy at end wrong h w = tt

-- AN ELEMENT BY ITS FIRST CHARACTER
pub element-past : (s : List ℕ) (at : ℕ) → length s ≤ at → wrong ≡ and_read (element_at (drop at s)) shaped
unfolding element_at
element-past s at h = rw (drop_of_length-le s h)

element-value : (c : ℕ) (t : List ℕ) → (c ≡ 40 → ⊥) → element_at (c ∷ t) ≡ and_read (value_at (c ∷ t)) item_token
unfolding element_at
element-value c t q = rw (ne_eqb c 40 q)

value-string : (t : List ℕ) → value_at (34 ∷ t) ≡ and_read (chars_at 0 t) (within str)
unfolding value_at
value-string t = refl

value-blob : (t : List ℕ) → value_at (123 ∷ t) ≡ and_read (bytes_at true 0 t) (within blob)
unfolding value_at
value-blob t = refl

value-vocab : (t : List ℕ) → value_at (91 ∷ t) ≡ and_read (vocab_at t) (within vocab)
unfolding value_at
value-vocab t = refl

value-number : (c : ℕ) (t : List ℕ) → (c ≡ 34 → ⊥) → (c ≡ 123 → ⊥) → (c ≡ 91 → ⊥) → value_at (c ∷ t) ≡ number_at (c ∷ t)
unfolding value_at
value-number c t a b d = rw (ne_eqb c 34 a, ne_eqb c 123 b, ne_eqb c 91 d)

-- no element starts with a closing bracket
abbrev NoClosing : Read Token → Type 0
NoClosing (got opening n) = Unit {0}
NoClosing (got closing n) = ⊥
NoClosing (got (item v) n) = Unit {0}
NoClosing wrong = Unit {0}

element-no-closing : (s : List ℕ) → NoClosing (element_at s)
unfolding element_at
element-no-closing [] = tt
element-no-closing (c ∷ s) = go (eqb c 40) (value_at (c ∷ s))
  where
    go : (b : Bool) (v : Read Value) → NoClosing (cond b (got opening 1) (and_read v item_token))
    go true v = tt
    go false (got v n) = tt
    go false wrong = tt

-- an element behind its gap
gap-shape : (gap : ℕ) (r : std.Option TokenRead) (q : Read Token) → NoClosing q → token_of r ≡ and_read q shaped → behind_gap gap r ≡ and_read (moved_by gap q) shaped
gap-shape gap (Some (read.Open n)) (got opening m) k e = let h : n ≡ m = cc in ap (λ (x : ℕ). got opened (x + gap)) h
gap-shape gap (Some (read.Open n)) (got closing m) k e = absurd k
gap-shape gap (Some (read.Open n)) (got (item v) m) k e = absurd (let z : ◌≡◌ {A = ℕ} 0 1 = cc in omega arith)
gap-shape gap (Some (read.Open n)) wrong k e = absurd (let z : ◌≡◌ {A = ℕ} 0 1 = cc in omega arith)
gap-shape gap (Some read.Close) (got opening m) k e = absurd (let z : ◌≡◌ {A = ℕ} 0 1 = cc in omega arith)
gap-shape gap (Some read.Close) (got closing m) k e = absurd k
gap-shape gap (Some read.Close) (got (item v) m) k e = absurd (let z : ◌≡◌ {A = ℕ} 0 1 = cc in omega arith)
gap-shape gap (Some read.Close) wrong k e = refl
gap-shape gap (Some (read.Value code payload n)) (got opening m) k e = absurd (let z : ◌≡◌ {A = ℕ} 0 1 = cc in omega arith)
gap-shape gap (Some (read.Value code payload n)) (got closing m) k e = absurd k
gap-shape gap (Some (read.Value code payload n)) (got (item v) m) k e =
    let h : n ≡ m = cc in
    let p : valued code payload ≡ shape_of (item v) = cc in
    rw (p, h)
gap-shape gap (Some (read.Value code payload n)) wrong k e = absurd (let z : ◌≡◌ {A = ℕ} 0 1 = cc in omega arith)
gap-shape gap None (got token m) k e = absurd (let z : ◌≡◌ {A = ℕ} 0 1 = cc in omega arith)
gap-shape gap None wrong k e = refl

module _ (s : List ℕ) (at : ℕ) (long : at < length s) where
  -- the characters from the first on, which is known
  front_of : (c : ℕ) → get_or s at 0 ≡ c → drop at s ≡ c ∷ drop (at + 1) s
  front_of c e = drop-next s at long ∙ ap (λ (k : ℕ). k ∷ drop (at + 1) s) e

  -- an element whose first character is known
  front-is : (c : ℕ) → get_or s at 0 ≡ c → and_read (element_at (c ∷ drop (at + 1) s)) shaped ≡ and_read (element_at (drop at s)) shaped
  front-is c e = ap (λ (l : List ℕ). and_read (element_at l) shaped) (sym (front_of c e))

  pub element-open : get_or s at 0 ≡ 40 → (got opened 1 ≡ and_read (element_at (drop at s)) shaped) × Within at (length s) (got opened 1)
  unfolding element_at
  element-open e = (front-is 40 e, (omega arith, omega arith))

  -- an element that is no list
  valued-is : (c : ℕ) (v : Read Value) → get_or s at 0 ≡ c → (c ≡ 40 → ⊥) → value_at (c ∷ drop (at + 1) s) ≡ v
      → and_read (and_read v item_token) shaped ≡ and_read (element_at (drop at s)) shaped
  valued-is c v e q h =
      ap (λ (r : Read Value). and_read (and_read r item_token) shaped) (sym h)
      ∙ ap (λ (r : Read Token). and_read r shaped) (sym (element-value c (drop (at + 1) s) q)) ∙ front-is c e

  pub element-string : (r : std.Option Span) (x : Read Shape) → get_or s at 0 ≡ 34 → x ≡ span_token 4 1 r → span_of r ≡ and_read (chars_at 0 (drop (at + 1) s)) counted
      → Within (at + 1) (length s) (span_of r) → (x ≡ and_read (element_at (drop at s)) shaped) × Within at (length s) x
  element-string r x e h g w = (
    h ∙ ap (λ (q : Read ℕ). and_read q (λ stored count. got (valued 4 (at_most (4 + (stored + 1)))) (suc count))) g ∙ string-shape (chars_at 0 (drop (at + 1) s))
        ∙ valued-is 34 (and_read (chars_at 0 (drop (at + 1) s)) (within str)) e (λ q. omega arith) (value-string (drop (at + 1) s)),
    rw h (span-within 4 1 at (length s) (span_of r) w),
  )

  pub element-blob : (r : std.Option Span) (x : Read Shape) → get_or s at 0 ≡ 123 → x ≡ span_token 12 0 r → span_of r ≡ and_read (bytes_at true 0 (drop (at + 1) s)) counted
      → Within (at + 1) (length s) (span_of r) → (x ≡ and_read (element_at (drop at s)) shaped) × Within at (length s) x
  element-blob r x e h g w = (
    h ∙ ap (λ (q : Read ℕ). and_read q (λ stored count. got (valued 12 (at_most (4 + (stored + 0)))) (suc count))) g ∙ blob-shape (bytes_at true 0 (drop (at + 1) s))
        ∙ valued-is 123 (and_read (bytes_at true 0 (drop (at + 1) s)) (within blob)) e (λ q. omega arith) (value-blob (drop (at + 1) s)),
    rw h (span-within 12 0 at (length s) (span_of r) w),
  )

  pub element-vocab : (r : std.Option Word) (x : Read Shape) → get_or s at 0 ≡ 91 → x ≡ vocab_token r → word_of r ≡ vocab_at (drop (at + 1) s)
      → Within (at + 1) (length s) (word_of r) → (x ≡ and_read (element_at (drop at s)) shaped) × Within at (length s) x
  element-vocab r x e h g w = (
    h ∙ vocab-shape (word_of r) ∙ ap (λ (q : Read ℕ). and_read (and_read (and_read q (within vocab)) item_token) shaped) g
        ∙ valued-is 91 (and_read (vocab_at (drop (at + 1) s)) (within vocab)) e (λ q. omega arith) (value-vocab (drop (at + 1) s)),
    rw h (vocab-within at (length s) (word_of r) w),
  )

  pub element-number : (r : std.Option NumberRead) (x : Read Shape) → (get_or s at 0 ≡ 40 → ⊥) → (get_or s at 0 ≡ 34 → ⊥) → (get_or s at 0 ≡ 123 → ⊥) → (get_or s at 0 ≡ 91 → ⊥)
      → x ≡ number_token r → number_of r ≡ number_at (drop at s) → Within at (length s) (number_of r)
      → (x ≡ and_read (element_at (drop at s)) shaped) × Within at (length s) x
  element-number r x a b d f h g w = (
    h ∙ number-shape r ∙ ap (λ (q : Read Value). and_read (and_read q item_token) shaped) (g ∙ ap number_at (drop-next s at long))
        ∙ valued-is (get_or s at 0) (number_at (get_or s at 0 ∷ drop (at + 1) s)) refl a (value-number (get_or s at 0) (drop (at + 1) s) b d f),
    rw h (number-within at (length s) r w),
  )

  -- A TOKEN BY ITS FIRST CHARACTER
  pub token-close : (first : Bool) → get_or s at 0 ≡ 41 → (got closed 1 ≡ and_read (token_at first (drop at s)) shaped) × Within at (length s) (got closed 1)
  unfolding token_at
  token-close first e =
      (ap (λ (l : List ℕ). and_read (token_at first l) shaped) (sym (front_of 41 e)), (omega arith, omega arith))

  pub token-open :
      (first : Bool) (x : Read Shape) → x ≡ cond first (got opened 1) wrong → get_or s at 0 ≡ 40
      → (x ≡ and_read (token_at first (drop at s)) shaped) × Within at (length s) x
  unfolding token_at element_at
  token-open true x k e =
      (k ∙ ap (λ (l : List ℕ). and_read (token_at true l) shaped) (sym (front_of 40 e)), rw k (omega arith, omega arith))
  token-open false x k e =
      (k ∙ ap (λ (l : List ℕ). and_read (token_at false l) shaped) (sym (front_of 40 e)), rw k tt)

  abbrev token-by : Bool → Bool → Read Token
  token-by first space = cond first (element_at (get_or s at 0 ∷ drop (at + 1) s)) (cond space (and_read (element_at (drop (at + 1) s)) spaced) wrong)

  token-is : (first : Bool) → (get_or s at 0 ≡ 41 → ⊥) → token_at first (drop at s) ≡ token-by first (eqb (get_or s at 0) 32)
  unfolding token_at
  token-is first q = ap (token_at first) (drop-next s at long) ∙ rw (ne_eqb (get_or s at 0) 41 q)

  module _ (gap : ℕ) where
    gapped : (first space : Bool) → cond first (Some 0) (cond space (Some 1) None) ≡ Some gap → moved_by gap (element_at (drop (at + gap) s)) ≡ token-by first space
    gapped true space e = let z : gap ≡ 0 = cc in rw (z, add-zero at) (moved_none (element_at (drop at s)) ∙ ap element_at (drop-next s at long))
    gapped false true e = let z : gap ≡ 1 = cc in rw z (moved-one (element_at (drop (at + 1) s)))
    gapped false false e = absurd (cc)

    stays : (r : std.Option TokenRead) → Within (at + gap) (length s) (token_of r) → Within at (length s) (behind_gap gap r)
    stays (Some (read.Open n)) w = (omega arith, omega arith)
    stays (Some read.Close) w = tt
    stays (Some (read.Value code payload n)) w = (omega arith, omega arith)
    stays None w = tt

    -- r is what stands behind the gap
    pub token-gap : (first : Bool) (r : std.Option TokenRead) (x : Read Shape) → (get_or s at 0 ≡ 41 → ⊥) → gap_size first (get_or s at 0) ≡ Some gap → x ≡ behind_gap gap r
        → (token_of r ≡ and_read (element_at (drop (at + gap) s)) shaped) × Within (at + gap) (length s) (token_of r)
        → (x ≡ and_read (token_at first (drop at s)) shaped) × Within at (length s) x
    token-gap first r x q e k g = (
      k ∙ gap-shape gap r (element_at (drop (at + gap) s)) (element-no-closing (drop (at + gap) s)) g.0
          ∙ ap (λ (t : Read Token). and_read t shaped) (gapped first (eqb (get_or s at 0) 32) e ∙ sym (token-is first q)),
      rw k (stays r g.1),
    )

  missing : (first space : Bool) → (first || space) ≡ false → wrong ≡ token-by first space
  missing true space e = absurd (cc)
  missing false true e = absurd (cc)
  missing false false e = refl

  -- neither a closing bracket nor the space that must stand
  pub token-bare : (first : Bool) → (get_or s at 0 ≡ 41 → ⊥) → (first || eqb (get_or s at 0) 32) ≡ false → wrong ≡ and_read (token_at first (drop at s)) shaped
  token-bare first q e = ap (λ (t : Read Token). and_read t shaped) (missing first (eqb (get_or s at 0) 32) e ∙ sym (token-is first q))

-- where an element may begin, the gap is that of the definition
pub gap-known : (first : Bool) (c : ℕ) → (first || eqb c 32) ≡ true → gap_size first c ≡ Some (cond first 0 1)
gap-known true c h = refl
gap-known false c h = rw h

-- nothing stands behind the last character
pub token-past : (first : Bool) (s : List ℕ) (at : ℕ) → length s ≤ at → wrong ≡ and_read (token_at first (drop at s)) shaped
unfolding token_at
token-past first s at h = rw (drop_of_length-le s h)
