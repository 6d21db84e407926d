-- Characters and tokens: the characters of tokens are read as those tokens, and characters that are read as tokens are theirs.
use Prim.Native.Nat.{ℕ, zero, suc, ◌-◌, ◌≤◌}
use mathlib.Core.Path.{◌≡◌, refl, sym, ap, ◌∙◌}
use mathlib.Core.Bool.{Bool, true, false, cond}
use mathlib.Core.List.{List, [], ◌∷◌, ◌++◌, append_assoc, append-nil}
use mathlib.Core.Option.{Option, some}
use mathlib.Core.Option as option
use native.Mathlib.Omega.{arith}
use lib.Dec.{eqb}
use lib.ListN.{length, get_or, take, drop, take-append-drop}
use lib.Seq.{drop_at}
use borrow.Author.Tests.{eqb-true, ne_eqb}
use Rattle.digits.specs.Read.{Read, got, wrong, and_read}
use Rattle.digits.specs.Decimal.{is_decimal}
use Rattle.digits.proofs.Judging.{Judged, judged-test, judged-read}
use Rattle.list.specs.Tree.{Value, Elements, none, value, list}
use Rattle.list.specs.Legal.{LegalValue}
use Rattle.text.specs.Text.{gap, value_text, elements_text}
use Rattle.text.specs.Form.{has_form, WithText}
use Rattle.text.specs.Read.{value_at}
use Rattle.text.specs.Tokens.{Token, opening, closing, item, opens, item_token, element_at, spaced, token_at, token_then, tokens_then, tokens_at, tokens_of}
use Rattle.text.proofs.Values.{value_read, value-sound, value-some, value-first}

-- the characters of a token, with the space before it; `first` where an element would be its list's first
abbrev pub token_text : Bool → Token → List ℕ
token_text first opening = gap first ++ (40 ∷ [])
token_text first closing = 41 ∷ []
token_text first (item v) = gap first ++ value_text v

-- the characters of tokens
abbrev pub tokens_text : Bool → List Token → List ℕ
tokens_text first [] = []
tokens_text first (opening ∷ ts) = gap first ++ (40 ∷ tokens_text true ts)
tokens_text first (closing ∷ ts) = 41 ∷ tokens_text false ts
tokens_text first (item v ∷ ts) = gap first ++ (value_text v ++ tokens_text false ts)

pub tokens-cons : (first : Bool) (t : Token) (ts : List Token) → tokens_text first (t ∷ ts) ≡ token_text first t ++ tokens_text (opens t) ts
tokens-cons true opening ts = refl
tokens-cons false opening ts = refl
tokens-cons first closing ts = refl
tokens-cons true (item v) ts = refl
tokens-cons false (item v) ts = refl

-- whether an element behind others would be its list's first
abbrev first_behind : Bool → Elements → Bool
first_behind first none = first
first_behind first (value v es) = false
first_behind first (list inner es) = false

first-behind : (es : Elements) → first_behind false es ≡ false
first-behind none = refl
first-behind (value v es) = refl
first-behind (list inner es) = refl

-- the text of elements is the characters of their tokens, whatever tokens stand behind them
elements-before : (first : Bool) (es : Elements) (ts : List Token) → tokens_text first (tokens_of es ++ ts) ≡ elements_text first es ++ tokens_text (first_behind first es) ts
elements-before first none ts = refl
elements-before first (value v es) ts =
    let rest : List ℕ = tokens_text false ts in
    rw (
      elements-before false es ts,
      first-behind es,
      append_assoc (gap first) (value_text v ++ elements_text false es) rest,
      append_assoc (value_text v) (elements_text false es) rest,
    )
elements-before first (list inner es) ts =
    let rest : List ℕ = tokens_text false ts in
    rw (
      append_assoc (tokens_of inner) (closing ∷ tokens_of es) ts,
      elements-before true inner (closing ∷ (tokens_of es ++ ts)),
      elements-before false es ts,
      first-behind es,
      append_assoc (gap first) (40 ∷ (elements_text true inner ++ (41 ∷ elements_text false es))) rest,
      append_assoc (elements_text true inner) (41 ∷ elements_text false es) rest,
    )

-- the text of elements is the characters of their tokens
pub elements-tokens : (first : Bool) (es : Elements) → elements_text first es ≡ tokens_text first (tokens_of es)
elements-tokens first es =
    sym (append-nil (elements_text first es)) ∙ sym (elements-before first es []) ∙ ap (tokens_text first) (append-nil (tokens_of es))

-- tokens whose values are legal and have a text form
abbrev pub Readable : Token → Type 0
Readable opening = Unit {0}
Readable closing = Unit {0}
Readable (item v) = LegalValue v × (has_form v ≡ true)

abbrev pub AllReadable : List Token → Type 0
AllReadable [] = Unit {0}
AllReadable (t ∷ ts) = Readable t × AllReadable ts

readable-join : (ts us : List Token) → AllReadable ts → AllReadable us → AllReadable (ts ++ us)
readable-join [] us h k = k
readable-join (t ∷ ts) us h k = (h.0, readable-join ts us h.1 k)

readable-split : (ts us : List Token) → AllReadable (ts ++ us) → AllReadable ts × AllReadable us
readable-split [] us h = (tt, h)
readable-split (t ∷ ts) us h = let r = readable-split ts us h.1 in ((h.0, r.0), r.1)

-- a list has a text where its tokens' values are legal and have a text form
pub with-text-tokens : (es : Elements) → WithText es → AllReadable (tokens_of es)
with-text-tokens none w = tt
with-text-tokens (value v es) w = ((w.0, w.1), with-text-tokens es w.2)
with-text-tokens (list inner es) w =
    (tt, readable-join (tokens_of inner) (closing ∷ tokens_of es) (with-text-tokens inner w.0) (tt, with-text-tokens es w.1))

pub tokens-with-text : (es : Elements) → AllReadable (tokens_of es) → WithText es
tokens-with-text none h = tt
tokens-with-text (value v es) h = (h.0.0, h.0.1, tokens-with-text es h.1)
tokens-with-text (list inner es) h =
    let r = readable-split (tokens_of inner) (closing ∷ tokens_of es) h.1 in
    (tokens-with-text inner r.0, tokens-with-text es r.1.1)

-- characters that were read already are passed over; where they are more than there are, both sides are no tokens
pub tokens-skip : (first : Bool) (k : ℕ) (s : List ℕ) → tokens_at first k s ≡ tokens_at first 0 (drop k s)
unfolding tokens_at
tokens-skip first zero s = refl
tokens-skip first (suc k) [] = refl
tokens-skip first (suc k) (c ∷ s) = tokens-skip first k s

-- the first token, then those behind it
pub tokens-step : (first : Bool) (c : ℕ) (s : List ℕ)
    → tokens_at first 0 (c ∷ s) ≡ tokens_then (λ next skip. tokens_at next 0 (drop (suc skip) (c ∷ s))) (token_at first (c ∷ s))
unfolding tokens_at
tokens-step first c s = go (token_at first (c ∷ s))
  where
    go : (r : Read Token) → tokens_then (λ next skip. tokens_at next skip s) r ≡ tokens_then (λ next skip. tokens_at next 0 (drop skip s)) r
    go (got t n) = ap (token_then t) (tokens-skip (opens t) (n - 1) s)
    go wrong = refl

-- no characters have no token
pub token-none : (first : Bool) → token_at first [] ≡ wrong
unfolding token_at
token-none first = refl

pub tokens_none : (first : Bool) → tokens_at first 0 [] ≡ some []
unfolding tokens_at
tokens_none first = refl

-- a token of n characters at the front
pub tokens-got : (first : Bool) (s : List ℕ) (t : Token) (n : ℕ) → token_at first s ≡ got t n → 1 ≤ n
    → tokens_at first 0 s ≡ token_then t (tokens_at (opens t) 0 (drop n s))
tokens-got first [] t n h k = absurd (let e = sym h ∙ token-none first in let z : ◌≡◌ {A = ℕ} 0 1 = cc in omega arith)
tokens-got first (c ∷ s) t n h k = let e : suc (n - 1) ≡ n = omega arith in
    tokens-step first c s ∙ ap (tokens_then (λ next skip. tokens_at next 0 (drop (suc skip) (c ∷ s)))) h
    ∙ ap (λ (m : ℕ). token_then t (tokens_at (opens t) 0 (drop m (c ∷ s)))) e

-- no token at the front
pub tokens-wrong : (first : Bool) (c : ℕ) (s : List ℕ) → token_at first (c ∷ s) ≡ wrong → tokens_at first 0 (c ∷ s) ≡ option.none
tokens-wrong first c s h = tokens-step first c s ∙ ap (tokens_then (λ next skip. tokens_at next 0 (drop (suc skip) (c ∷ s)))) h

-- behind a value a space, a closing bracket or nothing stands
behind-value : (ts : List Token) → (is_decimal (get_or (tokens_text false ts) 0 0) ≡ false) × (eqb (get_or (tokens_text false ts) 0 0) 120 ≡ false)
unfolding is_decimal
behind-value [] = (refl, refl)
behind-value (opening ∷ ts) = (refl, refl)
behind-value (closing ∷ ts) = (refl, refl)
behind-value (item v ∷ ts) = (refl, refl)

-- a value's characters are read as an element
element-read : (v : Value) (s : List ℕ) → Readable (item v) → is_decimal (get_or s 0 0) ≡ false → eqb (get_or s 0 0) 120 ≡ false
    → element_at (value_text v ++ s) ≡ got (item v) (length (value_text v))
unfolding element_at
element-read v s h d x = go (value_text v) refl
  where
    go : (cs : List ℕ) → value_text v ≡ cs → element_at (cs ++ s) ≡ got (item v) (length cs)
    go [] e = absurd (let n : length (value_text v) ≡ 0 = ap length e in omega (arith, value-some v))
    go (c ∷ cs) e =
        let f : get_or (value_text v) 0 0 ≡ c = ap (λ (l : List ℕ). get_or l 0 0) e in
        let r : value_at (c ∷ (cs ++ s)) ≡ got v (suc (length cs)) = rw e at (value_read v s h.0 h.1 d x) in
        rw (ne_eqb c 40 (λ q. (value-first v h.0 h.1).1 (f ∙ q)), r)

-- and as a token where it is its list's first element
first_read : (v : Value) (s : List ℕ) → Readable (item v) → is_decimal (get_or s 0 0) ≡ false → eqb (get_or s 0 0) 120 ≡ false
    → token_at true (value_text v ++ s) ≡ got (item v) (length (value_text v))
unfolding token_at
first_read v s h d x = go (value_text v) refl
  where
    go : (cs : List ℕ) → value_text v ≡ cs → token_at true (cs ++ s) ≡ got (item v) (length cs)
    go [] e = absurd (let n : length (value_text v) ≡ 0 = ap length e in omega (arith, value-some v))
    go (c ∷ cs) e =
        let f : get_or (value_text v) 0 0 ≡ c = ap (λ (l : List ℕ). get_or l 0 0) e in
        let r : element_at (c ∷ (cs ++ s)) ≡ got (item v) (suc (length cs)) = rw e at (element-read v s h d x) in
        rw (ne_eqb c 41 (λ q. (value-first v h.0 h.1).2 (f ∙ q)), r)

-- a token's characters are read as that token, whatever tokens stand behind it
pub token-read : (first : Bool) (t : Token) (ts : List Token) → Readable t
    → token_at first (token_text first t ++ tokens_text (opens t) ts) ≡ got t (length (token_text first t))
unfolding token_at element_at
token-read true opening ts h = refl
token-read false opening ts h = refl
token-read first closing ts h = refl
token-read true (item v) ts h = let b = behind-value ts in first_read v (tokens_text false ts) h b.0 b.1
token-read false (item v) ts h = let b = behind-value ts in rw (element-read v (tokens_text false ts) h b.0 b.1)

-- a token has a character
pub token-some : (first : Bool) (t : Token) → 1 ≤ length (token_text first t)
token-some true opening = omega arith
token-some false opening = omega arith
token-some first closing = omega arith
token-some true (item v) = value-some v
token-some false (item v) = omega arith

-- the characters of tokens are read as those tokens
pub tokens-read : (first : Bool) (ts : List Token) → AllReadable ts → tokens_at first 0 (tokens_text first ts) ≡ some ts
tokens-read first [] h = tokens_none first
tokens-read first (t ∷ ts) h =
    let x : List ℕ = token_text first t in
    let y : List ℕ = tokens_text (opens t) ts in
    rw (
      tokens-cons first t ts,
      tokens-got first (x ++ y) t (length x) (token-read first t ts h.0) (token-some first t),
      drop_at x y (length x) refl,
      tokens-read (opens t) ts h.1,
    )

-- the front of characters is a token's text
record IsToken (first : Bool) (s : List ℕ) (t : Token) (n : ℕ) : Type 0 where
  some-chars : 1 ≤ n
  inside : n ≤ length s
  chars : take n s ≡ token_text first t
  readable : Readable t

-- how many characters a token has with the space before it
abbrev with_gap : Bool → ℕ → ℕ
with_gap true n = n
with_gap false n = suc n

-- characters behind the space that a token needs
gap-before : (first : Bool) (s : List ℕ) (t : Token) (n : ℕ) (x : List ℕ) → token_text first t ≡ gap first ++ x
    → 1 ≤ n → n ≤ length s → take n s ≡ x → Readable t → IsToken first (gap first ++ s) t (with_gap first n)
gap-before true s t n x e k i c r = record { some-chars = k; inside = i; chars = c ∙ sym e; readable = r }
gap-before false s t n x e k i c r = record { some-chars = omega arith; inside = omega arith; chars = ap (λ (l : List ℕ). 32 ∷ l) c ∙ sym e; readable = r }

element-judged : (first : Bool) (s : List ℕ) → Judged (λ t n. IsToken first (gap first ++ s) t (with_gap first n)) (element_at s)
unfolding element_at
element-judged first [] = tt
element-judged first (c ∷ s) =
    judged-test (λ t n. IsToken first (gap first ++ (c ∷ s)) t (with_gap first n)) (eqb c 40) (got opening 1) (and_read (value_at (c ∷ s)) item_token)
    (λ e. gap-before first (c ∷ s) opening 1 (40 ∷ []) refl (omega arith) (omega arith) (ap (λ (k : ℕ). k ∷ []) (eqb-true c 40 e)) tt)
    (λ e. judged-read (λ t n. IsToken first (gap first ++ (c ∷ s)) t (with_gap first n)) (value_at (c ∷ s)) item_token (λ v n r.
    let w = value-sound (c ∷ s) v n r in
    gap-before first (c ∷ s) (item v) n (value_text v) refl (omega (arith, value-some v, w.3)) w.4 w.2 (w.0, w.1)))

token-judged : (first : Bool) (s : List ℕ) → Judged (IsToken first s) (token_at first s)
unfolding token_at
token-judged first [] = tt
token-judged first (c ∷ s) = judged-test (IsToken first (c ∷ s)) (eqb c 41) (got closing 1) _ (λ e. closes first e) (λ e. other first)
  where
    closes : (f : Bool) → eqb c 41 ≡ true → IsToken f (c ∷ s) closing 1
    closes f e = record { some-chars = omega arith; inside = omega arith; chars = ap (λ (k : ℕ). k ∷ []) (eqb-true c 41 e); readable = tt }

    other : (f : Bool) → Judged (IsToken f (c ∷ s)) (cond f (element_at (c ∷ s)) (cond (eqb c 32) (and_read (element_at s) spaced) wrong))
    other true = element-judged true (c ∷ s)
    other false =
        judged-test (IsToken false (c ∷ s)) (eqb c 32) (and_read (element_at s) spaced) wrong
        (λ e. rw (eqb-true c 32 e) (judged-read (IsToken false (32 ∷ s)) (element_at s) spaced (λ t n r. rw r at (element-judged false s))))
        (λ e. tt)

-- a token that is read: its characters are those at the front
pub token-sound : (first : Bool) (s : List ℕ) (t : Token) (n : ℕ) → token_at first s ≡ got t n
    → (s ≡ token_text first t ++ drop n s) × (1 ≤ n) × (n ≤ length s) × Readable t
token-sound first s t n h =
    let w : IsToken first s t n = rw h at (token-judged first s) in
    (sym (take-append-drop n s) ∙ ap (λ (l : List ℕ). l ++ drop n s) w.chars, w.some-chars, w.inside, w.readable)

-- a token that is read has a character, and no more than there are
pub token-counts : (first : Bool) (s : List ℕ) (t : Token) (n : ℕ) → token_at first s ≡ got t n → (1 ≤ n) × (n ≤ length s)
token-counts first s t n h = let w = token-sound first s t n h in (w.1, w.2)

-- characters that are read as tokens, the first `skip` passed over
tokens-behind : (s : List ℕ) (first : Bool) (skip : ℕ) (ts : List Token) → skip ≤ length s → tokens_at first skip s ≡ some ts
    → (drop skip s ≡ tokens_text first ts) × AllReadable ts
unfolding tokens_at
tokens-behind [] first zero [] k h = (refl, tt)
tokens-behind [] first zero (t ∷ ts) k h = absurd (let z : ◌≡◌ {A = ℕ} 0 1 = cc in omega arith)
tokens-behind [] first (suc skip) ts k h = absurd (omega arith)
tokens-behind (c ∷ s) first (suc skip) ts k h = tokens-behind s first skip ts (omega arith) h
tokens-behind (c ∷ s) first zero ts k h = go (token_at first (c ∷ s)) refl (tokens-behind s) h
  where
    more : (t : Token) (n : ℕ) (o : Option (List Token)) → token_at first (c ∷ s) ≡ got t n
        → ((us : List Token) → o ≡ some us → (drop n (c ∷ s) ≡ tokens_text (opens t) us) × AllReadable us)
        → token_then t o ≡ some ts → (c ∷ s ≡ tokens_text first ts) × AllReadable ts
    more t n option.none e f h = absurd (let z : ◌≡◌ {A = ℕ} 0 1 = cc in omega arith)
    more t n (some us) e f h =
        let q : t ∷ us ≡ ts = cc in
        let w = token-sound first (c ∷ s) t n e in
        let r = f us refl in
        rw (sym q)
        ((w.0 ∙ ap (λ (l : List ℕ). token_text first t ++ l) r.0 ∙ sym (tokens-cons first t us), (w.3, r.1)))

    go : (r : Read Token) → token_at first (c ∷ s) ≡ r
        → ((next : Bool) (skip : ℕ) (us : List Token) → skip ≤ length s → tokens_at next skip s ≡ some us → (drop skip s ≡ tokens_text next us) × AllReadable us)
        → tokens_then (λ next skip. tokens_at next skip s) r ≡ some ts → (c ∷ s ≡ tokens_text first ts) × AllReadable ts
    go wrong e f h = absurd (let z : ◌≡◌ {A = ℕ} 0 1 = cc in omega arith)
    go (got t n) e f h =
        let w = token-counts first (c ∷ s) t n e in
        let m : n ≡ suc (n - 1) = omega (arith, w.0) in
        more t n (tokens_at (opens t) (n - 1) s) e
        (λ us q. let r = f (opens t) (n - 1) us (omega (arith, w.1)) q in (ap (λ (k : ℕ). drop k (c ∷ s)) m ∙ r.0, r.1)) h

-- characters that are read as tokens are those tokens' characters, and their values are legal and have a text form
pub tokens-sound : (first : Bool) (s : List ℕ) (ts : List Token) → tokens_at first 0 s ≡ some ts → (s ≡ tokens_text first ts) × AllReadable ts
tokens-sound first s ts h = tokens-behind s first 0 ts (omega arith) h
