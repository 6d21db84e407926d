-- The next token of a text that is read token by token.
use Prim.Native.Nat.{ℕ, zero, suc, ◌+◌, ◌≤◌, ◌<◌}
use mathlib.Core.Path.{◌≡◌, refl, sym, ap, ◌∙◌}
use mathlib.Core.Bool.{Bool, true, false, cond}
use mathlib.Core.List.{List, [], ◌∷◌}
use mathlib.Core.Option.{Option, some}
use mathlib.Core.Option as option
use native.Mathlib.Omega.{arith}
use lib.Dec.{eqb}
use lib.ListN.{length, get_or, take, drop, length-drop}
use lib.Seq.{drop-drop}
use borrow.Author.Tests.{eqb-true, eq-eqb, ne_eqb}
use Rattle.digits.specs.Read.{Read, got, wrong, and_read}
use Rattle.digits.proofs.Judging.{Judged, judged-got, judged-all, judged-test, judged-read}
use Rattle.list.specs.Tree.{Value}
use Rattle.text.specs.Text.{value_text}
use Rattle.text.specs.Read.{value_at}
use Rattle.text.specs.Tokens.{Token, opening, closing, item, opens, item_token, element_at, spaced, token_at, token_then, tokens_at}
use Rattle.text.proofs.Values.{value-sound, value-first, value-some}
use Rattle.text.proofs.Characters.{tokens-got, tokens-wrong, token-counts}
use Rattle.text_value.proofs.Decimals.{drop-next, first_char}

-- the tokens behind the first
record Behind (s : List ℕ) (t : Token) (n : ℕ) (ts : List Token) : Type 0 where
  ts' : List Token
  is : ts ≡ t ∷ ts'
  left : tokens_at (opens t) 0 (drop n s) ≡ some ts'

tokens-behind : (first : Bool) (s : List ℕ) (t : Token) (n : ℕ) (ts : List Token) → token_at first s ≡ got t n → 1 ≤ n → tokens_at first 0 s ≡ some ts → Behind s t n ts
tokens-behind first s t n ts g k h = go (tokens_at (opens t) 0 (drop n s)) refl (sym (tokens-got first s t n g k) ∙ h)
  where
    go : (o : Option (List Token)) → tokens_at (opens t) 0 (drop n s) ≡ o → token_then t o ≡ some ts → Behind s t n ts
    go (some us) e f = record { ts' = us; is = cc; left = e }
    go option.none e f = absurd (let z : ◌≡◌ {A = ℕ} 0 1 = cc in omega arith)

-- no element starts with a space
space-first : (s : List ℕ) (n : ℕ) (v : Value) → take n (32 ∷ s) ≡ value_text v → 1 ≤ n → get_or (value_text v) 0 0 ≡ 32
space-first s zero v e k = absurd (omega arith)
space-first s (suc n) v e k = sym (ap (λ (l : List ℕ). get_or l 0 0) e)

no-space : (s : List ℕ) → Judged (λ t n. ⊥) (element_at (32 ∷ s))
unfolding element_at
no-space s =
    judged-read (λ t n. ⊥) (value_at (32 ∷ s)) item_token (λ v n e.
    let w = value-sound (32 ∷ s) v n e in
    (value-first v w.0 w.1).0 (space-first s n v w.2 (omega (arith, w.3, value-some v))))

-- an element has a character, and no more than there are
element-counts : (s : List ℕ) → Judged (λ t n. (1 ≤ n) × (n ≤ length s)) (element_at s)
unfolding element_at
element-counts [] = tt
element-counts (c ∷ s) =
    judged-test (λ t n. (1 ≤ n) × (n ≤ suc (length s))) (eqb c 40) _ _
    (λ e. (omega arith, omega arith))
    (λ e. judged-read (λ t n. (1 ≤ n) × (n ≤ suc (length s))) (value_at (c ∷ s)) item_token (λ v n q.
    let w = value-sound (c ∷ s) v n q in
    (omega (arith, w.3, value-some v), omega (arith, w.4))))

-- how many characters the space before an element has
abbrev space : ℕ → ℕ
space c = cond (eqb c 32) 1 0

record Element (c : ℕ) (s : List ℕ) (t : Token) (n : ℕ) : Type 0 where
  size : ℕ
  there : element_at (drop (space c) (c ∷ s)) ≡ got t size
  is : n ≡ space c + size

element-read : (first : Bool) (c : ℕ) (s : List ℕ) → eqb c 41 ≡ false → Judged (Element c s) (token_at first (c ∷ s))
unfolding token_at
element-read true c s h = rw h (go (eqb c 32) refl)
  where
    go : (b : Bool) → eqb c 32 ≡ b → Judged (Element c s) (element_at (c ∷ s))
    go true e =
        let q : c ≡ 32 = eqb-true c 32 e in
        judged-all (Element c s) (element_at (c ∷ s)) (λ t n g.
        absurd (judged-got (λ t n. ⊥) (element_at (32 ∷ s)) t n (no-space s) (ap (λ (k : ℕ). element_at (k ∷ s)) (sym q) ∙ g)))
    go false e = judged-all (Element c s) (element_at (c ∷ s)) (λ t n g. record { size = n; there = rw e g; is = rw e (omega arith) })
element-read false c s h =
    rw h
    (judged-test (Element c s) (eqb c 32) _ _
    (λ e. judged-read (Element c s) (element_at s) spaced (λ t n g. record { size = n; there = rw e g; is = rw e (omega arith) }))
    (λ e. tt))

-- THE NEXT ELEMENT, behind the space before it if there is one: its first token, and the tokens behind that
pub record Next (text : List ℕ) (at : ℕ) (ts : List Token) : Type 0 where
  pub token : Token
  pub size : ℕ
  pub ts' : List Token
  pub there : element_at (drop at text) ≡ got token size
  pub some-chars : 1 ≤ size
  pub inside : at + size ≤ length text
  pub is : ts ≡ token ∷ ts'
  pub left : tokens_at (opens token) 0 (drop (at + size) text) ≡ some ts'

module _ (first : Bool) (text : List ℕ) (pos : ℕ) (ts : List Token) (some_left : pos < length text) (h : tokens_at first 0 (drop pos text) ≡ some ts) where
  abbrev c : ℕ
  c = get_or text pos 0

  abbrev s : List ℕ
  s = drop (pos + 1) text

  here : tokens_at first 0 (c ∷ s) ≡ some ts
  here = rw (drop-next text pos some_left) at h

  behind : (k : ℕ) → drop k (c ∷ s) ≡ drop (pos + k) text
  behind k = ap (drop k) (sym (drop-next text pos some_left)) ∙ drop-drop k pos text

  -- what is no closing bracket is an element
  pub next-element : eqb c 41 ≡ false → Next text (cond (eqb c 32) (pos + 1) pos) ts
  next-element other = go (token_at first (c ∷ s)) refl
    where
      at-is : (b : Bool) → cond b (pos + 1) pos ≡ pos + cond b 1 0
      at-is true = refl
      at-is false = omega arith

      go : (r : Read Token) → token_at first (c ∷ s) ≡ r → Next text (cond (eqb c 32) (pos + 1) pos) ts
      go wrong e = absurd (let f = sym (tokens-wrong first c s e) ∙ here in let z : ◌≡◌ {A = ℕ} 0 1 = cc in omega arith)
      go (got t n) e =
          let w = judged-got (Element c s) (token_at first (c ∷ s)) t n (element-read first c s other) e in
          let k : ℕ = space c in
          let b = tokens-behind first (c ∷ s) t n ts e (token-counts first (c ∷ s) t n e).0 here in
          let there : element_at (drop (pos + k) text) ≡ got t w.size = ap element_at (sym (behind k)) ∙ w.there in
          let m = judged-got (λ t n. (1 ≤ n) × (n ≤ length (drop (pos + k) text))) (element_at (drop (pos + k) text)) t w.size (element-counts (drop (pos + k) text)) there in
          let q : pos + k + w.size ≡ pos + n = omega (arith, w.is) in
          rw (at-is (eqb c 32))
          (record {
            token = t;
            size = w.size;
            ts' = b.ts';
            there = there;
            some-chars = m.0;
            inside = omega (arith, m.0, m.1, length-drop (pos + k) text);
            is = b.is;
            left = rw (q, ← behind n) b.left;
          })

  -- a closing bracket, and the tokens behind it
  pub next-closing : c ≡ 41 → (us : List Token) × (ts ≡ closing ∷ us) × (tokens_at false 0 (drop (pos + 1) text) ≡ some us)
  unfolding token_at
  next-closing e =
      let g : token_at first (c ∷ s) ≡ got closing 1 = rw (eq-eqb c 41 e) in
      let b = tokens-behind first (c ∷ s) closing 1 ts g (omega arith) here in
      (b.ts', b.is, b.left)

-- an opening bracket, or a value
element-cases : (s : List ℕ) (t : Token) (n : ℕ) → element_at s ≡ got t n
    → (get_or s 0 0 ≡ 40 → (t ≡ opening) × (n ≡ 1)) × ((get_or s 0 0 ≡ 40 → ⊥) → (v : Value) × (t ≡ item v) × (value_at s ≡ got v n))
unfolding element_at
element-cases [] t n h = absurd (let z : ◌≡◌ {A = ℕ} 0 1 = cc in omega arith)
element-cases (c ∷ s) t n h = (opened, valued)
  where
    opened : c ≡ 40 → (t ≡ opening) × (n ≡ 1)
    opened e = let g : got opening 1 ≡ got t n = rw (eq-eqb c 40 e) at h in (cc, cc)

    go : (r : Read Value) → value_at (c ∷ s) ≡ r → and_read r item_token ≡ got t n → (v : Value) × (t ≡ item v) × (value_at (c ∷ s) ≡ got v n)
    go (got v m) e f = let k : m ≡ n = cc in (v, cc, rw k at e)
    go wrong e f = absurd (let z : ◌≡◌ {A = ℕ} 0 1 = cc in omega arith)

    valued : (c ≡ 40 → ⊥) → (v : Value) × (t ≡ item v) × (value_at (c ∷ s) ≡ got v n)
    valued e = go (value_at (c ∷ s)) refl (rw (ne_eqb c 40 e) at h)

module _ {text : List ℕ} {at : ℕ} {ts : List Token} (x : Next text at ts) where
  pub next-opening : get_or text at 0 ≡ 40 → (x.token ≡ opening) × (x.size ≡ 1)
  next-opening e = (element-cases (drop at text) x.token x.size x.there).0 (first_char text at ∙ e)

  pub next-value : (get_or text at 0 ≡ 40 → ⊥) → (v : Value) × (x.token ≡ item v) × (value_at (drop at text) ≡ got v x.size)
  next-value e = (element-cases (drop at text) x.token x.size x.there).1 (λ f. e (sym (first_char text at) ∙ f))
