-- Tokens and trees: the tokens of a list are matched to that list, and tokens that are matched to a list are its tokens.
use mathlib.Core.Path.{◌≡◌, refl, sym, ap, ◌∙◌}
use mathlib.Core.List.{List, [], ◌∷◌, ◌++◌, append_assoc, append-nil}
use mathlib.Core.Option.{Option, some}
use mathlib.Core.Option as option
use native.Mathlib.Omega.{arith}
use Prim.Native.Nat.{ℕ}
use Rattle.list.specs.Tree.{Elements, none, value, list}
use Rattle.text.specs.Tokens.{Token, opening, closing, item, tokens_of}
use Rattle.text.specs.Reading.{before, forests, whole}

-- elements in front of others
abbrev pub joined : Elements → Elements → Elements
joined none fs = fs
joined (value v es) fs = value v (joined es fs)
joined (list inner es) fs = list inner (joined es fs)

pub joined-none : (es : Elements) → joined es none ≡ es
joined-none none = refl
joined-none (value v es) = ap (value v) (joined-none es)
joined-none (list inner es) = ap (list inner) (joined-none es)

-- the tokens of elements in front of any others
pub forests-before : (es f : Elements) (fs : List Elements) (ts : List Token) → forests ts ≡ some (f ∷ fs) → forests (tokens_of es ++ ts) ≡ some (joined es f ∷ fs)
unfolding forests
forests-before none f fs ts h = h
forests-before (value v es) f fs ts h = rw (forests-before es f fs ts h)
forests-before (list inner es) f fs ts h =
    let behind : forests (closing ∷ (tokens_of es ++ ts)) ≡ some (none ∷ joined es f ∷ fs) = rw (forests-before es f fs ts h) in
    rw (append_assoc (tokens_of inner) (closing ∷ tokens_of es) ts, forests-before inner none (joined es f ∷ fs) (closing ∷ (tokens_of es ++ ts)) behind, joined-none inner)

-- the tokens of a list are matched to it
pub forests-tree : (es : Elements) → forests (tokens_of es) ≡ some (es ∷ [])
unfolding forests
forests-tree es =
    ap forests (sym (append-nil (tokens_of es))) ∙ forests-before es none [] [] refl ∙ ap (λ (f : Elements). some (f ∷ [])) (joined-none es)

-- the tokens of forests behind the first, each behind its closing bracket
abbrev pub tokens_behind : List Elements → List Token
tokens_behind [] = []
tokens_behind (f ∷ fs) = closing ∷ (tokens_of f ++ tokens_behind fs)

-- tokens are those of the forests that were matched
abbrev Spelt : List Token → Option (List Elements) → Type 0
Spelt ts option.none = Unit {0}
Spelt ts (some []) = ⊥
Spelt ts (some (f ∷ fs)) = ts ≡ tokens_of f ++ tokens_behind fs

spelt-before : (t : Token) (ts : List Token) (o : Option (List Elements)) → Spelt ts o → Spelt (t ∷ ts) (before t o)
spelt-before (item v) ts option.none h = tt
spelt-before closing ts option.none h = tt
spelt-before opening ts option.none h = tt
spelt-before (item v) ts (some []) h = absurd h
spelt-before closing ts (some []) h = absurd h
spelt-before opening ts (some []) h = absurd h
spelt-before (item v) ts (some (f ∷ fs)) h = ap (λ (l : List Token). item v ∷ l) h
spelt-before closing ts (some (f ∷ fs)) h = ap (λ (l : List Token). closing ∷ l) h
spelt-before opening ts (some (inner ∷ [])) h = tt
spelt-before opening ts (some (inner ∷ f ∷ fs)) h =
    ap (λ (l : List Token). opening ∷ l) (h ∙ sym (append_assoc (tokens_of inner) (closing ∷ tokens_of f) (tokens_behind fs)))

spelt : (ts : List Token) → Spelt ts (forests ts)
unfolding forests
spelt [] = refl
spelt (t ∷ ts) = spelt-before t ts (forests ts) (spelt ts)

-- tokens that are matched to forests are the forests' tokens, with a closing bracket before each but the first
pub forests-spelt : (ts : List Token) (f : Elements) (fs : List Elements) → forests ts ≡ some (f ∷ fs) → ts ≡ tokens_of f ++ tokens_behind fs
forests-spelt ts f fs h = rw h at (spelt ts)

-- tokens that are matched to a list are its tokens
pub tree-forests : (ts : List Token) (es : Elements) → whole (forests ts) ≡ some es → ts ≡ tokens_of es
tree-forests ts es = go (forests ts) (spelt ts)
  where
    go : (o : Option (List Elements)) → Spelt ts o → whole o ≡ some es → ts ≡ tokens_of es
    go option.none s h = absurd (let z : ◌≡◌ {A = ℕ} 0 1 = cc in omega arith)
    go (some []) s h = absurd s
    go (some (f ∷ [])) s h = let e : f ≡ es = cc in s ∙ append-nil (tokens_of f) ∙ ap tokens_of e
    go (some (f ∷ g ∷ fs)) s h = absurd (let z : ◌≡◌ {A = ℕ} 0 1 = cc in omega arith)
