-- What is told of a list token by token: how deep it is, how many bytes it has, and whether its brackets match.
use Prim.Native.Nat.{ℕ, suc, ◌+◌, ◌-◌, ◌*◌, ◌≤◌, max}
use mathlib.Core.Path.{◌≡◌, refl, sym, ap, ◌∙◌}
use mathlib.Core.Bool.{Bool, true, false, cond}
use mathlib.Core.List.{List, [], ◌∷◌, ◌++◌, append_assoc, append-nil}
use mathlib.Core.Option.{Option, some}
use mathlib.Core.Option as option
use native.Mathlib.Omega.{arith}
use lib.Dec.{eqb, ltb}
use lib.ListN.{length, length-append}
use borrow.Author.Tests.{eqb-true, eqb-false, ne_eqb, eq-eqb}
use Rattle.list.specs.Limits.{list_limit, depth_limit}
use Rattle.list.specs.Kind.{code_of, list_code}
use Rattle.list.specs.Tree.{Value, Elements, none, value, list, kind, count}
use Rattle.list.specs.Bytes.{value_bytes, common, common_of, code_for, list_code_of, element_bytes, list_bytes}
use Rattle.list.proofs.Codes.{code-low}
use Rattle.list_rows.specs.Judge.{nested, depth, accepted, refused, fitting}
use Rattle.text.specs.Tokens.{Token, opening, closing, item, tokens_of}
use Rattle.text.specs.Reading.{before, forests, whole}
use Rattle.text.proofs.Matching.{tree-forests}
use Rattle.text_check.specs.Check.{judged, error_of}
use Rattle.text_check.specs.Tally.{Tally, tally, started, with_value, with_opening, with_closing, with_token, tallied}

-- CODES
-- behind an element of another kind, or behind a list, nothing makes a list one of one kind again
common-settled : (v : Value) → common list_code (code_of (kind v)) ≡ list_code
common-settled v = rw (ne_eqb list_code (code_of (kind v)) (λ e. omega (arith, (code-low (kind v)).1)))

settled : (es : Elements) → common_of list_code es ≡ list_code
settled none = refl
settled (value v es) = rw (common-settled v) (settled es)
settled (list inner es) = settled es

-- elements of one kind take the same bytes in each list of one kind
bytes-typed : (code : ℕ) → eqb code list_code ≡ false → (es : Elements) → element_bytes code es ≡ element_bytes 0 es
bytes-typed code h none = refl
bytes-typed code h (value v es) = rw (h, bytes-typed code h es)
bytes-typed code h (list inner es) = rw (bytes-typed code h es)

-- WHAT ELEMENTS ADD
-- the bytes that the codes behind the outermost elements take, while the list may still be one of one kind
abbrev pending_after : ℕ → ℕ → Elements → ℕ
pending_after seen pending es = cond (eqb (common_of seen es) list_code) 0 (pending + 4 * count es)

-- the bytes that elements add to the size
abbrev added : ℕ → ℕ → Elements → ℕ
added seen pending es = cond (eqb (common_of seen es) list_code) (pending + length (element_bytes list_code es)) (length (element_bytes 0 es))

-- what no element makes common, no element is there for
not-started : (seen : ℕ) (es : Elements) → (seen ≡ 0 → ⊥) → common_of seen es ≡ 0 → ⊥
not-started seen none h e = h e
not-started seen (value v es) h e = not-started (common seen (code_of (kind v))) es (go (eqb seen 0) (eqb seen (code_of (kind v)))) e
  where
    go : (a b : Bool) → cond a (code_of (kind v)) (cond b (code_of (kind v)) list_code) ≡ 0 → ⊥
    go true b q = omega (arith, (code-low (kind v)).0)
    go false true q = omega (arith, (code-low (kind v)).0)
    go false false q = omega arith
not-started seen (list inner es) h e = let z : ◌≡◌ {A = ℕ} 0 list_code = sym e ∙ settled es in omega arith

none_seen : (es : Elements) → common_of 0 es ≡ 0 → es ≡ none
none_seen none e = refl
none_seen (value v es) e = absurd (not-started (code_of (kind v)) es (λ q. omega (arith, (code-low (kind v)).0)) e)
none_seen (list inner es) e = absurd (not-started list_code es (λ q. omega arith) e)

-- a list of its own: its elements' bytes under its own code
added-own : (es : Elements) → added 0 0 es ≡ length (element_bytes (list_code_of es) es)
unfolding code_for
added-own es = go (eqb (common_of 0 es) 0) refl (eqb (common_of 0 es) list_code) refl
  where
    go : (a : Bool) → eqb (common_of 0 es) 0 ≡ a → (b : Bool) → eqb (common_of 0 es) list_code ≡ b
        → cond b (0 + length (element_bytes list_code es)) (length (element_bytes 0 es))
        ≡ length (element_bytes (cond a list_code (cond b list_code (list_code + common_of 0 es))) es)
    go true p true q = omega arith
    go true p false q = rw (none_seen es (eqb-true (common_of 0 es) 0 p))
    go false p true q = omega arith
    go false p false q =
        let z = eqb-false (common_of 0 es) 0 p in
        rw (bytes-typed (list_code + common_of 0 es) (ne_eqb (list_code + common_of 0 es) list_code (λ e. z (omega arith))) es)

-- the bytes of a value with its code
value-bytes : (v : Value) (es : Elements) → length (element_bytes list_code (value v es)) ≡ 4 + (length (value_bytes v) + length (element_bytes list_code es))
value-bytes v es = rw (length-append (value_bytes v) (element_bytes list_code es)) (omega arith)

value-typed : (v : Value) (es : Elements) → length (element_bytes 0 (value v es)) ≡ length (value_bytes v) + length (element_bytes 0 es)
value-typed v es = length-append (value_bytes v) (element_bytes 0 es)

list-added : (outer : ℕ) (inner es : Elements) → length (element_bytes outer (list inner es)) ≡ 8 + (added 0 0 inner + length (element_bytes outer es))
list-added outer inner es = rw (added-own inner, length-append (element_bytes (list_code_of inner) inner) (element_bytes outer es)) (omega arith)

-- a list that is settled to be of no one kind
pending-settled : (seen pending : ℕ) (es : Elements) → common_of seen es ≡ list_code → pending_after seen pending es ≡ 0
pending-settled seen pending es h = rw (eq-eqb (common_of seen es) list_code h)

added-settled : (seen pending : ℕ) (es : Elements) → common_of seen es ≡ list_code → added seen pending es ≡ pending + length (element_bytes list_code es)
added-settled seen pending es h = rw (eq-eqb (common_of seen es) list_code h)

-- THE TALLY THROUGH ELEMENTS
tallied-same : (ts : List Token) (d m seen pending size m' seen' pending' size' : ℕ) → m ≡ m' → seen ≡ seen' → pending ≡ pending' → size ≡ size'
    → tallied (tally d m seen pending size) ts ≡ tallied (tally d m' seen' pending' size') ts
tallied-same ts d m seen pending size m' seen' pending' size' a b c e = rw (a, b, c, e)

-- one token
tallied-one : (t : Tally) (token : Token) (ts : List Token) → 1 ≤ (with_token t token).depth → tallied t (token ∷ ts) ≡ tallied (with_token t token) ts
unfolding tallied
tallied-one t token ts h = rw (ne_eqb (with_token t token).depth 0 (λ e. omega arith))

-- a value that settles that its list is of no one kind, and one that leaves it open
pub value-settles : (t : Tally) (code payload : ℕ) → common t.seen code ≡ list_code
    → with_value t code payload ≡ tally t.depth t.deepest list_code 0 (t.size + (t.pending + 4 + payload))
unfolding with_value
value-settles t code payload h = rw (eq-eqb (common t.seen code) list_code h)

pub value-waits : (t : Tally) (code payload : ℕ) → eqb (common t.seen code) list_code ≡ false
    → with_value t code payload ≡ tally t.depth t.deepest (common t.seen code) (t.pending + 4) (t.size + payload)
unfolding with_value
value-waits t code payload h = rw h

value-depth : (t : Tally) (code payload : ℕ) → (with_value t code payload).depth ≡ t.depth
unfolding with_value
value-depth t code payload = go (eqb (common t.seen code) list_code)
  where
    go : (b : Bool) → (cond b
        (tally t.depth t.deepest list_code 0 (t.size + (t.pending + 4 + payload)))
        (tally t.depth t.deepest (common t.seen code) (t.pending + 4) (t.size + payload))).depth ≡ t.depth
    go true = refl
    go false = refl

opened : (d m seen pending size : ℕ) (ts : List Token)
    → tallied (tally d m seen pending size) (opening ∷ ts) ≡ tallied (tally (suc d) (max (suc d) m) 0 0 (size + (pending + 8))) ts
unfolding with_opening
opened d m seen pending size ts = tallied-one (tally d m seen pending size) opening ts (omega arith)

closed : (d m seen pending size : ℕ) (ts : List Token) → 1 ≤ d
    → tallied (tally (suc d) m seen pending size) (closing ∷ ts) ≡ tallied (tally d m list_code 0 size) ts
unfolding with_closing
closed d m seen pending size ts h =
    let e : suc d - 1 ≡ d = omega arith in
    tallied-one (tally (suc d) m seen pending size) closing ts (omega arith) ∙ ap (λ (n : ℕ). tallied (tally n m list_code 0 size) ts) e

-- the tally behind elements, whatever tokens follow
pub tally-elements : (es : Elements) (ts : List Token) (d m seen pending size : ℕ) → 1 ≤ d → d ≤ m → (seen ≡ list_code → pending ≡ 0)
    → tallied (tally d m seen pending size) (tokens_of es ++ ts)
    ≡ tallied (tally d (max m (d + nested es)) (common_of seen es) (pending_after seen pending es) (size + added seen pending es)) ts
tally-elements none ts d m seen pending size k l z = go (eqb seen list_code) refl
  where
    go : (b : Bool) → eqb seen list_code ≡ b
        → tallied (tally d m seen pending size) ts ≡ tallied (tally d (max m (d + 0)) seen (cond b 0 (pending + 0)) (size + cond b (pending + 0) 0)) ts
    go true e =
        let p = z (eqb-true seen list_code e) in
        tallied-same ts d m seen pending size (max m (d + 0)) seen 0 (size + (pending + 0)) (omega arith) refl p (omega arith)
    go false e = tallied-same ts d m seen pending size (max m (d + 0)) seen (pending + 0) (size + 0) (omega arith) refl (omega arith) (omega arith)
tally-elements (value v es) ts d m seen pending size k l z =
    tallied-one t (item v) (tokens_of es ++ ts) (rw (value-depth t code payload) k) ∙ go (eqb (common seen code) list_code) refl (tally-elements es ts d m)
  where
    code : ℕ
    code = code_of (kind v)

    payload : ℕ
    payload = length (value_bytes v)

    t : Tally
    t = tally d m seen pending size

    Rest : Type 0
    Rest =
        (seen' pending' size' : ℕ) → 1 ≤ d → d ≤ m → (seen' ≡ list_code → pending' ≡ 0)
        → tallied (tally d m seen' pending' size') (tokens_of es ++ ts)
        ≡ tallied (tally d (max m (d + nested es)) (common_of seen' es) (pending_after seen' pending' es) (size' + added seen' pending' es)) ts

    go : (b : Bool) → eqb (common seen code) list_code ≡ b → Rest
        → tallied (with_value t code payload) (tokens_of es ++ ts)
        ≡ tallied (tally d (max m (d + nested es)) (common_of seen (value v es)) (pending_after seen pending (value v es)) (size + added seen pending (value v es))) ts
    go true e rest =
        let q : common seen code ≡ list_code = eqb-true (common seen code) list_code e in
        let c : common_of seen (value v es) ≡ list_code = ap (λ (x : ℕ). common_of x es) q ∙ settled es in
        let a = added-settled seen pending (value v es) c in
        let b = added-settled list_code 0 es (settled es) in
        let n = value-bytes v es in
        ap (λ (x : Tally). tallied x (tokens_of es ++ ts)) (value-settles t code payload q)
        ∙ rest list_code 0 (size + (pending + 4 + payload)) k l (λ x. refl)
        ∙ tallied-same ts d (max m (d + nested es)) (common_of list_code es) (pending_after list_code 0 es) (size + (pending + 4 + payload) + added list_code 0 es)
        (max m (d + nested es)) (common_of seen (value v es)) (pending_after seen pending (value v es)) (size + added seen pending (value v es))
        refl (settled es ∙ sym c) (pending-settled list_code 0 es (settled es) ∙ sym (pending-settled seen pending (value v es) c)) (omega arith)
    go false e rest =
        let w = go-waits (eqb (common_of (common seen code) es) list_code) in
        ap (λ (x : Tally). tallied x (tokens_of es ++ ts)) (value-waits t code payload e)
        ∙ rest (common seen code) (pending + 4) (size + payload) k l (λ x. absurd (eqb-false (common seen code) list_code e x))
        ∙ tallied-same ts d (max m (d + nested es)) (common_of (common seen code) es) (pending_after (common seen code) (pending + 4) es)
        (size + payload + added (common seen code) (pending + 4) es)
        (max m (d + nested es)) (common_of seen (value v es)) (pending_after seen pending (value v es)) (size + added seen pending (value v es))
        refl refl w.0 w.1
      where
        go-waits : (b : Bool)
            → (cond b 0 (pending + 4 + 4 * count es) ≡ cond b 0 (pending + 4 * suc (count es)))
            × (size + payload + cond b (pending + 4 + length (element_bytes list_code es)) (length (element_bytes 0 es))
            ≡ size + cond b (pending + length (element_bytes list_code (value v es))) (length (element_bytes 0 (value v es))))
        go-waits true = (refl, omega (arith, value-bytes v es))
        go-waits false = (omega arith, omega (arith, value-typed v es))
tally-elements (list inner es) ts d m seen pending size k l z =
    let behind : List Token = closing ∷ (tokens_of es ++ ts) in
    let m₁ : ℕ = max (suc d) m in
    let m₂ : ℕ = max m₁ (suc d + nested inner) in
    let s₁ : ℕ = size + (pending + 8) in
    let s₂ : ℕ = s₁ + added 0 0 inner in
    let a = added-settled seen pending (list inner es) (settled es) in
    let b = added-settled list_code 0 es (settled es) in
    let n = list-added list_code inner es in
    ap (λ (x : List Token). tallied (tally d m seen pending size) (opening ∷ x)) (append_assoc (tokens_of inner) (closing ∷ tokens_of es) ts)
    ∙ opened d m seen pending size (tokens_of inner ++ behind)
    ∙ tally-elements inner behind (suc d) m₁ 0 0 s₁ (omega arith) (omega arith) (λ x. refl)
    ∙ closed d m₂ (common_of 0 inner) (pending_after 0 0 inner) s₂ (tokens_of es ++ ts) k
    ∙ tally-elements es ts d m₂ list_code 0 s₂ k (omega arith) (λ x. refl)
    ∙ tallied-same ts d (max m₂ (d + nested es)) (common_of list_code es) (pending_after list_code 0 es) (s₂ + added list_code 0 es)
    (max m (d + nested (list inner es))) (common_of list_code es) (pending_after seen pending (list inner es)) (size + added seen pending (list inner es))
    (omega arith) refl (pending-settled list_code 0 es (settled es) ∙ sym (pending-settled seen pending (list inner es) (settled es))) (omega arith)

-- the tally of a list: its depth, and the number of its bytes
pub tally-tree : (es : Elements) → tallied started (tokens_of es) ≡ some (tally 1 (depth es) (common_of 0 es) (pending_after 0 0 es) (length (list_bytes es)))
unfolding tallied list_bytes
tally-tree es =
    ap (tallied started) (sym (append-nil (tokens_of es))) ∙ tally-elements es [] 1 1 0 0 8 (omega arith) (omega arith) (λ x. refl)
    ∙ tallied-same [] 1 (max 1 (1 + nested es)) (common_of 0 es) (pending_after 0 0 es) (8 + added 0 0 es)
    (depth es) (common_of 0 es) (pending_after 0 0 es) (length (list_bytes es)) (omega arith) refl refl (rw (added-own es) (omega arith))

-- BRACKETS
-- forests that were found, as many as lists are open
abbrev Found : ℕ → Option (List Elements) → Type 0
Found n option.none = ⊥
Found n (some fs) = length fs ≡ n

found_before : (token : Token) (t : Tally) (o : Option (List Elements)) → 1 ≤ t.depth → 1 ≤ (with_token t token).depth → Found (with_token t token).depth o
    → Found t.depth (before token o)
unfolding with_opening with_closing
found_before opening t option.none k l h = h
found_before closing t option.none k l h = h
found_before (item v) t option.none k l h = h
found_before opening t (some []) k l h = absurd (omega arith)
found_before opening t (some (f ∷ [])) k l h = absurd (omega arith)
found_before opening t (some (f ∷ g ∷ fs)) k l h = omega arith
found_before closing t (some fs) k l h = omega arith
found_before (item v) t (some []) k l h = absurd (omega arith)
found_before (item v) t (some (f ∷ fs)) k l h = h ∙ value-depth t (code_of (kind v)) (length (value_bytes v))

-- tokens behind which the outermost list alone is open make as many forests as lists were open before them
found-forests : (ts : List Token) (t u : Tally) → 1 ≤ t.depth → tallied t ts ≡ some u → Found t.depth (forests ts)
unfolding tallied forests
found-forests [] t u k h = go (eqb t.depth 1) refl h
  where
    go : (b : Bool) → eqb t.depth 1 ≡ b → cond b (some t) option.none ≡ some u → 1 ≡ t.depth
    go true e q = sym (eqb-true t.depth 1 e)
    go false e q = absurd (let z : ◌≡◌ {A = ℕ} 0 1 = cc in omega arith)
found-forests (token ∷ ts) t u k h = go (eqb (with_token t token).depth 0) refl (found-forests ts (with_token t token) u) h
  where
    go : (b : Bool) → eqb (with_token t token).depth 0 ≡ b
        → (1 ≤ (with_token t token).depth → tallied (with_token t token) ts ≡ some u → Found (with_token t token).depth (forests ts))
        → cond b option.none (tallied (with_token t token) ts) ≡ some u → Found t.depth (before token (forests ts))
    go true e rest q = absurd (let z : ◌≡◌ {A = ℕ} 0 1 = cc in omega arith)
    go false e rest q =
        let l : 1 ≤ (with_token t token).depth = omega (arith, eqb-false (with_token t token).depth 0 e) in
        found_before token t (forests ts) k l (rest l q)

-- tokens that have a tally are a list's
pub tally-balanced : (ts : List Token) (u : Tally) → tallied started ts ≡ some u → (es : Elements) × (whole (forests ts) ≡ some es)
tally-balanced ts u h = go (forests ts) (found-forests ts started u (omega arith) h)
  where
    go : (o : Option (List Elements)) → Found 1 o → (es : Elements) × (whole o ≡ some es)
    go option.none f = absurd f
    go (some []) f = absurd (omega arith)
    go (some (es ∷ [])) f = (es, refl)
    go (some (es ∷ fs ∷ more)) f = absurd (omega arith)

-- THE ANSWER
-- the number that a tally gives: 32 for none, 27, 28, or 0
abbrev pub tally_error : Option Tally → ℕ
tally_error option.none = 32
tally_error (some t) = cond (ltb depth_limit t.deepest) 27 (cond (ltb list_limit t.size) 28 0)

fitting-error : (es : Elements) → error_of (fitting list_limit es) ≡ cond (ltb depth_limit (depth es)) 27 (cond (ltb list_limit (length (list_bytes es))) 28 0)
unfolding fitting
fitting-error es = go (ltb depth_limit (depth es)) (ltb list_limit (length (list_bytes es)))
  where
    go : (a b : Bool) → error_of (cond a (refused 27) (cond b (refused 28) (accepted es))) ≡ cond a 27 (cond b 28 0)
    go true b = refl
    go false true = refl
    go false false = refl

tree-error : (ts : List Token) (es : Elements) → whole (forests ts) ≡ some es → error_of (judged (some es)) ≡ tally_error (tallied started ts)
tree-error ts es h = fitting-error es ∙ sym (ap (λ (l : List Token). tally_error (tallied started l)) (tree-forests ts es h) ∙ ap tally_error (tally-tree es))

-- the answer for tokens is what their tally gives
pub tokens-error : (ts : List Token) → error_of (judged (whole (forests ts))) ≡ tally_error (tallied started ts)
tokens-error ts = go (whole (forests ts)) refl (tallied started ts) refl
  where
    go : (o : Option Elements) → whole (forests ts) ≡ o → (r : Option Tally) → tallied started ts ≡ r → error_of (judged o) ≡ tally_error r
    go (some es) h r q = tree-error ts es h ∙ ap tally_error q
    go option.none h option.none q = refl
    go option.none h (some u) q = let b = tally-balanced ts u q in absurd (let x = sym h ∙ b.1 in let z : ◌≡◌ {A = ℕ} 0 1 = cc in omega arith)
