-- The rows of a list are too deep where the list is.
use Prim.Native.Nat.{ℕ, suc, ◌+◌, ◌-◌, ◌<◌, max}
use mathlib.Core.Path.{◌≡◌, refl, sym, ap, ◌∙◌}
use mathlib.Core.Bool.{Bool, true, false, cond}
use mathlib.Core.List.{List, [], ◌∷◌, ◌++◌, append_assoc, append-nil}
use native.Mathlib.Omega.{arith}
use native.Mathlib.Nat.{add-zero, zero-add}
use lib.Dec.{leb, ltb}
use lib.ListN.{length}
use borrow.Author.Tests.{le-ltb, lt-ltb, ltb-true, ltb-false, leb-true, leb-false}
use Rattle.list.specs.Kind.{list_code}
use Rattle.list.specs.Limits.{depth_limit}
use Rattle.list.specs.Tree.{Value, Elements, int, vocab, float, str, blob, none, value, list, count}
use Rattle.list.specs.Rows.{value_store, element_store, value_row, list_row, element_rows, list_rows}
use Rattle.list_rows.specs.Judge.{nested, depth}
use Rattle.list_rows.specs.Nesting.{deep_from, too_deep}
use Rattle.list_rows.proofs.Deepening.{deep-close, deep-value, deep-deeper, deep-list}

-- a value's row is no list's
deep-past-value : (v : Value) (used : ℕ) (rest outer : List ℕ) (left : ℕ) → 0 < left → deep_from (value_row used v ++ rest) outer left ≡ deep_from rest outer (left - 1)
deep-past-value (int n) used rest outer left h = deep-value _ _ _ rest outer left h (λ e. omega arith)
deep-past-value (vocab n) used rest outer left h = deep-value _ _ _ rest outer left h (λ e. omega arith)
deep-past-value (float low high) used rest outer left h = deep-value _ _ _ rest outer left h (λ e. omega arith)
deep-past-value (str bs) used rest outer left h = deep-value _ _ _ rest outer left h (λ e. omega arith)
deep-past-value (blob bs) used rest outer left h = deep-value _ _ _ rest outer left h (λ e. omega arith)

-- one of two is above the limit where the greater is
either : (limit m a b : ℕ) (x : Bool) → cond (ltb limit (suc m + a)) true (cond (ltb limit (m + b)) true x) ≡ cond (ltb limit (m + max (suc a) b)) true x
either limit m a b x = go (ltb limit (suc m + a)) refl (ltb limit (m + b)) refl
  where
    go : (p : Bool) → ltb limit (suc m + a) ≡ p → (q : Bool) → ltb limit (m + b) ≡ q → cond p true (cond q true x) ≡ cond (ltb limit (m + max (suc a) b)) true x
    go true e q f = rw (lt-ltb limit (m + max (suc a) b) (omega (arith, ltb-true limit (suc m + a) e)))
    go false e true f = rw (lt-ltb limit (m + max (suc a) b) (omega (arith, ltb-true limit (m + b) f)))
    go false e false f = rw (le-ltb limit (m + max (suc a) b) (omega (arith, ltb-false limit (suc m + a) e, ltb-false limit (m + b) f)))

-- the elements of a list that is open inside those of `outer` are passed where none of their lists is too deep
deep-elements : (es : Elements) (used : ℕ) (rest outer : List ℕ) (left : ℕ) → length outer < depth_limit
    → deep_from (element_rows used es ++ rest) outer (count es + left) ≡ cond (ltb depth_limit (suc (length outer) + nested es)) true (deep_from rest outer left)
deep-elements none used rest outer left h = rw (zero-add left, le-ltb depth_limit (suc (length outer) + 0) (omega arith))
deep-elements (value v es) used rest outer left h =
    let u : ℕ = used + length (value_store v) in
    let e : suc (count es) + left - 1 ≡ count es + left = omega arith in
    ap (λ (l : List ℕ). deep_from l outer (suc (count es) + left)) (append_assoc (value_row used v) (element_rows u es) rest)
    ∙ deep-past-value v used (element_rows u es ++ rest) outer (suc (count es) + left) (omega arith) ∙ rw e (deep-elements es u rest outer left h)
deep-elements (list a es) used rest outer left h =
    go (leb depth_limit (suc (length outer))) refl (λ g. deep-elements a used (element_rows u es ++ rest) ((count es + left) ∷ outer) 0 g) (deep-elements es u rest outer left h)
  where
    u : ℕ
    u = used + length (element_store a)

    inner : List ℕ
    inner = element_rows used a ++ (element_rows u es ++ rest)

    more : ℕ
    more = suc (count es) + left

    is-more : more - 1 ≡ count es + left
    is-more = omega arith

    rows_are : element_rows used (list a es) ++ rest ≡ list_row a ++ inner
    rows_are = ap (λ (l : List ℕ). list_row a ++ l) (append_assoc (element_rows used a) (element_rows u es) rest)

    go : (b : Bool) → leb depth_limit (suc (length outer)) ≡ b
        → (suc (length outer) < depth_limit → deep_from inner ((count es + left) ∷ outer) (count a + 0)
        ≡ cond (ltb depth_limit (suc (suc (length outer)) + nested a)) true (deep_from (element_rows u es ++ rest) ((count es + left) ∷ outer) 0))
        → deep_from (element_rows u es ++ rest) outer (count es + left) ≡ cond (ltb depth_limit (suc (length outer) + nested es)) true (deep_from rest outer left)
        → deep_from (element_rows used (list a es) ++ rest) outer more ≡ cond (ltb depth_limit (suc (length outer) + nested (list a es))) true (deep_from rest outer left)
    go true e f g =
        let d = leb-true depth_limit (suc (length outer)) e in
        rw (rows_are, deep-deeper list_code (count a) 0 inner outer more (omega arith) refl d, lt-ltb depth_limit (suc (length outer) + nested (list a es)) (omega arith))
    go false e f g =
        let d = leb-false depth_limit (suc (length outer)) e in
        let opened = deep-list list_code (count a) 0 inner outer more (omega arith) refl d in
        rw (rows_are, opened, is-more) (
        ap (deep_from inner ((count es + left) ∷ outer)) (sym (add-zero (count a))) ∙ f d
        ∙ rw (deep-close (element_rows u es ++ rest) (count es + left) outer, g) (either depth_limit (suc (length outer)) (nested a) (nested es) (deep_from rest outer left)))

pub deep_is : (es : Elements) → too_deep (list_rows es) ≡ ltb depth_limit (depth es)
unfolding too_deep deep_from
deep_is es =
    let d : 1 + nested es ≡ depth es = omega arith in
    ap (λ (l : List ℕ). deep_from l [] (count es)) (sym (append-nil (element_rows 0 es))) ∙ ap (deep_from (element_rows 0 es ++ []) []) (sym (add-zero (count es)))
    ∙ deep-elements es 0 [] [] 0 (omega arith) ∙ go (ltb depth_limit (1 + nested es)) ∙ ap (ltb depth_limit) d
  where
    go : (b : Bool) → cond b true (deep_from [] [] 0) ≡ b
    go true = refl
    go false = refl
