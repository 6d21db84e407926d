-- Rows and store bytes determine the list: row by row, each names its kind, its numbers and how many store bytes it has.
use Prim.Native.Nat.{ℕ, ◌+◌}
use mathlib.Core.Path.{◌≡◌, refl, sym, ap, ◌∙◌}
use mathlib.Core.List.{List, [], ◌∷◌, ◌++◌, append_assoc}
use native.Mathlib.Omega.{arith}
use lib.ListN.{length, take, drop}
use lib.Seq.{take_at, drop_at}
use Rattle.list.specs.declared.Kind.{Kind}
use Rattle.list.specs.declared.Kind.TheVariants.{Int, Float, Str, Blob, Vocab}
use Rattle.list.specs.Kind.{code_of}
use Rattle.list.specs.Tree.{Value, Elements, int, vocab, float, str, blob, none, value, list, kind, count}
use Rattle.list.specs.Rows.{value_store, element_store, value_row, element_rows, list_rows, list_store}
use Rattle.list.proofs.Codes.{code-low, kind-same}

-- the second and the third number of a value's row, and the value that a row and its store bytes give
abbrev second : ℕ → Value → ℕ
second used (int n) = n
second used (vocab n) = n
second used (float low high) = low
second used (str bs) = used
second used (blob bs) = used

abbrev third : Value → ℕ
third (int n) = 0
third (vocab n) = 0
third (float low high) = high
third (str bs) = length bs
third (blob bs) = length bs

abbrev value_of : Kind → ℕ → ℕ → List ℕ → Value
value_of Int b c bs = int b
value_of Vocab b c bs = vocab b
value_of Float b c bs = float b c
value_of Str b c bs = str bs
value_of Blob b c bs = blob bs

abbrev store_size : Kind → ℕ → ℕ
store_size Int c = 0
store_size Vocab c = 0
store_size Float c = 0
store_size Str c = c
store_size Blob c = c

record RowIs (used : ℕ) (v : Value) : Type 0 where
  row : value_row used v ≡ code_of (kind v) ∷ second used v ∷ third v ∷ []
  back : value_of (kind v) (second used v) (third v) (value_store v) ≡ v
  size : length (value_store v) ≡ store_size (kind v) (third v)

row_is : (used : ℕ) (v : Value) → RowIs used v
row_is used (int n) = record { row = refl; back = refl; size = refl }
row_is used (vocab n) = record { row = refl; back = refl; size = refl }
row_is used (float low high) = record { row = refl; back = refl; size = refl }
row_is used (str bs) = record { row = refl; back = refl; size = refl }
row_is used (blob bs) = record { row = refl; back = refl; size = refl }

-- fronts of one length are equal, and so is what follows
pub split-same : (a b x y : List ℕ) → length a ≡ length b → a ++ x ≡ b ++ y → (a ≡ b) × (x ≡ y)
split-same a b x y e h = (
  sym (take_at a x (length a) refl) ∙ ap (take (length a)) h ∙ take_at b y (length a) (sym e),
  sym (drop_at a x (length a) refl) ∙ ap (drop (length a)) h ∙ drop_at b y (length a) (sym e),
)

-- one value, with anything behind its row and its store bytes
same-value : (v w : Value) (used : ℕ) (x y p q : List ℕ) → value_row used v ++ x ≡ value_row used w ++ y → value_store v ++ p ≡ value_store w ++ q
    → (v ≡ w) × (x ≡ y) × (p ≡ q)
same-value v w used x y p q h g =
    let a = row_is used v in
    let b = row_is used w in
    let h₁ : code_of (kind v) ∷ second used v ∷ third v ∷ x ≡ code_of (kind w) ∷ second used w ∷ third w ∷ y =
    ap (λ (l : List ℕ). l ++ x) (sym a.row) ∙ h ∙ ap (λ (l : List ℕ). l ++ y) b.row in
    let c : code_of (kind v) ≡ code_of (kind w) = cc in
    let k : kind v ≡ kind w = kind-same (kind v) (kind w) c in
    let m : second used v ≡ second used w = cc in
    let n : third v ≡ third w = cc in
    let r : x ≡ y = cc in
    let l : length (value_store v) ≡ length (value_store w) = a.size ∙ rw (k, n) (sym b.size) in
    let t = split-same (value_store v) (value_store w) p q l g in
    (sym a.back ∙ rw (k, m, n, t.0) b.back, r, t.1)

-- a value's row is not a list's
value-no-list : {A : Type 0} (v : Value) (used n : ℕ) (x y : List ℕ) → value_row used v ++ x ≡ 256 ∷ n ∷ 0 ∷ y → A
value-no-list v used n x y h =
    let h₁ : code_of (kind v) ∷ second used v ∷ third v ∷ x ≡ 256 ∷ n ∷ 0 ∷ y = ap (λ (l : List ℕ). l ++ x) (sym (row_is used v).row) ∙ h in
    let k : code_of (kind v) ≡ 256 = cc in
    absurd (omega (arith, (code-low (kind v)).1))

-- elements, with anything behind their rows and their store bytes
same-elements : (a b : Elements) (used : ℕ) (x y p q : List ℕ) → count a ≡ count b
    → element_rows used a ++ x ≡ element_rows used b ++ y → element_store a ++ p ≡ element_store b ++ q → (a ≡ b) × (x ≡ y) × (p ≡ q)
same-elements none none used x y p q n h g = (refl, h, g)
same-elements none (value w fs) used x y p q n h g = absurd (omega arith)
same-elements none (list j fs) used x y p q n h g = absurd (omega arith)
same-elements (value v es) none used x y p q n h g = absurd (omega arith)
same-elements (list i es) none used x y p q n h g = absurd (omega arith)
same-elements (value v es) (list j fs) used x y p q n h g = value-no-list v used (count j) _ _ (sym (append_assoc (value_row used v) _ x) ∙ h)
same-elements (list i es) (value w fs) used x y p q n h g = value-no-list w used (count i) _ _ (sym (append_assoc (value_row used w) _ y) ∙ sym h)
same-elements (value v es) (value w fs) used x y p q n h g =
    let after : Value → Elements → List ℕ = λ u ds. element_rows (used + length (value_store u)) ds in
    let r = same-value v w used (after v es ++ x) (after w fs ++ y) (element_store es ++ p) (element_store fs ++ q)
    (sym (append_assoc (value_row used v) (after v es) x) ∙ h ∙ append_assoc (value_row used w) (after w fs) y)
    (sym (append_assoc (value_store v) (element_store es) p) ∙ g ∙ append_assoc (value_store w) (element_store fs) q) in
    let t : after v es ++ x ≡ after v fs ++ y = r.1 ∙ ap (λ (u : Value). after u fs ++ y) (sym r.0) in
    let i = same-elements es fs (used + length (value_store v)) x y p q (omega arith) t r.2 in
    (rw (r.0, i.0), i.1, i.2)
same-elements (list i es) (list j fs) used x y p q n h g =
    let after : Elements → Elements → List ℕ = λ u ds. element_rows (used + length (element_store u)) ds in
    let h₁ : 256 ∷ count i ∷ 0 ∷ ((element_rows used i ++ after i es) ++ x) ≡ 256 ∷ count j ∷ 0 ∷ ((element_rows used j ++ after j fs) ++ y) = h in
    let c : count i ≡ count j = cc in
    let h₂ : (element_rows used i ++ after i es) ++ x ≡ (element_rows used j ++ after j fs) ++ y = cc in
    let r = same-elements i j used (after i es ++ x) (after j fs ++ y) (element_store es ++ p) (element_store fs ++ q) c
    (sym (append_assoc (element_rows used i) (after i es) x) ∙ h₂ ∙ append_assoc (element_rows used j) (after j fs) y)
    (sym (append_assoc (element_store i) (element_store es) p) ∙ g ∙ append_assoc (element_store j) (element_store fs) q) in
    let t : after i es ++ x ≡ after i fs ++ y = r.1 ∙ ap (λ (u : Elements). after u fs ++ y) (sym r.0) in
    let k = same-elements es fs (used + length (element_store i)) x y p q (omega arith) t r.2 in
    (rw (r.0, k.0), k.1, k.2)

-- lists with the same rows and store bytes are the same
pub same-list : (es fs : Elements) → list_rows es ≡ list_rows fs → list_store es ≡ list_store fs → es ≡ fs
same-list es fs h g =
    let h₁ : 256 ∷ count es ∷ 0 ∷ element_rows 0 es ≡ 256 ∷ count fs ∷ 0 ∷ element_rows 0 fs = h in
    let c : count es ≡ count fs = cc in
    let r : element_rows 0 es ≡ element_rows 0 fs = cc in
    (same-elements es fs 0 [] [] [] [] c (ap (λ (l : List ℕ). l ++ []) r) (ap (λ (l : List ℕ). l ++ []) g)).0

-- "two differ exactly when their rows or store bytes in use differ"
pub same-exactly : (es fs : Elements)
    → ((list_rows es ≡ list_rows fs) × (list_store es ≡ list_store fs) → es ≡ fs) × (es ≡ fs → (list_rows es ≡ list_rows fs) × (list_store es ≡ list_store fs))
same-exactly es fs = (λ h. same-list es fs h.0 h.1, λ e. (ap list_rows e, ap list_store e))
