-- The text that is spelt from the rows and the store of a list is the list's text.
use Prim.Native.Nat.{ℕ, suc, ◌+◌, ◌≤◌, ◌<◌}
use mathlib.Core.Bool.{true, false}
use mathlib.Core.Path.{◌≡◌, refl, sym, ap, ◌∙◌}
use mathlib.Core.List.{List, [], ◌∷◌, ◌++◌, append_assoc, append-nil}
use native.Mathlib.Omega.{arith}
use native.Mathlib.Nat.{add-zero, zero-add}
use native.Mathlib.Numerals.{sub-one}
use lib.Dec.{eqb}
use borrow.Author.Tests.{ne_eqb}
use lib.ListN.{length, drop}
use Rattle.list.specs.declared.Row.{Row}
use Rattle.list.specs.Kind.{code_of, list_code, kind_of}
use Rattle.list.specs.Limits.{depth_limit}
use Rattle.list.specs.Tree.{Value, Elements, int, vocab, float, str, blob, none, value, list, kind, count}
use Rattle.list.specs.Rows.{value_store, element_store, value_row, element_rows, list_rows, list_store}
use Rattle.list.specs.RowBytes.{row, row_at}
use Rattle.list.proofs.Codes.{code-low}
use Rattle.list_rows.specs.Judge.{nested, depth}
use Rattle.list_rows.specs.Row.{stored}
use Rattle.list_rows.proofs.Rows.{part-is}
use Rattle.list_rows.proofs.Accepted.{past_value, past-list, used-value, used-list, DescribedBy}
use Rattle.text.specs.Text.{gap, value_text, elements_text, list_text}
use Rattle.text_encode.specs.Spell.{row_text, spell, spell_list}
use Rattle.text_encode.proofs.Turns.{spell-close, spell-end, spell-value, spell-list}

-- the row of a value
abbrev row_for : ℕ → Value → Row
row_for used v = row_at (value_row used v) 0

front-value : (v : Value) (used : ℕ) (rest : List ℕ) → value_row used v ++ rest ≡ (row_for used v).code ∷ (row_for used v).second ∷ (row_for used v).third ∷ rest
front-value (int n) used rest = refl
front-value (vocab n) used rest = refl
front-value (float low high) used rest = refl
front-value (str bs) used rest = refl
front-value (blob bs) used rest = refl

value-code : (v : Value) (used : ℕ) → (row_for used v).code ≡ code_of (kind v)
value-code (int n) used = refl
value-code (vocab n) used = refl
value-code (float low high) used = refl
value-code (str bs) used = refl
value-code (blob bs) used = refl

value-stored : (v : Value) (used : ℕ) → stored (row_for used v) ≡ length (value_store v)
unfolding stored kind_of
value-stored (int n) used = refl
value-stored (vocab n) used = refl
value-stored (float low high) used = refl
value-stored (str bs) used = refl
value-stored (blob bs) used = refl

value-text : (v : Value) (used : ℕ) → row_text (value_store v) (row_for used v) ≡ value_text v
unfolding row_text kind_of
value-text (int n) used = refl
value-text (vocab n) used = refl
value-text (float low high) used = refl
value-text (str bs) used = refl
value-text (blob bs) used = refl

-- the text of elements with the space behind each, where `left` more follow the last
abbrev spaced : Elements → ℕ → List ℕ
spaced none left = []
spaced (value v es) left = value_text v ++ (gap (eqb (count es + left) 0) ++ spaced es left)
spaced (list a es) left = 40 ∷ (spaced a 0 ++ (41 ∷ (gap (eqb (count es + left) 0) ++ spaced es left)))

-- a space before each element but the first is a space behind each but the last
gap-first : (es : Elements) → gap (eqb (count es + 0) 0) ++ elements_text true es ≡ elements_text false es
gap-first none = refl
gap-first (value v es) = rw (add-zero (count (value v es)), ne_eqb (count (value v es)) 0 (λ (e : count (value v es) ≡ 0). omega arith))
gap-first (list a es) = rw (add-zero (count (list a es)), ne_eqb (count (list a es)) 0 (λ (e : count (list a es) ≡ 0). omega arith))

spaced-is : (es : Elements) → spaced es 0 ≡ elements_text true es
spaced-is none = refl
spaced-is (value v es) = ap (λ (t : List ℕ). value_text v ++ (gap (eqb (count es + 0) 0) ++ t)) (spaced-is es) ∙ ap (λ (t : List ℕ). value_text v ++ t) (gap-first es)
spaced-is (list a es) =
    ap (λ (t : List ℕ). 40 ∷ (t ++ (41 ∷ (gap (eqb (count es + 0) 0) ++ spaced es 0)))) (spaced-is a)
    ∙ ap (λ (t : List ℕ). 40 ∷ (elements_text true a ++ (41 ∷ t))) (ap (λ (t : List ℕ). gap (eqb (count es + 0) 0) ++ t) (spaced-is es) ∙ gap-first es)

module _ (store : List ℕ) where
  -- a value in front of other elements
  step_value :
      (v : Value) (n used : ℕ) (outer rest behind : List ℕ) → drop used store ≡ value_store v ++ behind
      → spell store (value_row used v ++ rest) used outer (suc n) ≡ value_text v ++ (gap (eqb n 0) ++ spell store rest (used + length (value_store v)) outer n)
  step_value v n used outer rest behind b =
      let single : (row_for used v).code ≡ list_code → ⊥ = λ (e : (row_for used v).code ≡ list_code). omega (arith, value-code v used, (code-low (kind v)).1) in
      ap (λ (l : List ℕ). spell store l used outer (suc n)) (front-value v used rest)
      ∙ spell-value store (row_for used v) rest used outer (suc n) (omega arith) single
      ∙ rw (value-stored v used, sub-one (suc n), part-is store used (value_store v) behind b, value-text v used)

  -- a list in front of other elements
  step-list :
      (a : Elements) (n used : ℕ) (outer rest : List ℕ) → suc (length outer) < depth_limit
      → spell store (list_code ∷ count a ∷ 0 ∷ rest) used outer (suc n) ≡ 40 ∷ spell store rest used (n ∷ outer) (count a)
  step-list a n used outer rest l =
      spell-list store (row list_code (count a) 0) rest used outer (suc n) (omega arith) refl l ∙ rw (sub-one (suc n))

  -- LAW: elements that are not too deep are spelt as their text, and what is spelt behind them comes next
  spell-elements :
      (es : Elements) (used : ℕ) (outer : List ℕ) (left : ℕ) (rest behind : List ℕ) → suc (length outer) + nested es ≤ depth_limit
      → drop used store ≡ element_store es ++ behind
      → spell store (element_rows used es ++ rest) used outer (count es + left) ≡ spaced es left ++ spell store rest (used + length (element_store es)) outer left
  spell-elements none used outer left rest behind l b = rw (zero-add left, add-zero used)
  spell-elements (value v es) used outer left rest behind l b =
      let m : suc (count es) + left ≡ suc (count es + left) = omega arith in
      let q = past_value v es store used behind b in
      let u : ℕ = used + length (value_store v) in
      let g : List ℕ = gap (eqb (count es + left) 0) in
      rw (m, append_assoc (value_row used v) (element_rows u es) rest) (step_value v (count es + left) used outer (element_rows u es ++ rest) _ q.0)
      ∙ ap (λ (t : List ℕ). value_text v ++ (g ++ t)) (spell-elements es u outer left rest behind l q.1)
      ∙ rw (used-value v es used, append_assoc (value_text v) (g ++ spaced es left), append_assoc g (spaced es left))
  spell-elements (list a es) used outer left rest behind l b =
      let m : suc (count es) + left ≡ suc (count es + left) = omega arith in
      let n : ℕ = count es + left in
      let q = past-list a es store used behind b in
      let u : ℕ = used + length (element_store a) in
      let more : List ℕ = element_rows u es ++ rest in
      let g : List ℕ = gap (eqb n 0) in
      rw (m, append_assoc (element_rows used a) (element_rows u es) rest) (step-list a n used outer (element_rows used a ++ more) (omega arith))
      ∙ ap (λ (k : ℕ). 40 ∷ spell store (element_rows used a ++ more) used (n ∷ outer) k) (sym (add-zero (count a)))
      ∙ ap (λ (t : List ℕ). 40 ∷ t) (spell-elements a used (n ∷ outer) 0 more _ (omega arith) q.0)
      ∙ ap (λ (t : List ℕ). 40 ∷ (spaced a 0 ++ t)) (spell-close store more u n outer)
      ∙ ap (λ (t : List ℕ). 40 ∷ (spaced a 0 ++ (41 ∷ (g ++ t)))) (spell-elements es u outer left rest behind (omega arith) q.1)
      ∙ rw (used-list a es used, append_assoc (spaced a 0) (41 ∷ (g ++ spaced es left)), append_assoc g (spaced es left))

-- LAW: all of a list is spelt as its text
spell-whole : (es : Elements) → depth es ≤ depth_limit → spell_list (list_rows es) (list_store es) ≡ list_text es
unfolding spell_list list_text
spell-whole es l =
    let w : spell (list_store es) (element_rows 0 es ++ []) 0 [] (count es + 0) ≡ spaced es 0 ++ spell (list_store es) [] (0 + length (list_store es)) [] 0 =
    spell-elements (list_store es) es 0 [] 0 [] [] (omega arith) (sym (append-nil (list_store es))) in
    rw (append-nil (element_rows 0 es), add-zero (count es), spell-end (list_store es) [] (0 + length (list_store es)), append-nil (spaced es 0)) at w ∙ spaced-is es

pub spell-described : (rows store : List ℕ) (es : Elements) → DescribedBy rows store es → depth es ≤ depth_limit → spell_list rows store ≡ list_text es
spell-described rows store es t l = rw (t.rows_are, t.store_is) (spell-whole es l)
