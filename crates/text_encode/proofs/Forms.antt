-- Every row of a list has a text form exactly where every element has one.
use Prim.Native.Nat.{ℕ, ◌+◌, ◌*◌, ◌≤◌, ◌<◌}
use mathlib.Core.Path.{◌≡◌, refl, sym, ap, ◌∙◌}
use mathlib.Core.Bool.{Bool, true, false, ◌&&◌}
use mathlib.Core.List.{List, [], ◌∷◌, ◌++◌, append_assoc, append-nil}
use native.Mathlib.Omega.{arith}
use lib.ListN.{length}
use Rattle.list.specs.declared.Row.{Row}
use Rattle.list.specs.RowBytes.{row_at}
use Rattle.list.specs.Tree.{Value, Elements, int, vocab, float, str, blob, none, value, list}
use Rattle.list.specs.Rows.{value_store, element_store, value_row, list_row, element_rows, list_rows}
use Rattle.list_rows.specs.Row.{rows_in, rows_from}
use Rattle.list_rows.proofs.Rows.{front-row, few-left}
use Rattle.text.specs.Form.{has_form, all_have_form}
use Rattle.text_encode.specs.Spell.{row_form, rows_form}
use Rattle.text_encode.proofs.Vocabs.{and_assoc}

-- THE LOOP
form-few : (rows : List ℕ) → length rows < 3 → rows_form rows ≡ true
unfolding rows_form
form-few [] h = refl
form-few (a ∷ []) h = refl
form-few (a ∷ b ∷ []) h = refl
form-few (a ∷ b ∷ c ∷ rows) h = absurd (omega arith)

form-one : (r : Row) (rows : List ℕ) → rows_form (r.code ∷ r.second ∷ r.third ∷ rows) ≡ (row_form r && rows_form rows)
unfolding rows_form
form-one r rows = refl

-- L is the answer for all rows, which before a turn is that for the rows from row i on
module _ (L : Bool) (rows : List ℕ) (i : ℕ) (inv : L ≡ rows_form (rows_from rows i)) where
  pub form-end : rows_in rows ≤ i → true ≡ L
  form-end h = sym (inv ∙ form-few (rows_from rows i) (few-left rows i h))

  module _ (more : i < rows_in rows) (r : Row) (is-r : r ≡ row_at rows (3 * i)) (b : Bool) (is_b : b ≡ row_form r) where
    form-turn : L ≡ (b && rows_form (rows_from rows (i + 1)))
    form-turn =
        inv ∙ ap rows_form (front-row rows i more r is-r) ∙ form-one r (rows_from rows (i + 1))
        ∙ ap (λ (z : Bool). z && rows_form (rows_from rows (i + 1))) (sym is_b)

    pub form-stop : b ≡ false → false ≡ L
    form-stop h = sym (form-turn ∙ rw h)

    pub form-goes : b ≡ true → L ≡ rows_form (rows_from rows (i + 1))
    form-goes h = form-turn ∙ rw h

-- THE TREE
value-form : (v : Value) (used : ℕ) (rest : List ℕ) → rows_form (value_row used v ++ rest) ≡ (has_form v && rows_form rest)
unfolding rows_form row_form
value-form (int n) used rest = refl
value-form (vocab n) used rest = refl
value-form (float low high) used rest = refl
value-form (str bs) used rest = refl
value-form (blob bs) used rest = refl

list-form : (es : Elements) (rest : List ℕ) → rows_form (list_row es ++ rest) ≡ rows_form rest
unfolding rows_form row_form
list-form es rest = refl

elements-form : (es : Elements) (used : ℕ) (rest : List ℕ) → rows_form (element_rows used es ++ rest) ≡ (all_have_form es && rows_form rest)
elements-form none used rest = refl
elements-form (value v es) used rest =
    let u : ℕ = used + length (value_store v) in
    ap rows_form (append_assoc (value_row used v) (element_rows u es) rest) ∙ value-form v used (element_rows u es ++ rest)
    ∙ ap (λ (z : Bool). has_form v && z) (elements-form es u rest) ∙ sym (and_assoc (has_form v) (all_have_form es) (rows_form rest))
elements-form (list a es) used rest =
    let u : ℕ = used + length (element_store a) in
    ap (λ (l : List ℕ). rows_form (list_row a ++ l)) (append_assoc (element_rows used a) (element_rows u es) rest)
    ∙ list-form a (element_rows used a ++ (element_rows u es ++ rest))
    ∙ elements-form a used (element_rows u es ++ rest) ∙ ap (λ (z : Bool). all_have_form a && z) (elements-form es u rest)
    ∙ sym (and_assoc (all_have_form a) (all_have_form es) (rows_form rest))

and-true-right : (b : Bool) → (b && true) ≡ b
and-true-right true = refl
and-true-right false = refl

-- the rows of a list all have a text form exactly where its elements have
pub rows-form : (es : Elements) → rows_form (list_rows es) ≡ all_have_form es
rows-form es =
    list-form es (element_rows 0 es) ∙ ap rows_form (sym (append-nil (element_rows 0 es))) ∙ elements-form es 0 []
    ∙ ap (λ (z : Bool). all_have_form es && z) (form-few [] (omega arith)) ∙ and-true-right (all_have_form es)
