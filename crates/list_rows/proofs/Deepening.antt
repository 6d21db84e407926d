-- Laws of the depth found row by row: what one row does, and one turn of the loop over the rows.
use Prim.Native.Nat.{ℕ, suc, ◌+◌, ◌-◌, ◌*◌, ◌≤◌, ◌<◌}
use mathlib.Core.Path.{◌≡◌, refl, sym, ap, ◌∙◌}
use mathlib.Core.Bool.{Bool, true, false, cond}
use mathlib.Core.List.{List, [], ◌∷◌}
use native.Mathlib.Omega.{arith}
use native.Mathlib.Numerals.{add-one}
use lib.Dec.{eqb, leb}
use lib.ListN.{length, get_or, set}
use borrow.Author.Tests.{eq-eqb, ne_eqb, le-leb, lt-leb}
use Rattle.list.specs.declared.Row.{Row}
use Rattle.list.specs.Kind.{list_code}
use Rattle.list.specs.Limits.{depth_limit}
use Rattle.list.specs.RowBytes.{row_at}
use Rattle.list_rows.specs.Row.{rows_in, rows_from}
use Rattle.list_rows.specs.Nesting.{deep_from}
use Rattle.list_rows.proofs.Rows.{front-row, few-left}
use Rattle.list_rows.proofs.Nestings.{next-element, next-end, next-close, stack_of, stack-length, stack_push, stack-pop}

deep-few : (rows outer : List ℕ) (left : ℕ) → length rows < 3 → deep_from rows outer left ≡ false
unfolding deep_from
deep-few [] outer left h = refl
deep-few (a ∷ []) outer left h = refl
deep-few (a ∷ b ∷ []) outer left h = refl
deep-few (a ∷ b ∷ c ∷ rows) outer left h = absurd (omega arith)

-- behind the last element of the outermost list, and of a list in it
deep-over : (rows : List ℕ) → deep_from rows [] 0 ≡ false
unfolding deep_from
deep-over [] = refl
deep-over (a ∷ []) = refl
deep-over (a ∷ b ∷ []) = refl
deep-over (a ∷ b ∷ c ∷ rows) = next-end _ _ _

pub deep-close : (rows : List ℕ) (n : ℕ) (outer : List ℕ) → deep_from rows (n ∷ outer) 0 ≡ deep_from rows outer n
unfolding deep_from
deep-close [] n outer = refl
deep-close (a ∷ []) n outer = refl
deep-close (a ∷ b ∷ []) n outer = refl
deep-close (a ∷ b ∷ c ∷ rows) n outer = next-close _ _ _ n outer

-- the row of an element that is to come
module _ (a b c : ℕ) (rows outer : List ℕ) (left : ℕ) (more : 0 < left) where
  deep-row : deep_from (a ∷ b ∷ c ∷ rows) outer left
      ≡ cond (eqb a list_code) (cond (leb depth_limit (suc (length outer))) true (deep_from rows ((left - 1) ∷ outer) b)) (deep_from rows outer (left - 1))
  unfolding deep_from
  deep-row = next-element _ _ _ outer left more

  pub deep-value : (a ≡ list_code → ⊥) → deep_from (a ∷ b ∷ c ∷ rows) outer left ≡ deep_from rows outer (left - 1)
  deep-value h = deep-row ∙ rw (ne_eqb a list_code h)

  pub deep-deeper : a ≡ list_code → depth_limit ≤ suc (length outer) → deep_from (a ∷ b ∷ c ∷ rows) outer left ≡ true
  deep-deeper h d = deep-row ∙ rw (eq-eqb a list_code h, le-leb depth_limit (suc (length outer)) d)

  pub deep-list : a ≡ list_code → suc (length outer) < depth_limit → deep_from (a ∷ b ∷ c ∷ rows) outer left ≡ deep_from rows ((left - 1) ∷ outer) b
  deep-list h d = deep-row ∙ rw (eq-eqb a list_code h, lt-leb depth_limit (suc (length outer)) d)

-- L is the answer for all rows, which before a turn is that for the rows from row i on
module _ (L : Bool) (rows : List ℕ) (i : ℕ) (outer : List ℕ) (level left : ℕ) (inv : L ≡ deep_from (rows_from rows i) (stack_of outer level) left) where
  pub turn-short : rows_in rows ≤ i → false ≡ L
  turn-short h = sym (inv ∙ deep-few (rows_from rows i) (stack_of outer level) left (few-left rows i h))

  pub turn-over : left ≡ 0 → level ≡ 0 → false ≡ L
  turn-over z e = sym (inv ∙ rw (z, e) (deep-over (rows_from rows i)))

  pub turn-close : left ≡ 0 → (level ≡ 0 → ⊥) → L ≡ deep_from (rows_from rows i) (stack_of outer (level - 1)) (get_or outer (level - 1) 0)
  turn-close z h = inv ∙ rw (z, stack-pop outer level (omega arith)) (deep-close (rows_from rows i) (get_or outer (level - 1) 0) (stack_of outer (level - 1)))

  module _ (more : left ≡ 0 → ⊥) (fits : i < rows_in rows) (r : Row) (is-r : r ≡ row_at rows (3 * i)) where
    row_first : L ≡ deep_from (r.code ∷ r.second ∷ r.third ∷ rows_from rows (i + 1)) (stack_of outer level) left
    row_first = inv ∙ ap (λ (l : List ℕ). deep_from l (stack_of outer level) left) (front-row rows i fits r is-r)

    pub turn-value : (r.code ≡ list_code → ⊥) → L ≡ deep_from (rows_from rows (i + 1)) (stack_of outer level) (left - 1)
    turn-value h = row_first ∙ deep-value _ _ _ _ _ _ (omega arith) h

    pub turn-deep : r.code ≡ list_code → depth_limit ≤ suc level → true ≡ L
    turn-deep h d = sym (row_first ∙ deep-deeper _ _ _ _ _ _ (omega arith) h (omega (arith, stack-length outer level)))

    pub turn-list : r.code ≡ list_code → suc level < depth_limit → level < length outer → (n : ℕ) → n ≡ r.second
        → L ≡ deep_from (rows_from rows (i + 1)) (stack_of (set outer level (left - 1)) (level + 1)) n
    turn-list h d room n is-n =
        row_first ∙ deep-list _ _ _ _ _ _ (omega arith) h (omega (arith, stack-length outer level))
        ∙ rw (add-one level, stack_push outer level (left - 1) room, is-n)
