-- Laws of the shape, judged row by row: what one turn of the loop over the rows does.
use Rattle.std.specs.Prelude.{Option, Some, None}
use Prim.Native.Nat.{ℕ, zero, suc, ◌+◌, ◌-◌, ◌*◌, ◌≤◌, ◌<◌}
use mathlib.Core.Path.{◌≡◌, refl, sym, ap, ◌∙◌}
use mathlib.Core.Bool.{Bool, true, false, cond, ◌&&◌}
use mathlib.Core.List.{List, [], ◌∷◌}
use native.Mathlib.Omega.{arith}
use native.Mathlib.Numerals.{sub-one}
use lib.Dec.{eqb}
use lib.ListN.{length, length-drop, drop_of_length-le}
use borrow.Author.Tests.{ne_eqb, eqb-true, leb-true}
use Rattle.list.specs.declared.Kind.{Kind}
use Rattle.list.specs.declared.Kind.TheVariants.{Int, Float, Str, Blob, Vocab}
use Rattle.list.specs.declared.Row.{Row}
use Rattle.list.specs.Kind.{kind_of, list_code}
use Rattle.list.specs.RowBytes.{row, row_at}
use Rattle.list_rows.specs.Described.{natural}
use Rattle.list_rows.specs.Row.{rows_in, rows_from, gained, found_stored, stored}
use Rattle.list_rows.specs.Shape.{placed, textual, kind_fits, found_fits, row_fits, shape}
use Rattle.list_rows.specs.Emit.{stored_from}
use Rattle.list_rows.proofs.Rows.{clash, both, front-row}

and-false : (a b : Bool) → b ≡ false → (a && b) ≡ false
and-false true b h = h
and-false false b h = refl

pub placed-parts : (s : List ℕ) (used offset size : ℕ) → placed s used offset size ≡ true → (offset ≡ used) × (natural size ≡ true) × (size ≤ length s - used)
unfolding placed
placed-parts s used offset size h =
    let x = both (eqb offset used) _ h in
    let y = both (natural size) _ x.1 in
    (eqb-true offset used x.0, y.0, leb-true size (length s - used) y.1)

pub placed-inside : (s : List ℕ) (used offset size : ℕ) → used ≤ length s → placed s used offset size ≡ true → used + size ≤ length s
placed-inside s used offset size u h = omega (arith, (placed-parts s used offset size h).2)

found_inside : (s : List ℕ) (used second third : ℕ) (found : Option Kind) → used ≤ length s → found_fits s used second third found ≡ true
    → used + found_stored third found ≤ length s
unfolding kind_fits textual
found_inside s used second third (Some Int) u h = omega arith
found_inside s used second third (Some Float) u h = omega arith
found_inside s used second third (Some Str) u h = placed-inside s used second third u (both (placed s used second third) _ h).0
found_inside s used second third (Some Blob) u h = placed-inside s used second third u h
found_inside s used second third (Some Vocab) u h = omega arith
found_inside s used second third None u h = clash h

-- the bytes of a row that fits are in the store
pub fits-inside : (s : List ℕ) (used : ℕ) (r : Row) → used ≤ length s → row_fits s used r ≡ true → used + stored r ≤ length s
unfolding row_fits stored kind_of
fits-inside s used r u = go (eqb r.code list_code) refl
  where
    go : (b : Bool) → eqb r.code list_code ≡ b
        → cond b (natural r.second && eqb r.third 0) (found_fits s used r.second r.third (kind_of r.code)) ≡ true
        → used + found_stored r.third (kind_of r.code) ≤ length s
    go true e h = rw (eqb-true r.code list_code e) (omega arith)
    go false e h = found_inside s used r.second r.third (kind_of r.code) u h

-- too few rows
shape-few : (s rows : List ℕ) (want used : ℕ) → length rows < 3 * want → shape s rows want used ≡ false
unfolding shape
shape-few s [] zero used h = absurd (omega arith)
shape-few s [] (suc want) used h = rw (ne_eqb (suc want) 0 (λ e. omega arith))
shape-few s (a ∷ []) want used h = refl
shape-few s (a ∷ b ∷ []) want used h = refl
shape-few s (a ∷ b ∷ c ∷ rows) zero used h = refl
shape-few s (a ∷ b ∷ c ∷ rows) (suc want) used h =
    and-false (row_fits s used (row a b c)) _ (shape-few s rows (want + gained (row a b c)) (used + stored (row a b c)) (omega arith))

-- rows left over
shape-over : (s rows : List ℕ) (want used : ℕ) → 0 < length rows → want ≡ 0 → shape s rows want used ≡ false
unfolding shape
shape-over s [] want used h z = absurd (omega arith)
shape-over s (a ∷ []) want used h z = refl
shape-over s (a ∷ b ∷ []) want used h z = refl
shape-over s (a ∷ b ∷ c ∷ rows) zero used h z = refl
shape-over s (a ∷ b ∷ c ∷ rows) (suc want) used h z = absurd (omega arith)

shape_one : (s rows : List ℕ) (r : Row) (want used : ℕ) → 0 < want
    → shape s (r.code ∷ r.second ∷ r.third ∷ rows) want used ≡ (row_fits s used r && shape s rows (want - 1 + gained r) (used + stored r))
unfolding shape
shape_one s rows r zero used h = absurd (omega arith)
shape_one s rows r (suc want) used h = rw sub-one

-- One turn of the loop over the rows. L is the answer for all rows, which before the turn is that for the rows from row i on.
module _ (L : Bool) (s rows : List ℕ) (i want used : ℕ) (inv : L ≡ shape s (rows_from rows i) want used) where
  pub turn-over : i < rows_in rows → want ≡ 0 → false ≡ L
  turn-over h z = sym (inv ∙ shape-over s (rows_from rows i) want used (omega (arith, length-drop (3 * i) rows)) z)

  pub turn-few : rows_in rows - i < want → false ≡ L
  turn-few h = sym (inv ∙ shape-few s (rows_from rows i) want used (omega (arith, length-drop (3 * i) rows)))

  pub turn_end : length rows ≤ 3 * i → (eqb want 0 && eqb used (length s)) ≡ L
  unfolding shape
  turn_end h = sym (inv ∙ rw (drop_of_length-le rows h))

  module _ (more : 0 < want) (fits : i < rows_in rows) (r : Row) (is-r : r ≡ row_at rows (3 * i)) (ok : Bool) (is_ok : ok ≡ row_fits s used r) where
    turn : L ≡ (ok && shape s (rows_from rows (i + 1)) (want - 1 + gained r) (used + stored r))
    turn = inv ∙ ap (λ (l : List ℕ). shape s l want used) (front-row rows i fits r is-r) ∙ shape_one s (rows_from rows (i + 1)) r want used more ∙ rw (← is_ok)

    pub turn-stop : ok ≡ false → false ≡ L
    turn-stop h = sym (turn ∙ rw h)

    pub turn-goes : (g t : ℕ) → ok ≡ true → g ≡ gained r → t ≡ stored r → L ≡ shape s (rows_from rows (i + 1)) (want - 1 + g) (used + t)
    turn-goes g t h p q = turn ∙ rw (h, p, q)

-- a shape uses the whole store
pub shape-stored : (s rows : List ℕ) (want used : ℕ) → shape s rows want used ≡ true → used + stored_from rows ≡ length s
unfolding shape stored_from
shape-stored s [] want used h = omega (arith, eqb-true used (length s) (both (eqb want 0) _ h).1)
shape-stored s (a ∷ []) want used h = clash h
shape-stored s (a ∷ b ∷ []) want used h = clash h
shape-stored s (a ∷ b ∷ c ∷ rows) zero used h = clash h
shape-stored s (a ∷ b ∷ c ∷ rows) (suc want) used h =
    omega (arith, shape-stored s rows (want + gained (row a b c)) (used + stored (row a b c)) (both (row_fits s used (row a b c)) _ h).1)
