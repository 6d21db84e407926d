-- Laws of the one pass over the rows: the codes looked up ahead, and the sizes.
use Rattle.std.specs.Prelude.{Option, Some, None}
use Prim.Native.Nat.{ℕ, zero, suc, ◌+◌, ◌-◌, ◌*◌, ◌≤◌, ◌<◌}
use mathlib.Core.Path.{◌≡◌, refl, sym, ap, ◌∙◌}
use mathlib.Core.Bool.{Bool, true, false, cond}
use mathlib.Core.List.{List, [], ◌∷◌, ◌++◌}
use native.Mathlib.Omega.{arith}
use native.Mathlib.Numerals.{sub-one}
use native.Mathlib.Nat.{zero-add}
use lib.Dec.{eqb, ltb}
use lib.ListN.{length, get_or, length-append}
use borrow.Author.Tests.{lt-ltb, le-ltb, ltb-true}
use Rattle.list.specs.declared.Kind.{Kind}
use Rattle.list.specs.declared.Kind.TheVariants.{Int, Float, Str, Blob, Vocab}
use Rattle.list.specs.declared.Row.{Row}
use Rattle.list.specs.Kind.{kind_of, list_code}
use Rattle.list.specs.Strings.{terminator}
use Rattle.list.specs.Bytes.{number, value_bytes, common}
use Rattle.list.specs.RowBytes.{row, row_at}
use Rattle.list_rows.specs.Described.{part, value_of}
use Rattle.list_rows.specs.Row.{rows_in, rows_from, kind_stored, found_stored, stored}
use Rattle.list_rows.specs.Emit.{found_bytes, common_in, code_ahead, row_bytes, left_after, emit, kind_size, found_size, row_size, size_from, capped, stored_from}
use Rattle.list_rows.proofs.Rows.{front-row, few-left, part_length}

-- THE CODES AHEAD
common-few : (seen n : ℕ) (rows : List ℕ) → length rows < 3 → common_in seen n rows ≡ seen
unfolding common_in
common-few seen zero rows h = refl
common-few seen (suc n) [] h = refl
common-few seen (suc n) (a ∷ []) h = refl
common-few seen (suc n) (a ∷ b ∷ []) h = refl
common-few seen (suc n) (a ∷ b ∷ c ∷ rows) h = absurd (omega arith)

common-end : (seen n : ℕ) (rows : List ℕ) (i : ℕ) → ((n ≡ 0 → ⊥) → rows_in rows ≤ i) → common_in seen n (rows_from rows i) ≡ seen
unfolding common_in
common-end seen zero rows i h = refl
common-end seen (suc n) rows i h = common-few seen (suc n) (rows_from rows i) (few-left rows i (h (λ e. omega arith)))

common-one : (seen n a b c : ℕ) (rows : List ℕ) → 0 < n → common_in seen n (a ∷ b ∷ c ∷ rows) ≡ common_in (common seen a) (n - 1) rows
unfolding common_in
common-one seen zero a b c rows h = absurd (omega arith)
common-one seen (suc n) a b c rows h = rw sub-one

-- L is the answer for all elements, which before a turn is that for `left` elements from row i on
module _ (L : ℕ) (rows : List ℕ) (i left seen : ℕ) (inv : L ≡ common_in seen left (rows_from rows i)) where
  -- no element is left, or no row
  pub common-done : ((left ≡ 0 → ⊥) → rows_in rows ≤ i) → seen ≡ L
  common-done h = sym (inv ∙ common-end seen left rows i h)

  pub common-turn : (x : ℕ) → 0 < left → i < rows_in rows → x ≡ common seen (get_or rows (3 * i) 0) → L ≡ common_in x (left - 1) (rows_from rows (i + 1))
  common-turn x more long e = inv ∙ rw (front-row rows i long _ refl, e) (common-one seen left _ _ _ (rows_from rows (i + 1)) more)

-- THE SIZES
size_few : (rows : List ℕ) (left : ℕ) → length rows < 3 → size_from rows left ≡ 0
unfolding size_from
size_few [] left h = refl
size_few (a ∷ []) left h = refl
size_few (a ∷ b ∷ []) left h = refl
size_few (a ∷ b ∷ c ∷ rows) left h = absurd (omega arith)

size-one : (r : Row) (rows : List ℕ) (left : ℕ)
    → size_from (r.code ∷ r.second ∷ r.third ∷ rows) left ≡ row_size left r + size_from rows (left_after left (code_ahead rows r) r)
unfolding size_from
size-one r rows left = refl

pub size-short : (rows : List ℕ) (i left : ℕ) → rows_in rows ≤ i → size_from (rows_from rows i) left ≡ 0
size-short rows i left h = size_few (rows_from rows i) left (few-left rows i h)

stored_one : (r : Row) (rows : List ℕ) → stored_from (r.code ∷ r.second ∷ r.third ∷ rows) ≡ stored r + stored_from rows
unfolding stored_from
stored_one r rows = refl

-- row i
module _ (rows : List ℕ) (i : ℕ) (fits : i < rows_in rows) (r : Row) (is-r : r ≡ row_at rows (3 * i)) where
  pub size-turn : (left : ℕ) → size_from (rows_from rows i) left ≡ row_size left r + size_from (rows_from rows (i + 1)) (left_after left (code_ahead (rows_from rows (i + 1)) r) r)
  size-turn left = ap (λ (l : List ℕ). size_from l left) (front-row rows i fits r is-r) ∙ size-one r (rows_from rows (i + 1)) left

  pub stored-turn : stored_from (rows_from rows i) ≡ stored r + stored_from (rows_from rows (i + 1))
  stored-turn = ap stored_from (front-row rows i fits r is-r) ∙ stored_one r (rows_from rows (i + 1))

pub capped-over : (limit L total x : ℕ) → L ≡ total + x → limit < total → limit + 1 ≡ capped limit L
unfolding capped
capped-over limit L total x h g = rw (lt-ltb limit L (omega arith)) (omega arith)

pub capped_is : (limit L total x : ℕ) → L ≡ total + x → x ≡ 0 → total ≤ limit → total ≡ capped limit L
unfolding capped
capped_is limit L total x h z g = rw (le-ltb limit L (omega arith)) (omega arith)

pub capped-low : (limit n L : ℕ) → n ≡ capped limit L → n ≤ limit → n ≡ L
unfolding capped
capped-low limit n L = go (ltb limit L) refl
  where
    go : (b : Bool) → ltb limit L ≡ b → n ≡ cond b (suc limit) L → n ≤ limit → n ≡ L
    go true e h g = absurd (omega arith)
    go false e h g = h

pub capped-high : (limit n L : ℕ) → n ≡ capped limit L → limit < n → limit < L
unfolding capped
capped-high limit n L = go (ltb limit L) refl
  where
    go : (b : Bool) → ltb limit L ≡ b → n ≡ cond b (suc limit) L → limit < n → limit < L
    go true e h g = ltb-true limit L e
    go false e h g = omega arith

value-size : (bs : List ℕ) (second third : ℕ) (k : Kind) → length bs ≡ kind_stored third k → length (value_bytes (value_of bs second third k)) ≡ kind_size third k
value-size bs second third Int h = refl
value-size bs second third Float h = refl
value-size bs second third Str h = omega (arith, length-append bs terminator)
value-size bs second third Blob h = omega arith
value-size bs second third Vocab h = refl

found-size : (bs : List ℕ) (second third : ℕ) (found : Option Kind) → length bs ≡ found_stored third found
    → length (found_bytes bs second third found) ≡ found_size third found
found-size bs second third (Some k) h = value-size bs second third k h
found-size bs second third None h = refl

pub row-size : (bs : List ℕ) (left code : ℕ) (r : Row) → length bs ≡ stored r → length (row_bytes bs left code r) ≡ row_size left r
unfolding row_bytes row_size stored
row-size bs left code r h = go (eqb r.code list_code) (eqb left 0)
  where
    go : (a b : Bool) → length (cond a (number code ++ number r.second) (cond b (number code) [] ++ found_bytes bs r.second r.third (kind_of r.code)))
        ≡ cond a 8 (cond b 4 0 + found_size r.third (kind_of r.code))
    go true b = refl
    go false true = omega (arith, found-size bs r.second r.third (kind_of r.code) h)
    go false false = found-size bs r.second r.third (kind_of r.code) h ∙ sym (zero-add _)

pub emit-size : (s rows : List ℕ) (left used : ℕ) → used + stored_from rows ≤ length s → length (emit s rows left used) ≡ size_from rows left
unfolding emit size_from stored_from
emit-size s [] left used h = refl
emit-size s (a ∷ []) left used h = refl
emit-size s (a ∷ b ∷ []) left used h = refl
emit-size s (a ∷ b ∷ c ∷ rows) left used h =
    let r : Row = row a b c in
    let code : ℕ = code_ahead rows r in
    let bs : List ℕ = part s used (stored r) in
    omega (
      arith,
      length-append (row_bytes bs left code r) (emit s rows (left_after left code r) (used + stored r)),
      row-size bs left code r (part_length s used (stored r) (omega arith)),
      emit-size s rows (left_after left code r) (used + stored r) (omega arith),
    )
