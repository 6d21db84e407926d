-- Laws of the one pass over the rows: what one turn writes.
use Prim.Native.Nat.{ℕ, ◌+◌, ◌*◌, ◌≤◌, ◌<◌}
use mathlib.Core.Path.{◌≡◌, refl, sym, ap, ◌∙◌}
use mathlib.Core.List.{List, [], ◌∷◌, ◌++◌}
use native.Mathlib.Omega.{arith}
use lib.ListN.{length}
use lib.Seq.{sets}
use Rattle.wire.proofs.Buffers.{sets_more}
use Rattle.list.specs.declared.Row.{Row}
use Rattle.list.specs.RowBytes.{row_at}
use Rattle.list_rows.specs.Described.{part}
use Rattle.list_rows.specs.Row.{rows_in, rows_from, stored}
use Rattle.list_rows.specs.Emit.{code_ahead, row_bytes, left_after, emit, row_size, stored_from}
use Rattle.list_rows.proofs.Rows.{front-row, few-left, part_length}
use Rattle.list_rows.proofs.Sizes.{stored-turn, row-size}

emit-one : (s : List ℕ) (r : Row) (rows : List ℕ) (left used : ℕ)
    → emit s (r.code ∷ r.second ∷ r.third ∷ rows) left used
    ≡ row_bytes (part s used (stored r)) left (code_ahead rows r) r ++ emit s rows (left_after left (code_ahead rows r) r) (used + stored r)
unfolding emit
emit-one s r rows left used = refl

emit-few : (s rows : List ℕ) (left used : ℕ) → length rows < 3 → emit s rows left used ≡ []
unfolding emit
emit-few s [] left used h = refl
emit-few s (a ∷ []) left used h = refl
emit-few s (a ∷ b ∷ []) left used h = refl
emit-few s (a ∷ b ∷ c ∷ rows) left used h = absurd (omega arith)

-- the store bytes of row i, and of the rows behind it, are in the store
pub turn_inside : (s rows : List ℕ) (n i used t : ℕ) (r : Row) → i < n → n ≡ rows_in rows → r ≡ row_at rows (3 * i) → t ≡ stored r
    → used + stored_from (rows_from rows i) ≤ length s → (used + t ≤ length s) × (used + t + stored_from (rows_from rows (i + 1)) ≤ length s)
turn_inside s rows n i used t r more is-n is-r is-t h =
    let e = stored-turn rows i (omega arith) r is-r in
    (omega arith, omega arith)

-- L is the buffer at the end, which before a turn is what the rows from row i on make of it
module _ (L s rows buffer : List ℕ) (i left used end : ℕ) (inv : L ≡ sets buffer end (emit s (rows_from rows i) left used)) where
  pub emit-done : rows_in rows ≤ i → buffer ≡ L
  emit-done h = sym (inv ∙ rw (emit-few s (rows_from rows i) left used (few-left rows i h)))

  pub emit-turn :
      (next : List ℕ) (r : Row) (code size l t : ℕ) → i < rows_in rows → r ≡ row_at rows (3 * i) → t ≡ stored r → used + t ≤ length s
      → code ≡ code_ahead (rows_from rows (i + 1)) r → next ≡ sets buffer end (row_bytes (part s used t) left code r) → size ≡ row_size left r
      → l ≡ left_after left code r
      → L ≡ sets next (end + size) (emit s (rows_from rows (i + 1)) l (used + t))
  emit-turn next r code size l t fits is-r is-t inside is_code is-next is-size is-l =
      let x : List ℕ = row_bytes (part s used t) left code r in
      let y : List ℕ = emit s (rows_from rows (i + 1)) (left_after left code r) (used + t) in
      let one : emit s (rows_from rows i) left used ≡ x ++ y =
      ap (λ (z : List ℕ). emit s z left used) (front-row rows i fits r is-r) ∙ emit-one s r (rows_from rows (i + 1)) left used ∙ rw (← is_code, ← is-t) in
      inv ∙ ap (sets buffer end) one
      ∙ sym (sets_more buffer x y end (end + size) (omega (arith, row-size (part s used t) left code r (part_length s used t inside ∙ is-t)))) ∙ rw (is-next, is-l)
