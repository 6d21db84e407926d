-- After a step that handed over a list, the areas hold the list's rows and store bytes at their front, and they may be written.
use Prim.Native.Nat.{ℕ, ◌*◌}
use mathlib.Core.Path.{◌≡◌, sym, ap, ◌∙◌}
use mathlib.Core.List.{List}
use native.Mathlib.Omega.{arith}
use lib.ListN.{length, take, drop}
use lib.Seq.{take_at}
use Rattle.wire.specs.Area.{over}
use Rattle.list.specs.Limits.{row_room, store_room}
use Rattle.list.specs.Tree.{Elements}
use Rattle.list.specs.Rows.{list_rows, list_store}
use Rattle.list.specs.RowBytes.{packed}
use Rattle.list.proofs.RowBytes.{packed-length}
use Rattle.list.proofs.RowBound.{row-numbers, rows_fit, store-bound}
use Rattle.list_rows.specs.Judge.{accepted, to_write}
use Rattle.list_rows.proofs.Legality.{legal-listed}
use Rattle.report.proofs.Answers.{ListAt}
use Rattle.show.specs.Held.{Held}

pub held : (rows store : List ℕ) {s rows' store' : List ℕ} {offset n m u : ℕ} (at : ListAt s offset n m u) → length rows' ≡ 4 * row_room → length store' ≡ store_room
    → (rows' ≡ over (packed (list_rows at.tree)) rows) × (store' ≡ over (list_store at.tree) store) → Held rows' m store' u at.tree
held rows store {m = m} {u = u} at h g e =
    let es = at.tree in
    let size : length (packed (list_rows es)) ≡ 12 * m = omega (arith, packed-length (list_rows es), row-numbers es, at.count) in
    record {
      legal = at.legal;
      few = omega (arith, rows_fit es at.legal, at.count);
      rows_are = ap (take (12 * m)) e.0 ∙ take_at (packed (list_rows es)) (drop (length (packed (list_rows es))) rows) (12 * m) size;
      fits = omega (arith, store-bound _ es at.legal, at.stored);
      store_is = ap (take u) e.1 ∙ take_at (list_store es) (drop (length (list_store es)) store) u (sym at.stored);
    }

pub held_writes : {rows store : List ℕ} {m u : ℕ} (es : Elements) → Held rows m store u es → to_write (take (12 * m) rows) (take u store) ≡ accepted es
held_writes es d = rw (d.rows_are, d.store_is) (legal-listed es d.legal)
