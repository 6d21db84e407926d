-- `list_decode::put::put_row` meets its contract: a part of the rows takes the row's bytes.
use Prim.Native.Nat.{◌+◌}
use mathlib.Core.Path.{◌≡◌, refl, ◌∙◌}
use mathlib.Core.List.{[], ◌∷◌}
use borrow.Author.Rules.{rules}
use Rattle.list.specs.RowBytes.{packed}
use Rattle.list_decode.proofs.Writing.{part-sets}
use Rattle.list_decode.proofs.put.put_row.Goals as goal

pub returns : goal.returns
returns c =
    let a = c.args in
    let row = packed (a.code ∷ a.second ∷ a.third ∷ []) in
    let put : c.copy_from_slice.new.self ≡ row = c.copy_from_slice.ensures.after ∙ c.row_bytes.ensures in
    rw put (part-sets a.rows.now a.at (a.at + 12) row refl (search rules))
