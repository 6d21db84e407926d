-- `list::row_at` meets its contract: each number is read from its part of the row.
use Prim.Native.Nat.{ℕ, ◌*◌, ◌+◌}
use mathlib.Core.Path.{◌≡◌}
use mathlib.Core.List.{List}
use native.Mathlib.Omega.{arith}
use lib.ListN.{get_or}
use Rattle.list.specs.Limits.{row_numbers}
use Rattle.list.specs.RowBytes.{unpacked}
use Rattle.list.proofs.RowBytes.{unpacked-part}
use Rattle.list.proofs.row_at.Goals as goal

pub returns-then-i-rows : goal.returns-then-i-rows
returns-then-i-rows c =
    let a = c.args in
    let rows : List ℕ = a.rows.now in
    let at : ℕ = row_numbers * a.i in
    let inside = c.if-i-rows.true in
    let one : c.u32_at.result ≡ get_or (unpacked rows) at 0 =
    unpacked-part rows at (12 * a.i) (12 * a.i + 4) _ (omega arith) (omega arith) (omega arith) c.u32_at.ensures in
    let two : c.u32_at-then-i-rows.result ≡ get_or (unpacked rows) (at + 1) 0 =
    unpacked-part rows (at + 1) (12 * a.i + 4) (12 * a.i + 4 + 4) _ (omega arith) (omega arith) (omega arith) c.u32_at-then-i-rows.ensures in
    let three : c.u32_at-then-i-rows-2.result ≡ get_or (unpacked rows) (at + 2) 0 =
    unpacked-part rows (at + 2) (12 * a.i + 4 + 4) (12 * a.i + 4 + 4 + 4) _ (omega arith) (omega arith) (omega arith) c.u32_at-then-i-rows-2.ensures in
    rw (one, two, three)
