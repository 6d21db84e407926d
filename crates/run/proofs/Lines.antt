-- The line of a list: how long it is, and that it tells the list's own numbers.
use Prim.Native.Nat.{ℕ, ◌≤◌}
use mathlib.Core.Path.{◌≡◌}
use mathlib.Core.List.{List}
use native.Mathlib.Omega.{arith}
use lib.ListN.{length, length-append}
use Rattle.list.specs.Tree.{Elements}
use Rattle.list.specs.Bytes.{list_bytes}
use Rattle.list.specs.Rows.{row_count}
use Rattle.output.proofs.Digits.{decimal-short}
use Rattle.report.specs.Added.{Added}
use Rattle.run.specs.Limits.{longest_line}
use Rattle.run.specs.Text.{list_line, line_of}

pub list-short : (k consumed rows : ℕ) → length (list_line k consumed rows) ≤ longest_line
unfolding list_line
list-short k consumed rows = simp length-append (omega (arith, decimal-short k, decimal-short consumed, decimal-short rows))

pub own-numbers : {old new : List ℕ} {at to n m : ℕ} (k : ℕ) (es : Elements) → n ≡ length (list_bytes es) → m ≡ row_count es
    → Added old at new to (list_line k n m) → Added old at new to (line_of k es)
own-numbers k es size count d = rw (size, count) at d
