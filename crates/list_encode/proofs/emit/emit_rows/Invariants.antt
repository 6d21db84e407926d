-- `list_encode::emit::emit_rows` meets its contract.
-- The invariant: the buffer at the end is what the rows from row i on make of it, and there is room and store for them.
use Prim.Native.Nat.{◌+◌, ◌≤◌}
use mathlib.Core.Path.{◌≡◌}
use lib.ListN.{length}
use lib.Seq.{sets}
use Rattle.list.specs.Limits.{list_limit}
use Rattle.list.specs.RowBytes.{unpacked}
use Rattle.list_rows.specs.Row.{rows_from}
use Rattle.list_rows.specs.Emit.{emit, size_from, stored_from}
use Rattle.list_encode.proofs.emit.emit_rows.Given as goal

abbrev pub invariant-loop-i : goal.invariant-loop-i
invariant-loop-i l =
    (sets l.initial.buffer 0 (emit l.store (unpacked l.rows) 0 0) ≡ sets l.buffer l.end (emit l.store (rows_from (unpacked l.rows) l.i) l.left l.used))
    × (l.end + size_from (rows_from (unpacked l.rows) l.i) l.left ≤ list_limit)
    × (l.used + stored_from (rows_from (unpacked l.rows) l.i) ≤ length l.store)
    × (length l.buffer ≡ length l.initial.buffer)
