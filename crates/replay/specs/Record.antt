-- The records that replay reads, by their first byte.
use Rattle.std.specs.Prelude.{ℕ, ◌+◌, ◌≤◌, cond, List, eqb, length, get_or}
use Rattle.wire.specs.Number.{number_at}
use Rattle.table.specs.Places.{slot_count, table_size}

-- the bytes of a record: "01, socket, two-byte length, packet bytes", 02 to 06, and 07, "socket, two-byte length, bytes as they arrive";
-- 0 where it is unknown
unfoldable pub record_size : List ℕ → ℕ
record_size s =
    cond (eqb (get_or s 0 0) 1) (4 + number_at 2 s 2)
    (cond (eqb (get_or s 0 0) 2) 2
    (cond (eqb (get_or s 0 0) 3) 1
    (cond (eqb (get_or s 0 0) 4) 3
    (cond (eqb (get_or s 0 0) 5) (1 + table_size slot_count)
    (cond (eqb (get_or s 0 0) 6) 1
    (cond (eqb (get_or s 0 0) 7) (4 + number_at 2 s 2)
    0))))))

-- a known record, not cut short
pub record Whole (s : List ℕ) : Type 0 where
  pub known : 1 ≤ record_size s
  pub present : record_size s ≤ length s
