-- What a record says of its size.
use Prim.Native.Nat.{ℕ, ◌≤◌}
use mathlib.Core.Path.{◌≡◌}
use mathlib.Core.List.{List}
use native.Mathlib.Omega.{arith}
use lib.ListN.{get_or}
use Rattle.replay.specs.Record.{record_size}

-- a packet's record has four bytes before the packet
pub receive-size : (s : List ℕ) → get_or s 0 0 ≡ 1 → 4 ≤ record_size s
unfolding record_size
receive-size s e = rw e (omega arith)

-- and so has a line's record
pub line-size : (s : List ℕ) → get_or s 0 0 ≡ 7 → 4 ≤ record_size s
unfolding record_size
line-size s e = rw e (omega arith)
