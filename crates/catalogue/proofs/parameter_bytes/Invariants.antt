-- `catalogue::parameter_bytes` meets its contract. Invariant: the first p bytes are there, zeros behind them.
use Prim.Native.Nat.{ℕ}
use mathlib.Core.Path.{◌≡◌}
use mathlib.Core.Bool.{cond}
use lib.Dec.{ltb}
use lib.ListN.{length, get_or}
use Rattle.catalogue.specs.Format.{max_parameters}
use Rattle.catalogue.proofs.parameter_bytes.Given as goal

abbrev pub invariant-loop-p : goal.invariant-loop-p
invariant-loop-p l = (length l.bytes ≡ max_parameters) × ((k : ℕ) → get_or l.bytes k 0 ≡ cond (ltb k l.p) (get_or l.rest k 0) 0)
