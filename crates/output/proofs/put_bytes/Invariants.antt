-- `output::put_bytes` meets its contract. The invariant: with the bytes from the index on the output becomes what all bytes make of it.
use mathlib.Core.Path.{◌≡◌}
use lib.ListN.{length, drop}
use Rattle.output.specs.Output.{output, put_bytes}
use Rattle.output.proofs.put_bytes.Given as goal

abbrev pub invariant-loop-b : goal.invariant-loop-b
invariant-loop-b l =
    (length l.out ≡ length l.initial.out) × (put_bytes (output l.out l.at) (drop l.b-index l.bytes) ≡ put_bytes (output l.initial.out l.used) l.bytes)
