-- `catalogue::are_legal_parameters` meets its contract. Invariant: the flag speaks of the first i bytes.
use mathlib.Core.Path.{◌≡◌}
use lib.ListN.{get_or}
use Rattle.wire.specs.Every.{every}
use Rattle.catalogue.specs.Format.{parameter_legal}
use Rattle.catalogue.proofs.are_legal_parameters.Given as goal

abbrev pub invariant-loop-b : goal.invariant-loop-b
invariant-loop-b l = l.legal ≡ every l.b-index (λ k. parameter_legal (get_or l.bytes k 0))
