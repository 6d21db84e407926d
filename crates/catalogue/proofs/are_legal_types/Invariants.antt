-- `catalogue::are_legal_types` meets its contract. Invariant: the first i types are legal.
use mathlib.Core.Bool.{true}
use mathlib.Core.Path.{◌≡◌}
use Rattle.wire.specs.Every.{every}
use Rattle.catalogue.specs.Format.{type_legal}
use Rattle.catalogue.proofs.are_legal_types.Given as goal

abbrev pub invariant-loop-i : goal.invariant-loop-i
invariant-loop-i l = every l.i (type_legal l.s) ≡ true
