-- `lawful::is_lawful` meets its contract: the length is judged, then the slots in turn. Invariant: the first i slots are lawful.
use mathlib.Core.Path.{◌≡◌}
use mathlib.Core.Bool.{true}
use Rattle.wire.specs.Every.{every}
use Rattle.lawful.specs.Lawful.{lawful_at}
use Rattle.lawful.proofs.is_lawful.Given as goal

abbrev pub invariant-loop-i : goal.invariant-loop-i
invariant-loop-i l = every l.i (lawful_at l.sockets l.c l.t) ≡ true
