-- The numbers of the refusals.
use Prim.Native.Nat.{◌≤◌}
use native.Mathlib.Omega.{arith}
use Rattle.std.proofs.lemmas.Grind.{common_steps}
use Rattle.errors.specs.declared.Error.{Error}
use Rattle.errors.specs.Number.{number_of}

-- 0 is no refusal's number
pub some-number : (e : Error) → 1 ≤ number_of e
some-number e = grind (arith, common_steps)
