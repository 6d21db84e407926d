use mathlib.Core.Path.{refl}
use native.Mathlib.Omega.{arith}
use Rattle.parameters.proofs.Walks.{bits-are}
use Rattle.parameters.proofs.data.bits_of.Goals as goal

pub returns : goal.returns
returns c = bits-are c.args.map _ (omega arith) refl
