-- A part without a 00 has none at any place; and a Boolean is not both.
use Prim.Native.Nat.{ℕ, zero, suc, ◌≤◌, ◌<◌}
use mathlib.Core.Path.{◌≡◌}
use mathlib.Core.Bool.{true, false}
use mathlib.Core.List.{List, [], ◌∷◌}
use native.Mathlib.Omega.{arith}
use lib.ListN.{length, get_or}
use Rattle.wire.specs.Zero.{has_zero}

-- a Boolean is not both
pub clash : {X : Type 0} → true ≡ false → X
clash h = let z : ◌≡◌ {A = ℕ} 0 1 = cc in absurd (omega arith)

pub zero-at : (e : List ℕ) (i : ℕ) → has_zero e ≡ false → i < length e → 1 ≤ get_or e i 0
unfolding has_zero
zero-at [] i z h = absurd (omega arith)
zero-at (zero ∷ e) i z h = clash z
zero-at (suc b ∷ e) zero z h = omega arith
zero-at (suc b ∷ e) (suc i) z h = zero-at e i z (omega arith)
