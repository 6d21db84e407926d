-- What stands at the front of characters: a text that is read there.
use Prim.Native.Nat.{ℕ, suc, ◌≤◌}
use mathlib.Core.Path.{◌≡◌, refl, ap}
use mathlib.Core.Bool.{Bool, true, false, ◌||◌}
use mathlib.Core.List.{List, ◌∷◌}
use native.Mathlib.Omega.{arith}
use lib.Dec.{eqb}
use lib.ListN.{length, take}
use borrow.Author.Tests.{ne_eqb}
use Rattle.digits.specs.Decimal.{is_decimal}
use Rattle.digits.proofs.Decimals.{digit-bounds}

-- the text is the first `count` characters
abbrev pub Front : List ℕ → List ℕ → ℕ → Type 0
Front s text count = (take count s ≡ text) × (count ≡ length text) × (count ≤ length s)

-- one character before a text
pub front-cons : (c : ℕ) (s text : List ℕ) (count : ℕ) → Front s text count → Front (c ∷ s) (c ∷ text) (suc count)
front-cons c s text count f = (ap (λ (t : List ℕ). c ∷ t) f.0, omega arith, omega arith)

-- a digit is no character below `0` or above `9`
pub digit_low : (c k : ℕ) → is_decimal c ≡ true → suc k ≤ 48 → eqb c k ≡ false
digit_low c k h l = ne_eqb c k (λ e. omega (arith, (digit-bounds c h).0))

pub digit-high : (c k : ℕ) → is_decimal c ≡ true → 58 ≤ k → eqb c k ≡ false
digit-high c k h l = ne_eqb c k (λ e. omega (arith, (digit-bounds c h).1))

-- neither of two tests
pub or_left : (a b : Bool) → (a || b) ≡ false → a ≡ false
or_left true b h = h
or_left false b h = refl

pub or_right : (a b : Bool) → (a || b) ≡ false → b ≡ false
or_right true b h = absurd (let z : ◌≡◌ {A = ℕ} 0 1 = cc in omega arith)
or_right false b h = h
