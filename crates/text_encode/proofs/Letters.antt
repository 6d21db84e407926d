-- Laws of a vocab's letters.
use Prim.Native.Nat.{ℕ, zero, suc, ◌/◌, ◌%◌, ◌^◌, ◌<◌}
use mathlib.Core.Path.{◌≡◌, sym, ap}
use mathlib.Core.Bool.{cond}
use mathlib.Core.List.{List, [], ◌∷◌}
use native.Mathlib.Omega.{arith}
use native.Mathlib.Nat.{pow-suc}
use lib.Dec.{eqb}
use borrow.Author.Tests.{eq-eqb, ne_eqb}
use Rattle.wire.specs.Number.{le_bytes}
use Rattle.text.specs.Text.{until_zero, letters}

-- one byte more of a number that has no more is a zero
until-wider : (k n : ℕ) → n < 256 ^ k → until_zero (le_bytes k n) ≡ until_zero (le_bytes (suc k) n)
until-wider zero n h =
    let z : n ≡ 0 = omega arith in
    rw z
until-wider (suc k) n h =
    ap (λ (bs : List ℕ). cond (eqb (n % 256) 0) [] (n % 256 ∷ bs)) (until-wider k (n / 256) (omega (arith, pow-suc 256 k)))

-- the first letter, and those behind it
pub letters-more : (n : ℕ) → n < 2 ^ 32 → (n % 256 ≡ 0 → ⊥) → letters n ≡ n % 256 ∷ letters (n / 256)
letters-more n h f =
    let e : letters (n / 256) ≡ until_zero (le_bytes 3 (n / 256)) = sym (until-wider 3 (n / 256) (omega arith)) in
    rw e (rw (ne_eqb (n % 256) 0 f))

pub letters-none : (n : ℕ) → n % 256 ≡ 0 → letters n ≡ []
letters-none n e = rw (eq-eqb (n % 256) 0 e)
