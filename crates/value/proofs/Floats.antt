-- The published double has exactly the single's value; an infinity or a NaN keeps its sign and its fraction, 29 bits up.
use Prim.Native.Nat.{ℕ, ◌+◌, ◌*◌, ◌≤◌, ◌<◌}
use mathlib.Core.Path.{◌≡◌, refl}
use mathlib.Core.Bool.{not, ◌&&◌}
use mathlib.Core.Logic.{◌⊎◌, inl, inr, ⊎_elim}
use native.Mathlib.Omega.{arith}
use native.Mathlib.Nat.{eq-or-lt_of_le}
use lib.Dec.{T}
use lib.Ieee.{binary32, binary64, of_bits, nan_bits, is_nan, fits}
use lib.Ieee.Bits.{nan_bits_above, nan_bits_is, of_bits-to_bits, of_bits-fits}
use lib.Ieee.Fits.{fits_widens, and_i}
use borrow.Author.Tests.{lt-ltb, le-ltb}
use Rattle.value.specs.Meaning.{sign_of, low_of, fraction_of, infinity, widened}

-- bits at most the infinity's are no NaN
pub not-nan : (b : ℕ) → low_of b ≤ infinity → T (not (nan_bits binary32 b))
not-nan b h = rw (nan_bits_above binary32 b, le-ltb _ _ h) tt

pub not-isnan : (b : ℕ) → low_of b ≤ infinity → T (not (is_nan (of_bits binary32 b)))
not-isnan b h = rw (nan_bits_is binary32 b) at (not-nan b h)

-- what the cast to a double asks
pub cast-asks : (b : ℕ) → low_of b ≤ infinity → T (fits binary64 (of_bits binary32 b) && not (is_nan (of_bits binary32 b)))
cast-asks b h =
    and_i (fits binary64 (of_bits binary32 b)) (not (is_nan (of_bits binary32 b)))
    (fits_widens (of_bits binary32 b) (of_bits-fits binary32 b))
    (not-isnan b h)

-- LAW: an infinity or a NaN keeps the sign, its fraction moved 29 bits up
pub special-widened :
    (b : ℕ) → infinity ≤ low_of b →
    widened b ≡ sign_of b * 0x8000_0000_0000_0000 + 0x7ff0_0000_0000_0000 + fraction_of b * 0x2000_0000
special-widened b h = rw (le-ltb _ _ h)

-- the bits of the two infinities
pub infinities : (b : ℕ) → b < 0x1_0000_0000 → low_of b ≡ infinity → (b ≡ 0x7f80_0000) ⊎ (b ≡ 0xff80_0000)
infinities b l e = either (sign_of b) (omega arith) refl
  where
    either : (n : ℕ) → n < 2 → sign_of b ≡ n → (b ≡ 0x7f80_0000) ⊎ (b ≡ 0xff80_0000)
    either n k q = ⊎_elim (λ (z : n ≡ 1). inr (omega arith)) (λ (z : n < 1). inl (omega arith)) (let g : n ≤ 1 = omega arith in eq-or-lt_of_le g)

infinite : (b : ℕ) → b < 0x1_0000_0000 → low_of b ≡ infinity → of_bits binary64 (widened b) ≡ of_bits binary32 b
unfolding of_bits
infinite b l e = ⊎_elim (λ (q : b ≡ 0x7f80_0000). rw q) (λ (q : b ≡ 0xff80_0000). rw q) (infinities b l e)

-- LAW: the double has exactly the single's value
pub same-value : (b : ℕ) → b < 0x1_0000_0000 → low_of b ≤ infinity → of_bits binary64 (widened b) ≡ of_bits binary32 b
same-value b l h =
    ⊎_elim
    (λ (e : low_of b ≡ infinity). infinite b l e)
    (λ (k : low_of b < infinity).
    rw (lt-ltb _ _ k) (of_bits-to_bits binary64 (of_bits binary32 b) (fits_widens (of_bits binary32 b) (of_bits-fits binary32 b))))
    (eq-or-lt_of_le h)
