-- The signed number of 16 bits, in 32 bits.
use Prim.Native.Nat.{ℕ, ◌+◌, ◌%◌, ◌≤◌, ◌<◌}
use mathlib.Core.Path.{◌≡◌, refl}
use mathlib.Core.Bool.{Bool, true, false}
use native.Mathlib.Omega.{arith}
use lib.Dec.{ltb}
use borrow.Author.Tests.{lt-ltb, le-ltb, ltb-true, ltb-false}
use mir.Syntax.{w16, w32}
use mir.Facts.{sfits_to_z, sfits_widen, to_z-of_z}
use Rattle.value.specs.Meaning.{int_of, short_of, extended}

-- 16 bits without the sign bit stay as they are
pub extended-up : (b : ℕ) → b < 0x8000 → extended b ≡ b
extended-up b h = rw (lt-ltb b 0x8000 h)

-- with it all bits of the upper half are set
pub extended-down : (b : ℕ) → 0x8000 ≤ b → b < 0x1_0000 → extended b ≡ 0xffff_0000 + b
extended-down b h l = rw (le-ltb b 0x8000 h) (omega arith)

module _ (b : ℕ) (l : b < 0x1_0000) where
  halves : (extended b < 0x1_0000_0000) × (extended b % 0x1_0000 ≡ b)
  halves = go (ltb b 0x8000) refl
    where
      go : (up : Bool) → ltb b 0x8000 ≡ up → (extended b < 0x1_0000_0000) × (extended b % 0x1_0000 ≡ b)
      go true e = let k = extended-up b (ltb-true b 0x8000 e) in (omega (arith, k), omega (arith, k))
      go false e = let k = extended-down b (ltb-false b 0x8000 e) l in (omega (arith, k), omega (arith, k))

  -- LAW: 32 bits hold it
  pub extended-small : extended b < 0x1_0000_0000
  extended-small = halves.0

  -- LAW: their low half is the 16 bits
  pub extended-low : extended b % 0x1_0000 ≡ b
  extended-low = halves.1

  -- LAW: they say the signed number that the 16 bits say
  pub extended-says : int_of (extended b) ≡ short_of b
  extended-says = to_z-of_z {w = w32} (sfits_widen tt (sfits_to_z {w = w16} (record { fits = l })))
