-- Worked examples of the widening: one, the smallest subnormal, infinities, and a signalling NaN that is not quieted.
use mathlib.Core.Path.{◌≡◌, refl}
use lib.Ieee.{of_bits, to_bits}
use Rattle.value.specs.Meaning.{widened}

pub record BenchWidened : Type 0 where
  pub one : widened 0x3f80_0000 ≡ 0x3ff0_0000_0000_0000
  pub minus-zero : widened 0x8000_0000 ≡ 0x8000_0000_0000_0000
  pub least : widened 1 ≡ 0x36a0_0000_0000_0000
  pub plus-infinity : widened 0x7f80_0000 ≡ 0x7ff0_0000_0000_0000
  pub minus-infinity : widened 0xff80_0000 ≡ 0xfff0_0000_0000_0000
  pub signalling : widened 0xff80_0001 ≡ 0xfff0_0000_2000_0000

pub bench-widened : BenchWidened
unfolding of_bits to_bits
bench-widened =
    record {
      one = refl;
      minus-zero = refl;
      least = refl;
      plus-infinity = refl;
      minus-infinity = refl;
      signalling = refl;
    }
