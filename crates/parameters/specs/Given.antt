-- Internal: what judging and storing are given of a row and of a value. Public contracts do not cite this file.
use Rattle.std.specs.Prelude.{ℕ, ◌≡◌, List, ◌⊎◌}
use Rattle.catalogue.specs.Lookup.{device_of, BytesIn}
use Rattle.slot.specs.declared.Slot.{Slot}
use Rattle.parameters.specs.Data.{flag_width, short_width, long_width}

-- the row's year, and the bytes of its device type's parameters
pub record Given (c : List ℕ) (s : Slot) (year : ℕ) (bytes : List ℕ) : Type 0 where
  pub year-is : year ≡ s.year
  pub bytes-are : BytesIn c (device_of c s.device) bytes

-- one of the widths that there are
abbrev pub IsWidth : ℕ → Type 0
IsWidth w = (w ≡ flag_width) ⊎ ((w ≡ short_width) ⊎ (w ≡ long_width))
