-- One step of each definition that a loop follows.
use Prim.Native.Nat.{ℕ, ◌+◌}
use mathlib.Core.Path.{◌≡◌}
use mathlib.Core.Bool.{true, false}
use mathlib.Core.List.{List}
use native.Mathlib.Numerals.{add-one}
use native.Mathlib.Nat.{add-zero}
use native.Mathlib.Omega.{arith}
use lib.ListN.{get_or}
use Rattle.wire.specs.Number.{number_at}
use Rattle.wire.proofs.Numbers.{number_step}
use Rattle.slot.specs.Slot.{with_value}
use Rattle.slot.specs.declared.Slot.{Slot}
use Rattle.parameters.specs.Data.{named, width_of, span_if, offset_of, value_in, store_if, stored_to}

offset-more : (c : List ℕ) (s : Slot) (map p : ℕ) → offset_of c s map (p + 1) ≡ offset_of c s map p + span_if c s p (named map p)
unfolding offset_of
offset-more c s map p = rw (add-one p)

stored_more :
    (c : List ℕ) (s : Slot) (map : ℕ) (payload : List ℕ) (p : ℕ) →
    stored_to c s map payload (p + 1) ≡ store_if (named map p) (stored_to c s map payload p) p (value_in c s map payload p)
unfolding stored_to
stored_more c s map payload p = rw (add-one p)

-- the same where the map names the parameter, and where it does not
module _ (c : List ℕ) (s : Slot) (map p : ℕ) where
  pub offset-named : named map p ≡ true → offset_of c s map (p + 1) ≡ offset_of c s map p + width_of c s p
  offset-named n = rw (offset-more c s map p, n)

  pub offset-unnamed : named map p ≡ false → offset_of c s map (p + 1) ≡ offset_of c s map p
  offset-unnamed n = rw (offset-more c s map p, n, add-zero)

  pub stored-named :
      (payload : List ℕ) → named map p ≡ true →
      stored_to c s map payload (p + 1) ≡ with_value (stored_to c s map payload p) p (value_in c s map payload p)
  stored-named payload n = rw (stored_more c s map payload p, n)

  pub stored-unnamed : (payload : List ℕ) → named map p ≡ false → stored_to c s map payload (p + 1) ≡ stored_to c s map payload p
  stored-unnamed payload n = rw (stored_more c s map payload p, n)

-- a number of one byte is the byte
pub number-1 : (s : List ℕ) (at : ℕ) → number_at 1 s at ≡ get_or s at 0
number-1 s at = let e = number_step 0 s at in omega arith
