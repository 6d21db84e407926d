-- A packet's bytes leave each field of a row within its type.
use Prim.Native.Nat.{ℕ, zero, suc, ◌<◌, ◌^◌}
use mathlib.Core.Bool.{Bool, true, false}
use mathlib.Core.List.{List}
use Rattle.wire.specs.Number.{number_at, Bytes}
use Rattle.catalogue.specs.Lookup.{parameter_of, kind_in}
use Rattle.slot.specs.Slot.{param_count, Fits}
use Rattle.slot.specs.declared.Slot.{Slot}
use Rattle.slot.proofs.Filling.{number_small}
use Rattle.slot.proofs.Values.{value-fits}
use Rattle.parameters.specs.Data.{map_of, named, width, offset_of, value_at, value_in, store_if, stored_to, stored}
use Rattle.parameters.proofs.Widths.{width-most, held_small}

value-small : (year kind : ℕ) (payload : List ℕ) (at : ℕ) → Bytes payload → value_at (width year kind) payload at < 256 ^ 4
value-small year kind payload at h =
    held_small (width year kind) (number_at (width year kind) payload at) (number_small (width year kind) payload at h) (width-most year kind)

store-fits : (b : Bool) (s : Slot) (p bits : ℕ) → Fits s → bits < 256 ^ 4 → Fits (store_if b s p bits)
store-fits true s p bits f h = value-fits s p bits f h
store-fits false s p bits f h = f

module _ (c payload : List ℕ) (s : Slot) (h : Bytes payload) (f : Fits s) where
  fits-to : (n : ℕ) → Fits (stored_to c s (map_of payload) payload n)
  unfolding stored_to
  fits-to zero = f
  fits-to (suc n) =
      store-fits (named (map_of payload) n) (stored_to c s (map_of payload) payload n) n (value_in c s (map_of payload) payload n) (fits-to n)
      (value-small s.year (kind_in (parameter_of c s.device n)) payload (offset_of c s (map_of payload) n) h)

  -- LAW: a packet of bytes leaves a row whose fields have their types
  pub data-fits : Fits (stored c payload s)
  data-fits = fits-to param_count
