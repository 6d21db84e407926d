-- The values of a slot, judged by the bytes of its parameters.
use Prim.Native.Nat.{ℕ, ◌<◌}
use mathlib.Core.Path.{◌≡◌}
use mathlib.Core.Bool.{Bool}
use mathlib.Core.List.{List}
use Rattle.std.specs.Prelude.{Option, Some}
use lib.ListN.{get_or}
use Rattle.wire.specs.Every.{every}
use Rattle.wire.proofs.Chains.{every-same}
use Rattle.catalogue.specs.Format.{max_parameters, described}
use Rattle.catalogue.specs.Lookup.{device_of, parameter_in, BytesIn}
use Rattle.catalogue.specs.declared.Device.{Device}
use Rattle.catalogue.proofs.Bytes.{kind-is, readable-is}
use Rattle.slot.specs.Slot.{param_count, present_at, bits_at}
use Rattle.slot.specs.declared.Slot.{Slot}
use Rattle.lawful.specs.Lawful.{value_lawful, held_lawful}

value-by-byte :
    {c : List ℕ} {d : Option Device} {bytes : List ℕ} → BytesIn c d bytes → (p : ℕ) → p < max_parameters → (present : Bool) (bits : ℕ) →
    value_lawful (Some (described (get_or bytes p 0))) present bits ≡ value_lawful (parameter_in c d p) present bits
unfolding value_lawful
value-by-byte h p l present bits = rw (kind-is h p l, readable-is h p l)

-- LAW: the values are lawful where they are so by the bytes of the slot's device type
pub values-by-bytes :
    (c : List ℕ) (s : Slot) (bytes : List ℕ) → BytesIn c (device_of c s.device) bytes →
    every param_count (λ p. value_lawful (Some (described (get_or bytes p 0))) (present_at s p) (bits_at s p)) ≡ every param_count (held_lawful c s)
unfolding held_lawful
values-by-bytes c s bytes h = every-same param_count _ _ (λ p l. value-by-byte h p l (present_at s p) (bits_at s p))
