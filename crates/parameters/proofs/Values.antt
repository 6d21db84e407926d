-- After a DEVICE_DATA packet each parameter is the packet's where the map names it and else the old one; the rest of the row stays.
use Prim.Native.Nat.{ℕ, zero, suc, ◌<◌}
use mathlib.Core.Path.{◌≡◌, refl, ◌∙◌}
use mathlib.Core.Bool.{Bool, true, false, cond}
use mathlib.Core.List.{List}
use native.Mathlib.Omega.{arith}
use lib.ListN.{length, set}
use Rattle.slot.specs.Slot.{param_count, present_at, bits_at}
use Rattle.slot.specs.declared.Slot.{Slot}
use Rattle.parameters.specs.Data.{map_of, named, value_in, store_if, stored_to, stored}
use Rattle.parameters.proofs.Stores.{each-element}

-- the same device's row, whatever its values
pub record SameDevice (s t : Slot) : Type 0 where
  pub taken-same : t.taken ≡ s.taken
  pub socket-same : t.socket ≡ s.socket
  pub device-same : t.device ≡ s.device
  pub year-same : t.year ≡ s.year
  pub uid-same : t.uid ≡ s.uid

pub same_self : (s : Slot) → SameDevice s s
same_self s = record { taken-same = refl; socket-same = refl; device-same = refl; year-same = refl; uid-same = refl }

pub same-on : {s t u : Slot} → SameDevice s t → SameDevice t u → SameDevice s u
same-on h k =
    record {
      taken-same = k.taken-same ∙ h.taken-same;
      socket-same = k.socket-same ∙ h.socket-same;
      device-same = k.device-same ∙ h.device-same;
      year-same = k.year-same ∙ h.year-same;
      uid-same = k.uid-same ∙ h.uid-same;
    }

store-device : (b : Bool) (s t : Slot) (p bits : ℕ) → SameDevice s t → SameDevice s (store_if b t p bits)
store-device true s t p bits h =
    record {
      taken-same = h.taken-same;
      socket-same = h.socket-same;
      device-same = h.device-same;
      year-same = h.year-same;
      uid-same = h.uid-same;
    }
store-device false s t p bits h = h

store-present : (b : Bool) (s : Slot) (p bits : ℕ) → (store_if b s p bits).present ≡ cond b (set s.present p true) s.present
store-present true s p bits = refl
store-present false s p bits = refl

store-bits : (b : Bool) (s : Slot) (p bits : ℕ) → (store_if b s p bits).bits ≡ cond b (set s.bits p bits) s.bits
store-bits true s p bits = refl
store-bits false s p bits = refl

module _ (c : List ℕ) (s : Slot) (map : ℕ) (payload : List ℕ) where
  abbrev row : ℕ → Slot
  row n = stored_to c s map payload n

  device-kept : (n : ℕ) → SameDevice s (stored_to c s map payload n)
  unfolding stored_to
  device-kept zero = same_self s
  device-kept (suc n) = store-device (named map n) s (row n) n (value_in c s map payload n) (device-kept n)

  present-step : (p : ℕ) → (row (suc p)).present ≡ cond (named map p) (set (row p).present p true) (row p).present
  unfolding stored_to
  present-step p = store-present (named map p) (row p) p (value_in c s map payload p)

  bits-step : (p : ℕ) → (row (suc p)).bits ≡ cond (named map p) (set (row p).bits p (value_in c s map payload p)) (row p).bits
  unfolding stored_to
  bits-step p = store-bits (named map p) (row p) p (value_in c s map payload p)

module _ (c : List ℕ) (payload : List ℕ) (s : Slot) where
  -- LAW: socket, type, year and UID stay
  pub data-same-device : SameDevice s (stored c payload s)
  data-same-device = device-kept c s (map_of payload) payload param_count

  -- LAW: every parameter that the map names is held afterwards, and every other one as before
  pub data-present :
      length s.present ≡ param_count → (p : ℕ) → p < param_count →
      present_at (stored c payload s) p ≡ cond (named (map_of payload) p) true (present_at s p)
  unfolding stored_to
  data-present h p l =
      each-element (named (map_of payload)) (λ q. true) (λ n. (row c s (map_of payload) payload n).present)
      (present-step c s (map_of payload) payload) false param_count p l (omega (arith, h))

  -- LAW: its bits are the packet's where the map names it, else the old ones
  pub data-bits :
      length s.bits ≡ param_count → (p : ℕ) → p < param_count →
      bits_at (stored c payload s) p ≡ cond (named (map_of payload) p) (value_in c s (map_of payload) payload p) (bits_at s p)
  unfolding stored_to
  data-bits h p l =
      each-element (named (map_of payload)) (value_in c s (map_of payload) payload)
      (λ n. (row c s (map_of payload) payload n).bits)
      (bits-step c s (map_of payload) payload) 0 param_count p l (omega (arith, h))
