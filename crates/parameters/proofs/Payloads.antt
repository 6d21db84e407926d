-- A payload made of a map and the named values' bytes, rising, is accepted and gives each value back; and an accepted payload is
-- made so.
use Prim.Native.Nat.{ℕ, zero, suc, ◌+◌, ◌*◌, ◌≤◌, ◌<◌, ◌^◌}
use mathlib.Core.Path.{◌≡◌, refl, sym, ap, ◌∙◌}
use mathlib.Core.Bool.{Bool, true, false, cond}
use mathlib.Core.List.{List, [], ◌++◌, append_assoc, append-nil}
use mathlib.Core.Logic.{⊎_elim}
use native.Mathlib.Omega.{arith}
use native.Mathlib.Nat.{add-zero, eq-or-lt_of_le}
use lib.ListN.{length, take, drop, length-append}
use lib.Seq.{take_at, drop_at, take-add, take_all}
use Rattle.wire.specs.Number.{le_value, le_bytes, number_at, Bytes}
use Rattle.wire.proofs.Numbers.{length-le_bytes, value-of-bytes}
use Rattle.catalogue.specs.Format.{kind_bool}
use Rattle.catalogue.specs.Lookup.{parameter_of, is_readable, kind_in}
use Rattle.slot.specs.Slot.{param_count}
use Rattle.slot.specs.declared.Slot.{Slot}
use Rattle.slot.proofs.Filling.{number-bytes, number_small}
use Rattle.table.specs.Change.{accepted}
use Rattle.parameters.specs.Data.{map_bytes, map_of, named, long_width, width_of, span_if, offset_of, held_bits, value_in, size_of, judged}
use Rattle.parameters.proofs.Judged.{Judged, judged-means}
use Rattle.parameters.proofs.Widths.{width-most, held_bytes, Carried}

-- the bytes of parameter p: those of its value where the map names it
abbrev pub bytes_of : List ℕ → Slot → ℕ → (ℕ → ℕ) → ℕ → List ℕ
bytes_of c s map values p = cond (named map p) (le_bytes (width_of c s p) (values p)) []

-- "the values of the set bits in rising order with nothing between", of the first n parameters
unfoldable pub values_to : List ℕ → Slot → ℕ → (ℕ → ℕ) → ℕ → List ℕ
values_to c s map values zero = []
values_to c s map values (suc p) = values_to c s map values p ++ bytes_of c s map values p

-- "a 32-bit map, low byte first, .. then the values"
abbrev pub payload_of : List ℕ → Slot → ℕ → (ℕ → ℕ) → List ℕ
payload_of c s map values = le_bytes map_bytes map ++ values_to c s map values param_count

module _ (c : List ℕ) (s : Slot) (map : ℕ) (values : ℕ → ℕ) where
  abbrev up_to : ℕ → List ℕ
  up_to n = values_to c s map values n

  abbrev one : ℕ → List ℕ
  one p = bytes_of c s map values p

  span : (p : ℕ) → length (one p) ≡ span_if c s p (named map p)
  span p = go (named map p)
    where
      go : (b : Bool) → length (cond b (le_bytes (width_of c s p) (values p)) []) ≡ cond b (width_of c s p) 0
      go true = length-le_bytes (width_of c s p) (values p)
      go false = refl

  length_to : (n : ℕ) → map_bytes + length (up_to n) ≡ offset_of c s map n
  unfolding offset_of values_to
  length_to zero = refl
  length_to (suc n) = omega (arith, length_to n, length-append (up_to n) (one n), span n)

  behind : (n p : ℕ) → p ≤ n → (r : List ℕ) × (up_to n ≡ up_to p ++ r)
  unfolding values_to
  behind zero p h = let e : p ≡ 0 = omega arith in rw e ([], refl)
  behind (suc n) p h =
      ⊎_elim
      (λ (e : p ≡ suc n). rw e ([], sym (append-nil (up_to n ++ one n))))
      (λ (l : p < suc n).
      let k = behind n p (omega arith) in
      (k.0 ++ one n, ap (λ (x : List ℕ). x ++ one n) k.1 ∙ append_assoc (up_to p) k.0 (one n)))
      (eq-or-lt_of_le h)

  abbrev payload : List ℕ
  payload = payload_of c s map values

  -- LAW: the map is found in front
  pub map_back : map < 2 ^ 32 → map_of (payload_of c s map values) ≡ map
  map_back h =
      ap le_value (take_at (le_bytes map_bytes map) (up_to param_count) map_bytes (length-le_bytes map_bytes map)) ∙
      value-of-bytes map_bytes map (omega arith)

  -- LAW: the payload is as long as the bits require
  pub size_back : length (payload_of c s map values) ≡ size_of c s map
  unfolding size_of
  size_back =
      omega (arith, length-append (le_bytes map_bytes map) (up_to param_count), length-le_bytes map_bytes map, length_to param_count)

  -- LAW: each named value is found in its place
  pub value-back :
      (p : ℕ) → p < param_count → named map p ≡ true → Carried (width_of c s p) (values p) →
      value_in c s map (payload_of c s map values) p ≡ values p
  unfolding values_to
  value-back p l n fit =
      let w = width_of c s p in
      let v = le_bytes w (values p) in
      let k = behind param_count (suc p) (omega arith) in
      let r = k.0 in
      let front = le_bytes map_bytes map ++ up_to p in
      let named-one : one p ≡ v = ap (λ (b : Bool). cond b v []) n in
      let split : payload ≡ front ++ (v ++ r) =
      ap (λ (x : List ℕ). le_bytes map_bytes map ++ x)
      (k.1 ∙ ap (λ (x : List ℕ). (up_to p ++ x) ++ r) named-one ∙ append_assoc (up_to p) v r) ∙
      sym (append_assoc (le_bytes map_bytes map) (up_to p) (v ++ r)) in
      let size : length front ≡ offset_of c s map p =
      omega (arith, length-append (le_bytes map_bytes map) (up_to p), length-le_bytes map_bytes map, length_to p) in
      let found : number_at w payload (offset_of c s map p) ≡ fit.0 =
      ap (λ (x : List ℕ). le_value (take w (drop (offset_of c s map p) x))) split ∙
      ap (λ (x : List ℕ). le_value (take w x)) (drop_at front (v ++ r) (offset_of c s map p) size) ∙
      ap le_value (take_at v r w (length-le_bytes w (values p)) ∙ ap (le_bytes w) fit.2 ∙ held_bytes w fit.0 fit.1) ∙
      value-of-bytes w fit.0 fit.1 in
      ap (held_bits w) found ∙ sym fit.2

  -- LAW: it fits the device where each named parameter is readable, its bytes carry each value and each flag is 0 or 1
  pub layout-judged :
      map < 2 ^ 32 → ((p : ℕ) → p < param_count → named map p ≡ true → is_readable (parameter_of c s.device p) ≡ true) →
      ((p : ℕ) → p < param_count → named map p ≡ true → Carried (width_of c s p) (values p)) →
      ((p : ℕ) → p < param_count → named map p ≡ true → kind_in (parameter_of c s.device p) ≡ kind_bool → values p ≤ 1) →
      Judged c s (payload_of c s map values)
  layout-judged h readable fit flag =
      let e = map_back h in
      let is : (p : ℕ) → named (map_of payload) p ≡ true → named map p ≡ true = λ p n. ap (λ (m : ℕ). named m p) (sym e) ∙ n in
      record {
        readable = λ p l n. readable p l (is p n);
        fits = size_back ∙ ap (size_of c s) (sym e);
        flags =
            λ p l n k.
            let q : value_in c s (map_of payload) payload p ≡ values p =
            ap (λ (m : ℕ). value_in c s m payload p) e ∙ value-back p l (is p n) (fit p l (is p n)) in
            rw q (flag p l (is p n) k);
      }

-- a value's bytes keep the offset within the map and 4 bytes for each parameter
offset-most : (c : List ℕ) (s : Slot) (map n : ℕ) → (map_bytes ≤ offset_of c s map n) × (offset_of c s map n ≤ map_bytes + long_width * n)
unfolding offset_of
offset-most c s map zero = (omega arith, omega arith)
offset-most c s map (suc n) = let k = offset-most c s map n in let g = go (named map n) in (omega (arith, k.0), omega (arith, k.1, g))
  where
    go : (b : Bool) → span_if c s n b ≤ long_width
    go true = width-most s.year (kind_in (parameter_of c s.device n))
    go false = omega arith

module _ (c : List ℕ) (s : Slot) (payload : List ℕ) (j : judged c s payload ≡ accepted) where
  abbrev map : ℕ
  map = map_of payload

  abbrev values : ℕ → ℕ
  values = value_in c s (map_of payload) payload

  abbrev number : ℕ → ℕ
  number p = number_at (width_of c s p) payload (offset_of c s (map_of payload) p)

  -- LAW: an accepted payload has its map and at most 4 bytes for each parameter: what a packet holds
  pub accepted-length : (map_bytes ≤ length payload) × (length payload ≤ map_bytes + long_width * param_count)
  unfolding size_of
  accepted-length =
      let fits = (judged-means c s payload j).fits in
      let most = offset-most c s map param_count in
      (omega (arith, fits, most.0), omega (arith, fits, most.1))

  -- the payload's front is the map and the values of the first n parameters
  front :
      Bytes payload → (n : ℕ) → offset_of c s map n ≤ length payload →
      le_bytes map_bytes map ++ values_to c s map values n ≡ take (offset_of c s map n) payload
  unfolding offset_of values_to
  front b zero h = append-nil (le_bytes map_bytes map) ∙ number-bytes map_bytes payload 0 b (omega arith)
  front b (suc n) h =
      sym (append_assoc (le_bytes map_bytes map) (values_to c s map values n) (bytes_of c s map values n))
      ∙ ap (λ (x : List ℕ). x ++ bytes_of c s map values n) (front b n (omega arith))
      ∙ more (named map n) h
    where
      more :
          (is_named : Bool) → offset_of c s map n + span_if c s n is_named ≤ length payload →
          take (offset_of c s map n) payload ++ cond is_named (le_bytes (width_of c s n) (values n)) [] ≡
          take (offset_of c s map n + span_if c s n is_named) payload
      more true l =
          ap (λ (x : List ℕ). take (offset_of c s map n) payload ++ x)
          (held_bytes (width_of c s n) (number n) (number_small (width_of c s n) payload (offset_of c s map n) b) ∙
          number-bytes (width_of c s n) payload (offset_of c s map n) b l)
          ∙ sym (take-add (offset_of c s map n) (width_of c s n) payload)
      more false l = append-nil (take (offset_of c s map n) payload) ∙ rw (add-zero (offset_of c s map n))

  -- LAW: an accepted payload is its map and the values that it has, in the layout above and with nothing else
  pub accepted-layout : Bytes payload → payload ≡ payload_of c s (map_of payload) (value_in c s (map_of payload) payload)
  unfolding size_of
  accepted-layout b =
      let fits = (judged-means c s payload j).fits in
      sym (front b param_count (omega (arith, fits)) ∙ take_all (offset_of c s map param_count) payload (omega (arith, fits)))
