-- A loop over the parameters of a map: where the next value starts, and that no parameter behind the last set bit is named. There
-- what each definition says of all parameters is what it says of the first p.
use Prim.Native.Nat.{ℕ, zero, suc, ◌+◌, ◌-◌, ◌/◌, ◌^◌, ◌≤◌, ◌<◌}
use mathlib.Core.Path.{◌≡◌, refl, sym, ◌∙◌}
use mathlib.Core.Bool.{Bool, true, false}
use mathlib.Core.List.{List}
use mathlib.Core.Logic.{⊎_elim}
use native.Mathlib.Numerals.{add-one}
use native.Mathlib.Nat.{div-eq_of_lt, eq-or-lt_of_le, pow-le-pow_right}
use native.Mathlib.Omega.{arith}
use Rattle.std.specs.Int.Count.{count_leading_zeros}
use Rattle.std.proofs.lemmas.Nat.{leading_length}
use Rattle.wire.proofs.Chains.{every_more}
use Rattle.wire.specs.Every.{every}
use Rattle.slot.specs.Slot.{param_count}
use Rattle.slot.specs.declared.Slot.{Slot}
use Rattle.parameters.specs.Data.{named, width_of, readable_if, all_readable, flag_if, all_flags, value_in, offset_of, stored_to}
use Rattle.parameters.proofs.Steps.{offset-named, offset-unnamed, stored-unnamed}

-- the bits of a map up to its highest set one
pub bits-are : (map n : ℕ) → map < 2 ^ 32 → n ≡ 32 - count_leading_zeros 32 map → (map < 2 ^ n) × (n ≤ param_count)
bits-are map n h e =
    let l = leading_length 32 map h in
    let same : n ≡ l.0 = omega (arith, e, l.1) in
    (rw same l.2, omega (arith, e))

-- past a parameter that the map names, and past another
module _ (c : List ℕ) (s : Slot) (map p : ℕ) {at next : ℕ} (a : at ≡ offset_of c s map p) where
  pub walk-named : {w : ℕ} → named map p ≡ true → w ≡ width_of c s p → next ≡ at + w → next ≡ offset_of c s map (p + 1)
  walk-named n e q = rw (offset-named c s map p n, ← a, ← e) q

  pub walk-unnamed : named map p ≡ false → next ≡ at → next ≡ offset_of c s map (p + 1)
  walk-unnamed n q = rw (offset-unnamed c s map p n) (q ∙ a)

-- what holds at p and goes from each index to the next holds from p on
from_on : (P : ℕ → Type 0) (p : ℕ) → P p → ((q : ℕ) → p ≤ q → P q → P (q + 1)) → (n : ℕ) → p ≤ n → P n
from_on P p first step zero h = let e : 0 ≡ p = omega arith in rw e first
from_on P p first step (suc n) h =
    ⊎_elim
    (λ (e : p ≡ suc n). rw (← e) first)
    (λ (l : p < suc n). rw (← add-one n) (step n (omega arith) (from_on P p first step n (omega arith))))
    (eq-or-lt_of_le h)

module _ (map p : ℕ) (m : map < 2 ^ p) (most : p ≤ param_count) where
  unnamed : (q : ℕ) → p ≤ q → named map q ≡ false
  unnamed q l =
      let power : 2 ^ p ≤ 2 ^ q = pow-le-pow_right (omega arith) l in
      let none : map / 2 ^ q ≡ 0 = div-eq_of_lt (omega (arith, m, power)) in
      rw none

  pub offset-rest : (c : List ℕ) (s : Slot) → offset_of c s map param_count ≡ offset_of c s map p
  offset-rest c s =
      from_on (λ q. offset_of c s map q ≡ offset_of c s map p) p refl (λ q l i. offset-unnamed c s map q (unnamed q l) ∙ i) param_count most

  pub stored-rest : (c : List ℕ) (s : Slot) (payload : List ℕ) → stored_to c s map payload param_count ≡ stored_to c s map payload p
  stored-rest c s payload =
      from_on (λ q. stored_to c s map payload q ≡ stored_to c s map payload p) p refl
      (λ q l i. stored-unnamed c s map q payload (unnamed q l) ∙ i) param_count most

  -- a test that holds where no parameter is named
  every_rest : (test : ℕ → Bool) → ((q : ℕ) → named map q ≡ false → test q ≡ true) → every p test ≡ true → true ≡ every param_count test
  every_rest test t i = sym (from_on (λ q. every q test ≡ true) p i (λ q l k. every_more q test k (t q (unnamed q l))) param_count most)

  pub readables-rest :
      (c : List ℕ) (s : Slot) → every p (λ q. readable_if c s q (named map q)) ≡ true → true ≡ all_readable c s map
  unfolding all_readable
  readables-rest c s = every_rest (λ q. readable_if c s q (named map q)) (λ q n. rw n)

  pub flags-rest :
      (c : List ℕ) (s : Slot) (payload : List ℕ) →
      every p (λ q. flag_if c s q (named map q) (value_in c s map payload q)) ≡ true → true ≡ all_flags c s map payload
  unfolding all_flags
  flags-rest c s payload = every_rest (λ q. flag_if c s q (named map q) (value_in c s map payload q)) (λ q n. rw n)
