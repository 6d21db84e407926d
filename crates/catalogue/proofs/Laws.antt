-- What a look-up finds, and what a legal catalogue says of it.
use Prim.Native.Nat.{ℕ, zero, suc, ◌+◌, ◌%◌, ◌≤◌, ◌<◌}
use mathlib.Core.Path.{◌≡◌, refl, ap, ◌∙◌}
use mathlib.Core.Bool.{Bool, true, false, cond}
use mathlib.Core.List.{List}
use mathlib.Core.Logic.{⊎_elim}
use Rattle.std.specs.Prelude.{Option, Some, None, IfSome}
use native.Mathlib.Omega.{arith}
use native.Mathlib.Nat.{eq-or-lt_of_le}
use lib.Dec.{ltb, leb, eqb}
use borrow.Author.Tests.{eq-eqb, eqb-true, eqb-false, ltb-true, leb-true}
use Rattle.wire.specs.Every.{every}
use Rattle.wire.proofs.Chains.{and_left, and_right, every-at}
use Rattle.catalogue.specs.Format.{max_types, max_parameters, type_count, type_number, parameter_count, type_legal, parameters_before, total_count, parameter_byte, kind_int, kind_float, kind_bool, kind_of, kind_number, parameter_legal, described, legal}
use Rattle.catalogue.specs.Lookup.{device_at, device_from, device_of, parameter_in, parameter_of, kind_in}
use Rattle.catalogue.specs.declared.Device.{Device}
use Rattle.catalogue.specs.declared.Kind.TheVariants as kind

never : {A : Type 0} → false ≡ true → A
never e = let z : ◌≡◌ {A = ℕ} 0 1 = ap (λ (b : Bool). cond b 1 0) e in absurd (omega arith)

-- device type i of the catalogue has this number
pub record Is (s : List ℕ) (number i : ℕ) : Type 0 where
  pub inside : i < type_count s
  pub number_is : type_number s i ≡ number

found_from :
    (n : ℕ) (s : List ℕ) (number i₀ : ℕ) (d : Device) → device_from n s number i₀ ≡ Some d →
    (i : ℕ) × (i < i₀ + n) × (type_number s i ≡ number) × (d ≡ device_at s i)
unfolding device_from
found_from zero s number i₀ d h = cc
found_from (suc n) s number i₀ d h = go (eqb (type_number s i₀) number) refl h (found_from n s number (i₀ + 1) d)
  where
    go :
        (b : Bool) → eqb (type_number s i₀) number ≡ b → cond b (Some (device_at s i₀)) (device_from n s number (i₀ + 1)) ≡ Some d →
        (device_from n s number (i₀ + 1) ≡ Some d → (i : ℕ) × (i < i₀ + 1 + n) × (type_number s i ≡ number) × (d ≡ device_at s i)) →
        (i : ℕ) × (i < i₀ + suc n) × (type_number s i ≡ number) × (d ≡ device_at s i)
    go true e k rest = (i₀, omega arith, eqb-true (type_number s i₀) number e, cc)
    go false e k rest = let r = rest k in (r.0, omega (arith, r.1), r.2, r.3)

-- LAW: a device type that is found is one of the catalogue's, with that number
pub known_is : (s : List ℕ) (number : ℕ) (d : Device) → device_of s number ≡ Some d → (i : ℕ) × Is s number i × (d ≡ device_at s i)
known_is s number d h =
    let r = found_from (type_count s) s number 0 d h in
    (r.0, record { inside = omega (arith, r.1); number_is = r.2 }, r.3)

missing-from :
    (n : ℕ) (s : List ℕ) (number i₀ : ℕ) → device_from n s number i₀ ≡ None →
    (i : ℕ) → i₀ ≤ i → i < i₀ + n → type_number s i ≡ number → ⊥
unfolding device_from
missing-from zero s number i₀ h i l m e = omega arith
missing-from (suc n) s number i₀ h i l m e = go (eqb (type_number s i₀) number) refl h (missing-from n s number (i₀ + 1))
  where
    go :
        (b : Bool) → eqb (type_number s i₀) number ≡ b → cond b (Some (device_at s i₀)) (device_from n s number (i₀ + 1)) ≡ None →
        (device_from n s number (i₀ + 1) ≡ None → (j : ℕ) → i₀ + 1 ≤ j → j < i₀ + 1 + n → type_number s j ≡ number → ⊥) → ⊥
    go true q k rest = cc
    go false q k rest =
        ⊎_elim
        (λ (x : i₀ ≡ i). cc (q, eq-eqb (type_number s i₀) number (ap (type_number s) x ∙ e)))
        (λ (x : i₀ < i). rest k i (omega arith) (omega arith) e)
        (eq-or-lt_of_le l)

-- LAW: a number that is not found is no device type's
pub unknown-is-none : (s : List ℕ) (number : ℕ) → device_of s number ≡ None → (i : ℕ) → Is s number i → ⊥
unknown-is-none s number h i x =
    let l : i < 0 + type_count s = omega (arith, x.inside) in
    missing-from (type_count s) s number 0 h i (omega arith) l x.number_is

few : (s : List ℕ) (i : ℕ) → type_legal s i ≡ true → parameter_count s i ≤ max_parameters
unfolding type_legal
few s i t = leb-true (parameter_count s i) max_parameters (and_left (leb (parameter_count s i) max_parameters) _ t)

three : (bits : ℕ) → bits ≤ kind_bool → kind_number (kind_of bits) ≤ kind_bool
three bits l = go (eqb bits kind_int) (eqb bits kind_float) (eqb bits kind_bool) refl refl refl
  where
    go :
        (int float bool : Bool) → eqb bits kind_int ≡ int → eqb bits kind_float ≡ float → eqb bits kind_bool ≡ bool →
        kind_number (cond int kind.Int (cond float kind.Float (cond bool kind.Bool kind.Unknown))) ≤ kind_bool
    go true float bool p q r = omega arith
    go false true bool p q r = omega arith
    go false false true p q r = omega arith
    go false false false p q r = absurd (omega (arith, l, eqb-false bits kind_int p, eqb-false bits kind_float q, eqb-false bits kind_bool r))

small : (b : ℕ) → parameter_legal b ≡ true → kind_number (kind_of (b % 4)) ≤ kind_bool
unfolding parameter_legal
small b p = three (b % 4) (leb-true (b % 4) kind_bool (and_right (ltb b 16) _ p))

-- the parameters of type i lie before those of the types behind it
parameters-within : (s : List ℕ) (i n : ℕ) → i < n → parameters_before s i + parameter_count s i ≤ parameters_before s n
unfolding parameters_before
parameters-within s i zero l = absurd (omega arith)
parameters-within s i (suc n) l =
    ⊎_elim
    (λ (e : i ≡ n). rw e (omega arith))
    (λ (m : i < n). let k = parameters-within s i n m in omega arith)
    (let g : i ≤ n = omega arith in eq-or-lt_of_le g)

module _ (s : List ℕ) (h : legal s ≡ true) where
  types : every (type_count s) (type_legal s) ≡ true
  unfolding legal
  types = and_left (every (type_count s) (type_legal s)) _ (and_right (leb (type_count s) max_types) _ h)

  bytes : every (parameters_before s (type_count s)) (λ k. parameter_legal (parameter_byte s k)) ≡ true
  unfolding legal
  bytes =
      and_left (every (parameters_before s (type_count s)) (λ k. parameter_legal (parameter_byte s k))) _
      (and_right (eqb (total_count s) (parameters_before s (type_count s))) _
      (and_right (every (type_count s) (type_legal s)) _
      (and_right (leb (type_count s) max_types) _ h)))

  -- LAW: no device type of a legal catalogue has more than 32 parameters
  pub few-parameters : (number : ℕ) → IfSome (device_of s number) (λ d. d.parameters ≤ max_parameters)
  few-parameters number = go (device_of s number) refl
    where
      go : (o : Option Device) → device_of s number ≡ o → IfSome o (λ d. d.parameters ≤ max_parameters)
      go None e = tt
      go (Some d) e =
          let r = known_is s number d e in
          rw r.2 (few s r.0 (every-at (type_count s) (type_legal s) types r.0 r.1.inside))

  inside : (number index : ℕ) (d : Device) → device_of s number ≡ Some d → index < d.parameters → d.first + index < parameters_before s (type_count s)
  inside number index d e l =
      let r = known_is s number d e in
      let w = parameters-within s r.0 (type_count s) r.1.inside in
      let m : index < parameter_count s r.0 = rw r.2 at l in
      rw r.2 (omega arith)

  -- LAW: a parameter of a legal catalogue is INT, FLOAT or BOOL
  pub kind-is-one-of-three : (number index : ℕ) → kind_in (parameter_of s number index) ≤ kind_bool
  unfolding parameter_in
  kind-is-one-of-three number index = go (device_of s number) refl
    where
      there :
          (d : Device) → device_of s number ≡ Some d → (b : Bool) → ltb index d.parameters ≡ b →
          kind_in (cond b (Some (described (parameter_byte s (d.first + index)))) None) ≤ kind_bool
      there d e false q = omega arith
      there d e true q =
          small (parameter_byte s (d.first + index))
          (every-at (parameters_before s (type_count s)) (λ k. parameter_legal (parameter_byte s k)) bytes (d.first + index)
          (inside number index d e (ltb-true index d.parameters q)))

      go : (o : Option Device) → device_of s number ≡ o → kind_in (parameter_in s o index) ≤ kind_bool
      go None e = omega arith
      go (Some d) e = there d e (ltb index d.parameters) refl
