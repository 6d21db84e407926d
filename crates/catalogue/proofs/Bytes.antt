-- The bytes of a device type's parameters: how they are filled in, and what they say of each parameter.
use Prim.Native.Nat.{ℕ, zero, suc, ◌+◌, ◌≤◌, ◌<◌, min}
use mathlib.Core.Path.{◌≡◌, refl, sym, ap, ◌∙◌}
use mathlib.Core.Bool.{Bool, true, false, cond}
use mathlib.Core.List.{List}
use Rattle.std.specs.Prelude.{Option, Some, None}
use native.Mathlib.Omega.{arith}
use lib.Dec.{ltb}
use lib.ListN.{length, get_or, replicate, get_or-eq_default}
use borrow.Author.Tests.{ltb-true, ltb-false, le-ltb}
use Rattle.catalogue.specs.Format.{max_parameters, parameter_byte, kind_number, described}
use Rattle.catalogue.specs.Lookup.{parameter_in, is_readable, kind_in, byte_in, BytesIn}
use Rattle.catalogue.specs.declared.Device.{Device}

-- zeros read as 0, and so does what is past them
pub zeros : (n p : ℕ) → get_or {A = ℕ} (replicate n 0) p 0 ≡ 0
zeros zero p = refl
zeros (suc n) zero = refl
zeros (suc n) (suc p) = zeros n p

-- no device type's are all 0
pub no-bytes : (s : List ℕ) → BytesIn s None (replicate max_parameters 0)
unfolding byte_in
no-bytes s = record { all = refl; each = λ p l. zeros max_parameters p }

-- before the first byte, all are 0
pub fill_none : (rest : List ℕ) (p : ℕ) → get_or (replicate max_parameters 0) p 0 ≡ cond (ltb p 0) (get_or rest p 0) 0
fill_none rest p = let e : ltb p 0 ≡ false = le-ltb p 0 (omega arith) in rw e (zeros max_parameters p)

-- a device type's: as many as type and catalogue have, then zeros
module _ (s : List ℕ) (d : Device) (rest : List ℕ) (count : ℕ) (behind : (p : ℕ) → get_or rest p 0 ≡ parameter_byte s (d.first + p))
    (few : count ≡ min (min d.parameters max_parameters) (length rest))
  where
    past : (p : ℕ) → length rest ≤ p → parameter_byte s (d.first + p) ≡ 0
    past p l = sym (behind p) ∙ get_or-eq_default rest 0 l

    pub filled : (p : ℕ) → p < max_parameters → cond (ltb p count) (get_or rest p 0) 0 ≡ byte_in s (Some d) p
    unfolding byte_in
    filled p l = go (ltb p count) (ltb p d.parameters) refl refl
      where
        go :
            (a b : Bool) → ltb p count ≡ a → ltb p d.parameters ≡ b →
            cond a (get_or rest p 0) 0 ≡ cond b (parameter_byte s (d.first + p)) 0
        go true true e f = behind p
        go true false e f = absurd (omega (arith, ltb-true p count e, ltb-false p d.parameters f))
        go false true e f = sym (past p (omega (arith, ltb-false p count e, ltb-true p d.parameters f)))
        go false false e f = refl

-- LAW: kind and direction of a parameter are those that its byte describes
pub kind-of-byte : (s : List ℕ) (d : Option Device) (p : ℕ) → kind_in (parameter_in s d p) ≡ kind_number (described (byte_in s d p)).kind
unfolding parameter_in byte_in
kind-of-byte s None p = refl
kind-of-byte s (Some d) p = go (ltb p d.parameters)
  where
    go :
        (t : Bool) →
        kind_in (cond t (Some (described (parameter_byte s (d.first + p)))) None) ≡
        kind_number (described (cond t (parameter_byte s (d.first + p)) 0)).kind
    go true = refl
    go false = refl

pub readable-of-byte : (s : List ℕ) (d : Option Device) (p : ℕ) → is_readable (parameter_in s d p) ≡ (described (byte_in s d p)).readable
unfolding parameter_in byte_in
readable-of-byte s None p = refl
readable-of-byte s (Some d) p = go (ltb p d.parameters)
  where
    go :
        (t : Bool) →
        is_readable (cond t (Some (described (parameter_byte s (d.first + p)))) None) ≡
        (described (cond t (parameter_byte s (d.first + p)) 0)).readable
    go true = refl
    go false = refl

-- the same by the bytes of all parameters
module _ {s : List ℕ} {d : Option Device} {bytes : List ℕ} (h : BytesIn s d bytes) (p : ℕ) (l : p < max_parameters) where
  pub kind-is : kind_in (parameter_in s d p) ≡ kind_number (described (get_or bytes p 0)).kind
  kind-is = kind-of-byte s d p ∙ ap (λ (b : ℕ). kind_number (described b).kind) (sym (h.each p l))

  pub readable-is : is_readable (parameter_in s d p) ≡ (described (get_or bytes p 0)).readable
  readable-is = readable-of-byte s d p ∙ ap (λ (b : ℕ). (described b).readable) (sym (h.each p l))
