-- Laws of the codes of lists.
use Prim.Native.Nat.{ℕ, ◌-◌, ◌≤◌}
use mathlib.Core.Path.{◌≡◌, refl}
use mathlib.Core.Bool.{Bool, true, false, ◌&&◌, ◌||◌}
use native.Mathlib.Omega.{arith}
use lib.Dec.{eqb, leb}
use borrow.Author.Tests.{eqb-true, ne_eqb, leb-true}
use Rattle.std.specs.Prelude.{Option, Some, None, is_some}
use Rattle.wire.proofs.Chains.{and_left, and_right}
use Rattle.list.specs.declared.Kind.{Kind}
use Rattle.list.specs.declared.Kind.TheVariants.{Int, Float, Str, Blob, Vocab}
use Rattle.list.specs.Kind.{code_of, kind_of, list_code, typed_code}
use Rattle.list.specs.Parse.{is_list_code}
use Rattle.list.proofs.Codes.{code-of-kind}

pub list-high : (code : ℕ) → is_list_code code ≡ true → list_code ≤ code
unfolding is_list_code
list-high code h = go (eqb code list_code) refl h
  where
    go : (b : Bool) → eqb code list_code ≡ b → (b || (leb list_code code && is_some (kind_of (code - list_code)))) ≡ true → list_code ≤ code
    go true e q = omega (arith, eqb-true code list_code e)
    go false e q = leb-true list_code code (and_left (leb list_code code) (is_some (kind_of (code - list_code))) q)

-- a list code other than 256 is that of a typed list
pub list-typed : (code : ℕ) → is_list_code code ≡ true → (code ≡ list_code → ⊥) → (k : Kind) × (code ≡ typed_code k)
unfolding is_list_code
list-typed code h n = go (kind_of (code - list_code)) refl (rw (ne_eqb code list_code n) at h)
  where
    go : (f : Option Kind) → kind_of (code - list_code) ≡ f → (leb list_code code && is_some f) ≡ true → (k : Kind) × (code ≡ typed_code k)
    go (Some k) e q = (k, omega (arith, leb-true list_code code (and_left (leb list_code code) true q), code-of-kind (code - list_code) k e))
    go None e q = absurd (let y : false ≡ true = and_right (leb list_code code) false q in let z : ◌≡◌ {A = ℕ} 0 1 = cc in omega arith)

-- a code that is none of the kinds'
module _ (code : ℕ) (i : code ≡ code_of Int → ⊥) (v : code ≡ code_of Vocab → ⊥) (f : code ≡ code_of Float → ⊥) (s : code ≡ code_of Str → ⊥) (b : code ≡ code_of Blob → ⊥) where
  pub no_kind : kind_of code ≡ None
  unfolding kind_of
  no_kind = rw (ne_eqb _ _ i, ne_eqb _ _ f, ne_eqb _ _ s, ne_eqb _ _ b, ne_eqb _ _ v)

  pub no_code : (k : Kind) → code ≡ code_of k → ⊥
  no_code Int = i
  no_code Vocab = v
  no_code Float = f
  no_code Str = s
  no_code Blob = b
