-- The answers of a lookup in numbers, case by case.
use Prim.Native.Nat.{ℕ}
use mathlib.Core.Path.{◌≡◌, ap}
use mathlib.Core.List.{List, []}
use native.Mathlib.Omega.{arith}
use Rattle.std.specs.Prelude.{Err}
use Rattle.errors.specs.Number.{number_of}
use Rattle.errors.proofs.Numbers.{some-number}
use Rattle.list.specs.Refusal.{Refusal}
use Rattle.list.specs.Parse.{bad}
use Rattle.list_check.specs.Check.{whole, IsWhole}
use Rattle.setting.specs.Entry.{Search, at, nowhere}
use Rattle.setting.specs.Lookup.{Numbers, numbers_in, Finding, found, refused, missing, choice, lookup}
use Rattle.setting.specs.Lookup.{found_in, refused_in, missing_key, list_number, numbers_of, answer, answer_of}
use Rattle.setting.specs.declared.Refused.{Refused}
use Rattle.setting.specs.Steps.{search_area}

-- by what was found in each list
pub guest-found : (g h : Search) (offset size : ℕ) → g ≡ at offset size → found_in 1 offset size ≡ numbers_of (choice g h)
guest-found g h offset size e = rw e

pub house-found : (g h : Search) (offset size : ℕ) → g ≡ nowhere → h ≡ at offset size → found_in 2 offset size ≡ numbers_of (choice g h)
house-found g h offset size e f = rw (e, f)

pub none_found : (g h : Search) → g ≡ nowhere → h ≡ nowhere → missing_key ≡ numbers_of (choice g h)
none_found g h e f = rw (e, f)

module _ (g h key : List ℕ) where
  pub guest-refused : (r : Refusal) → whole g ≡ bad r → refused_in 1 r ≡ numbers_of (lookup g h key)
  unfolding lookup
  guest-refused r e = rw e

  pub house-refused : (r : Refusal) → IsWhole g → whole h ≡ bad r → refused_in 2 r ≡ numbers_of (lookup g h key)
  unfolding lookup
  house-refused r w e = rw (w.2, e)

  pub both_read : IsWhole g → IsWhole h → choice (search_area key g) (search_area key h) ≡ lookup g h key
  unfolding lookup
  both_read w x = rw (w.2, x.2)

-- a refusal has no part
pub no_part : (g h : List ℕ) (f : Finding) (r : Refused) → numbers_in (Err r) ≡ numbers_of f
    → answer (number_of r.error) (list_number r.list) r.offset [] r.depth ≡ answer_of g h f
no_part g h (found o offset size) r e = absurd (omega (arith, ap (λ (n : Numbers). n.error) e, some-number r.error))
no_part g h (refused o q) r e = ap (λ (n : Numbers). answer n.error n.list n.offset [] n.depth) e
no_part g h missing r e = ap (λ (n : Numbers). answer n.error n.list n.offset [] n.depth) e
