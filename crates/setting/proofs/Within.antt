-- What a lookup answers lies within the list that it names.
use Prim.Native.Nat.{ℕ, ◌+◌, ◌≤◌}
use mathlib.Core.Path.{◌≡◌, refl, sym, ap, subst, ◌∙◌}
use mathlib.Core.List.{List}
use native.Mathlib.Omega.{arith}
use lib.ListN.{length}
use Rattle.wire.specs.Number.{Bytes}
use Rattle.list.specs.Limits.{list_limit}
use Rattle.list.specs.Tree.{Elements}
use Rattle.list.specs.Bytes.{list_bytes}
use Rattle.list.specs.Legal.{Legal}
use Rattle.list.specs.Parse.{Parsed, good, bad}
use Rattle.setting.specs.declared.Owner.TheVariants.{Guest, House}
use Rattle.setting.specs.Entry.{Search, at, nowhere, search_in}
use Rattle.setting.specs.Lookup.{Numbers, Finding, found, refused, missing, choice, decided, lookup, numbers_of, answer, answer_of}
use Rattle.setting.specs.Meaning.{Meaning, is, unset, meaning}
use Rattle.setting.specs.Steps.{Within, part_of, LookedUp}
use Rattle.list_check.specs.Check.{whole}
use Rattle.list_check.proofs.Whole.{whole-spells, fault-sane}
use Rattle.setting.proofs.Meaning.{Agree, found-exactly}

-- a value that was found lies within its list
found_inside : (s key : List ℕ) (es : Elements) (end offset size : ℕ) → Bytes s → whole s ≡ good es end → search_in key es ≡ at offset size → offset + size ≤ length s
found_inside s key es end offset size all w e = go (meaning key es) (rw e at (found-exactly key es p.0))
  where
    p : Legal list_limit es × (s ≡ list_bytes es)
    p = whole-spells s es end all w

    go : (m : Meaning) → Agree (list_bytes es) (at offset size) m → offset + size ≤ length s
    go (is v) a = omega (arith, a.0, a.1.inside, ap length p.1)
    go unset a = absurd a

module _ (g h key : List ℕ) (bg : Bytes g) (bh : Bytes h) where
  -- LAW: what a lookup answers lies within the list that it names
  pub located-within : Within (numbers_of (lookup g h key)) (length g) (length h)
  unfolding lookup
  located-within = go (whole g) refl (whole h) refl
    where
      chosen : (x y : Search) → ((o n : ℕ) → x ≡ at o n → o + n ≤ length g) → ((o n : ℕ) → y ≡ at o n → o + n ≤ length h)
          → Within (numbers_of (choice x y)) (length g) (length h)
      chosen (at o n) y p q = (λ _. p o n refl, λ e. absurd (omega (arith, e)))
      chosen nowhere (at o n) p q = (λ e. absurd (omega (arith, e)), λ _. q o n refl)
      chosen nowhere nowhere p q = (λ e. absurd (omega (arith, e)), λ e. absurd (omega (arith, e)))

      go : (x : Parsed Elements) → whole g ≡ x → (y : Parsed Elements) → whole h ≡ y → Within (numbers_of (decided key x y)) (length g) (length h)
      go (bad r) e y f = (λ _. omega (arith, (fault-sane g r e).inside), λ z. absurd (omega (arith, z)))
      go (good es m) e (bad r) f = (λ z. absurd (omega (arith, z)), λ _. omega (arith, (fault-sane h r f).inside))
      go (good es m) e (good fs n) f =
          chosen (search_in key es) (search_in key fs) (λ o k q. found_inside g key es m o k bg e q) (λ o k q. found_inside h key fs n o k bh f q)

  pub looked-up : (l : Numbers) → l ≡ numbers_of (lookup g h key) → LookedUp g h key l
  looked-up l e = record { is = e; within = subst (λ (x : Numbers). Within x (length g) (length h)) (sym e) located-within }

-- the numbers of an answer and the bytes of its part
pub answered : (g h : List ℕ) (f : Finding) (l : Numbers) (p : List ℕ) → l ≡ numbers_of f → p ≡ part_of l g h
    → answer l.error l.list l.offset p l.depth ≡ answer_of g h f
answered g h f l p e d =
    ap (λ (x : List ℕ). answer l.error l.list l.offset x l.depth) d
    ∙ ap (λ (x : Numbers). answer x.error x.list x.offset (part_of x g h) x.depth) e ∙ go f
  where
    go : (x : Finding) → answer (numbers_of x).error (numbers_of x).list (numbers_of x).offset (part_of (numbers_of x) g h) (numbers_of x).depth ≡ answer_of g h x
    go (found Guest o n) = refl
    go (found House o n) = refl
    go (refused Guest r) = refl
    go (refused House r) = refl
    go missing = refl
