-- Reading a list depends on no byte behind the limit.
use Prim.Native.Nat.{ℕ, zero, suc, ◌+◌, ◌-◌, ◌≤◌}
use mathlib.Core.Path.{◌≡◌, refl, ap, ◌∙◌}
use mathlib.Core.Bool.{Bool, true, false, cond}
use mathlib.Core.List.{List, [], ◌∷◌}
use native.Mathlib.Omega.{arith}
use lib.Dec.{ltb}
use lib.ListN.{length, take, drop}
use lib.Seq.{take-take, take_all, length-take-le}
use borrow.Author.Tests.{ltb-true, ltb-false, le-ltb}
use Rattle.std.specs.Prelude.{Option, Some, None}
use Rattle.list.specs.declared.Kind.{Kind}
use Rattle.list.specs.declared.Kind.TheVariants.{Int, Float, Str, Blob, Vocab}
use Rattle.wire.specs.Number.{le_value}
use Rattle.list.specs.Limits.{depth_limit}
use Rattle.list.specs.Kind.{kind_of, list_code}
use Rattle.list.specs.Tree.{Elements, value}
use Rattle.list.specs.Strings.{string_size, negative, bad_length}
use Rattle.list.specs.Parse.{Parsed, good, bad, and_then, in_list, after_item, word, item_fault}
use Rattle.list.specs.Parse.{string_at, blob_at, value_at, typed_at, coded_value, coded_at, mixed_at, elements_at, body_at, list_at, parse}
use Rattle.list.proofs.Items.{fault-fits}

-- the bytes of a part that ends within what is left
pub part_cut : (n limit : ℕ) (s : List ℕ) (at : ℕ) → at + n ≤ limit → take n (drop at (take limit s)) ≡ take n (drop at s)
part_cut n limit s zero h = take-take n limit s (omega arith)
part_cut n zero s (suc at) h = absurd (omega arith)
part_cut n (suc limit) [] (suc at) h = refl
part_cut n (suc limit) (x ∷ s) (suc at) h = part_cut n limit s at (omega arith)

-- one branch of a test
either : {A : Type 0} (b : Bool) (p q r : A) → q ≡ r → cond b p q ≡ cond b p r
either true p q r e = refl
either false p q r e = e

then_same : {A B : Type 0} (p q : Parsed A) (go go' : A → ℕ → Parsed B) → p ≡ q → ((a : A) (next : ℕ) → go a next ≡ go' a next) → and_then p go ≡ and_then q go'
then_same {A} {B} p q go go' e h = ap (λ (x : Parsed A). and_then x go) e ∙ by q
  where
    by : (x : Parsed A) → and_then x go ≡ and_then x go'
    by (good a next) = h a next
    by (bad r) = refl

module _ (limit : ℕ) (s : List ℕ) where
  abbrev t : List ℕ
  t = take limit s

  fault-cut : (at n : ℕ) → item_fault limit t at n ≡ item_fault limit s at n
  unfolding item_fault
  fault-cut at n = go (ltb limit (at + n)) refl
    where
      go : (b : Bool) → ltb limit (at + n) ≡ b → cond {A = ℕ} b 28 (cond (ltb (length t) (at + n)) 21 0) ≡ cond b 28 (cond (ltb (length s) (at + n)) 21 0)
      go true e = refl
      go false e = by (ltb (length s) limit) refl
        where
          h : at + n ≤ limit
          h = ltb-false limit (at + n) e

          by : (b : Bool) → ltb (length s) limit ≡ b → cond {A = ℕ} (ltb (length t) (at + n)) 21 0 ≡ cond (ltb (length s) (at + n)) 21 0
          by true g = rw (take_all limit s (omega (arith, ltb-true (length s) limit g)))
          by false g =
              let f : limit ≤ length s = ltb-false (length s) limit g in
              rw (length-take-le limit s f, le-ltb limit (at + n) h, le-ltb (length s) (at + n) (omega (arith, h)))

  -- an item, then what is judged where it is there
  after-cut : {A : Type 0} (at n : ℕ) (p q : Parsed A) → (at + n ≤ limit → p ≡ q) → after_item (item_fault limit t at n) at p ≡ after_item (item_fault limit s at n) at q
  after-cut {A} at n p q go = ap (λ (f : ℕ). after_item f at p) (fault-cut at n) ∙ by (item_fault limit s at n) refl
    where
      by : (fault : ℕ) → item_fault limit s at n ≡ fault → after_item fault at p ≡ after_item fault at q
      by zero e = go (fault-fits limit s at n e).0
      by (suc fault) e = refl

  pub word_cut : (at : ℕ) → at + 4 ≤ limit → word t at ≡ word s at
  word_cut at h = ap le_value (part_cut 4 limit s at h)

  string-cut : (at : ℕ) → string_at limit t at ≡ string_at limit s at
  unfolding string_at
  string-cut at =
      after-cut at 4 _ _ (λ f. rw (word_cut at f) (either (bad_length (word s at)) _ _ _
      (after-cut (at + 4) (word s at) _ _ (λ g. rw (part_cut (word s at) limit s (at + 4) g, part_cut (string_size (word s at)) limit s (at + 4) (omega arith))))))

  blob-cut : (at : ℕ) → blob_at limit t at ≡ blob_at limit s at
  unfolding blob_at
  blob-cut at =
      after-cut at 4 _ _ (λ f. rw (word_cut at f) (either (negative (word s at)) _ _ _
      (after-cut (at + 4) (word s at) _ _ (λ g. rw (part_cut (word s at) limit s (at + 4) g)))))

  value-cut : (k : Kind) (at : ℕ) → value_at limit t at k ≡ value_at limit s at k
  unfolding value_at
  value-cut Int at = after-cut at 4 _ _ (λ f. rw (word_cut at f))
  value-cut Vocab at = after-cut at 4 _ _ (λ f. rw (word_cut at f))
  value-cut Float at = after-cut at 8 _ _ (λ f. rw (word_cut at (omega arith), word_cut (at + 4) (omega arith)))
  value-cut Str at = string-cut at
  value-cut Blob at = blob-cut at

  typed-cut : (k : Kind) (n at : ℕ) → typed_at limit t k n at ≡ typed_at limit s k n at
  unfolding typed_at
  typed-cut k zero at = refl
  typed-cut k (suc n) at =
      then_same (value_at limit t at k) (value_at limit s at k) _ _ (value-cut k at)
      (λ v next. ap (λ (p : Parsed Elements). and_then p (λ es end. good (value v es) end)) (typed-cut k n next))

  module _ (inner inner' : ℕ → ℕ → Parsed Elements) (same : (at code : ℕ) → inner at code ≡ inner' at code) where
    coded-value-cut : (at : ℕ) (found : Option Kind) → coded_value limit t at found ≡ coded_value limit s at found
    coded-value-cut at (Some k) = rw (value-cut k (at + 4))
    coded-value-cut at None = refl

    coded-cut : (at : ℕ) → coded_at inner limit t at ≡ coded_at inner' limit s at
    unfolding coded_at
    coded-cut at = after-cut at 4 _ _ (λ f. rw (word_cut at f, same at (word s at), coded-value-cut at (kind_of (word s at))))

    mixed-cut : (n at : ℕ) → mixed_at inner limit t n at ≡ mixed_at inner' limit s n at
    unfolding mixed_at
    mixed-cut zero at = refl
    mixed-cut (suc n) at =
        then_same (coded_at inner limit t at) (coded_at inner' limit s at) _ _ (coded-cut at)
        (λ put next. ap (λ (p : Parsed Elements). and_then p (λ es end. good (put es) end)) (mixed-cut n next))

    elements-cut : (found : Option Kind) (n at : ℕ) → elements_at inner limit t found n at ≡ elements_at inner' limit s found n at
    elements-cut (Some k) n at = typed-cut k n at
    elements-cut None n at = mixed-cut n at

    body-cut : (at code : ℕ) → body_at inner limit t at code ≡ body_at inner' limit s at code
    unfolding body_at
    body-cut at code =
        after-cut (at + 4) 4 _ _ (λ f. rw (word_cut (at + 4) f, elements-cut (kind_of (code - list_code)) (word s (at + 4)) (at + 8)))

  list-cut : (d at code : ℕ) → list_at d limit t at code ≡ list_at d limit s at code
  unfolding list_at
  list-cut zero at code = refl
  list-cut (suc d) at code = ap in_list (body-cut (list_at d limit t) (list_at d limit s) (list-cut d) at code)

-- what is read of bytes cut at the limit is what is read of them
pub cut : (limit : ℕ) (s : List ℕ) → parse limit (take limit s) ≡ parse limit s
unfolding parse
cut limit s = after-cut limit s 0 4 _ _ (λ f. rw (word_cut limit s 0 f, list-cut limit s depth_limit 0 (word s 0)))
