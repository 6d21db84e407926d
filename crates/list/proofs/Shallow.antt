-- How many lists can be open at a refusal: none inside a value, and at most d where d may stand in one another.
use Prim.Native.Nat.{ℕ, zero, suc, ◌+◌, ◌-◌, ◌≤◌}
use mathlib.Core.Path.{◌≡◌}
use mathlib.Core.List.{List}
use native.Mathlib.Omega.{arith}
use lib.Dec.{eqb}
use lib.ListN.{take, drop}
use Rattle.std.specs.Prelude.{Option, Some, None}
use Rattle.list.specs.declared.Kind.{Kind}
use Rattle.list.specs.declared.Kind.TheVariants.{Int, Float, Str, Blob, Vocab}
use Rattle.list.specs.Limits.{depth_limit}
use Rattle.list.specs.Kind.{kind_of, list_code}
use Rattle.list.specs.Tree.{Elements}
use Rattle.list.specs.Bytes.{list_code_of}
use Rattle.list.specs.Refusal.{Refusal}
use Rattle.list.specs.Strings.{negative, bad_length, closed}
use Rattle.list.specs.Parse.{Parsed, bad, after_item, word, item_fault}
use Rattle.list.specs.Parse.{string_at, blob_at, value_at, typed_at, is_list_code, coded_value, coded_at, mixed_at, elements_at, body_at, list_at, parse}
use Rattle.list.proofs.Says.{Says, test, next-step, after-item, in_list_lem}

abbrev AtMost : ℕ → {A : Type 0} → Parsed A → Type 0
AtMost d = Says (λ a next. Unit {0}) (λ r. r.depth ≤ d)

module _ (limit : ℕ) (s : List ℕ) where
  item : (d : ℕ) {A : Type 0} (at n : ℕ) (p : Parsed A) → AtMost d p → AtMost d (after_item (item_fault limit s at n) at p)
  item d at n p h = after-item limit s _ _ at n p (λ fault e. omega arith) (λ f i. h)

  value : (d : ℕ) (k : Kind) (at : ℕ) → AtMost d (value_at limit s at k)
  unfolding value_at string_at blob_at
  value d Int at = item d at 4 _ tt
  value d Vocab at = item d at 4 _ tt
  value d Float at = item d at 8 _ tt
  value d Str at =
      item d at 4 _ (test _ _ (bad_length (word s at)) _ _ (λ e. omega arith) (λ e.
      item d (at + 4) (word s at) _
      (test _ _ (closed (take (word s at) (drop (at + 4) s))) _ _ (λ c. tt) (λ c. omega arith))))
  value d Blob at =
      item d at 4 _ (test _ _ (negative (word s at)) _ _ (λ e. omega arith) (λ e. item d (at + 4) (word s at) _ tt))

  typed : (d : ℕ) (k : Kind) (n at : ℕ) → AtMost d (typed_at limit s k n at)
  unfolding typed_at
  typed d k zero at = tt
  typed d k (suc n) at =
      next-step _ _ _ (value_at limit s at k) _ (value d k at) (λ v next _ _.
      next-step _ _ _ (typed_at limit s k n next) _ (typed d k n next) (λ es end _ _. tt))

  module _ (d : ℕ) (inner : ℕ → ℕ → Parsed Elements) (lists : (at code : ℕ) → AtMost d (inner at code)) where
    found : (at : ℕ) (f : Option Kind) → AtMost d (coded_value limit s at f)
    found at (Some k) = next-step _ _ _ (value_at limit s (at + 4) k) _ (value d k (at + 4)) (λ v next _ _. tt)
    found at None = omega arith

    coded : (at : ℕ) → AtMost d (coded_at inner limit s at)
    unfolding coded_at
    coded at =
        item d at 4 _ (test _ _ (is_list_code (word s at)) _ _
        (λ c. next-step _ _ _ (inner at (word s at)) _ (lists at (word s at)) (λ es next _ _. tt))
        (λ c. found at (kind_of (word s at))))

    mixed : (n at : ℕ) → AtMost d (mixed_at inner limit s n at)
    unfolding mixed_at
    mixed zero at = tt
    mixed (suc n) at =
        next-step _ _ _ (coded_at inner limit s at) _ (coded at) (λ put next _ _.
        next-step _ _ _ (mixed_at inner limit s n next) _ (mixed n next) (λ es end _ _. tt))

    elements : (f : Option Kind) (n at : ℕ) → AtMost d (elements_at inner limit s f n at)
    elements (Some k) n at = typed d k n at
    elements None n at = mixed n at

    body : (at code : ℕ) → AtMost d (body_at inner limit s at code)
    unfolding body_at
    body at code =
        item d (at + 4) 4 _ (test _ _ (negative (word s (at + 4))) _ _ (λ e. omega arith) (λ e.
        next-step _ _ _ (elements_at inner limit s (kind_of (code - list_code)) (word s (at + 4)) (at + 8)) _
        (elements (kind_of (code - list_code)) (word s (at + 4)) (at + 8))
        (λ es next _ _. test _ _ (eqb code (list_code_of es)) _ _ (λ q. tt) (λ q. omega arith))))

  nested : (d at code : ℕ) → AtMost d (list_at d limit s at code)
  unfolding list_at
  nested zero at code = omega arith
  nested (suc d) at code =
      in_list_lem _ (λ r. r.depth ≤ d) _ (body_at (list_at d limit s) limit s at code) (body d (list_at d limit s) (nested d) at code) (λ r h. omega arith)

  front : AtMost depth_limit (parse limit s)
  unfolding parse
  front =
      item depth_limit 0 4 _ (test _ _ (is_list_code (word s 0)) _ _ (λ c. nested depth_limit 0 (word s 0)) (λ c. omega arith))

  pub value-shallow : (k : Kind) (at : ℕ) (r : Refusal) → value_at limit s at k ≡ bad r → r.depth ≤ 0
  value-shallow k at r e = rw e at (value 0 k at)

  pub coded-shallow : (d at : ℕ) (r : Refusal) → coded_at (list_at d limit s) limit s at ≡ bad r → r.depth ≤ d
  coded-shallow d at r e = rw e at (coded d (list_at d limit s) (nested d) at)

  pub list-shallow : (d at code : ℕ) (r : Refusal) → list_at d limit s at code ≡ bad r → r.depth ≤ d
  list-shallow d at code r e = rw e at (nested d at code)

  pub parse-shallow : (r : Refusal) → parse limit s ≡ bad r → r.depth ≤ depth_limit
  parse-shallow r e = rw e at front
