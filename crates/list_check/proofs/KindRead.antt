-- What is read has the kind that was asked for.
use Prim.Native.Nat.{ℕ, zero, suc, ◌+◌}
use mathlib.Core.Path.{◌≡◌, refl, ap}
use mathlib.Core.List.{List}
use lib.ListN.{take, drop}
use Rattle.list.specs.declared.Kind.{Kind}
use Rattle.list.specs.declared.Kind.TheVariants.{Int, Float, Str, Blob, Vocab}
use Rattle.list.specs.Tree.{Value, Elements, kind, count}
use Rattle.list.specs.Strings.{negative, bad_length, closed}
use Rattle.list.specs.Parse.{Parsed, good, after_item, item_fault, word, string_at, blob_at, value_at, typed_at}
use Rattle.list.proofs.Codes.{AllKind}
use Rattle.list.proofs.Says.{Says, test, next-step, after-item}

module _ (limit : ℕ) (s : List ℕ) where
  -- G of what was read; a refusal says nothing
  abbrev Gives : {A : Type 0} → (A → ℕ → Type 0) → Parsed A → Type 0
  Gives G = Says G (λ r. Unit {0})

  gives-item : {A : Type 0} (G : A → ℕ → Type 0) (at n : ℕ) (p : Parsed A) → Gives G p → Gives G (after_item (item_fault limit s at n) at p)
  gives-item G at n p h = after-item limit s G (λ r. Unit {0}) at n p (λ fault e. tt) (λ f i. h)

  of-kind : (k : Kind) (at : ℕ) → Gives (λ v next. kind v ≡ k) (value_at limit s at k)
  unfolding value_at string_at blob_at
  of-kind Int at = gives-item _ at 4 _ refl
  of-kind Vocab at = gives-item _ at 4 _ refl
  of-kind Float at = gives-item _ at 8 _ refl
  of-kind Str at =
      gives-item _ at 4 _
      (test _ _ (bad_length (word s at)) _ _ (λ e. tt) (λ e.
      gives-item _ (at + 4) (word s at) _
      (test _ _ (closed (take (word s at) (drop (at + 4) s))) _ _ (λ c. refl) (λ c. tt))))
  of-kind Blob at =
      gives-item _ at 4 _ (test _ _ (negative (word s at)) _ _ (λ e. tt) (λ e. gives-item _ (at + 4) (word s at) _ refl))

  pub value-kind : (k : Kind) (at : ℕ) (v : Value) (next : ℕ) → value_at limit s at k ≡ good v next → kind v ≡ k
  value-kind k at v next h = rw h at (of-kind k at)

  -- elements without codes: as many as asked for, all of the kind
  all-kind : (k : Kind) (n at : ℕ) → Gives (λ es end. (count es ≡ n) × AllKind k es) (typed_at limit s k n at)
  unfolding typed_at
  all-kind k zero at = (refl, tt)
  all-kind k (suc n) at =
      next-step (λ v next. kind v ≡ k) _ _ (value_at limit s at k) _ (of-kind k at) (λ v next e w.
      next-step (λ es end. (count es ≡ n) × AllKind k es) _ _ (typed_at limit s k n next) _ (all-kind k n next) (λ es end d r.
      (ap suc r.0, (w, r.1))))

  pub typed-kind : (k : Kind) (n at : ℕ) (es : Elements) (end : ℕ) → typed_at limit s k n at ≡ good es end → (count es ≡ n) × AllKind k es
  typed-kind k n at es end h = rw h at (all-kind k n at)
