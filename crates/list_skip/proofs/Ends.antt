-- Laws of strides and of stepping over them, case by case.
use Prim.Native.Nat.{ℕ, zero, suc, ◌+◌, ◌-◌, ◌^◌, ◌≤◌, ◌<◌}
use mathlib.Core.Path.{◌≡◌, refl, ap, ◌∙◌}
use mathlib.Core.Bool.{Bool, true, false, cond}
use mathlib.Core.List.{List}
use native.Mathlib.Omega.{arith}
use lib.Dec.{ltb}
use lib.ListN.{length, get_or}
use borrow.Author.Tests.{lt-ltb, le-ltb}
use Rattle.std.specs.Prelude.{Option, Some, None}
use Rattle.wire.specs.Number.{Bytes}
use Rattle.wire.proofs.Numbers.{number-4}
use Rattle.wire.proofs.ByteLists.{byte_small}
use Rattle.list.specs.declared.Kind.{Kind}
use Rattle.list.specs.declared.Kind.TheVariants.{Int, Float, Str, Blob, Vocab}
use Rattle.list.specs.Kind.{code_of, kind_of, list_code, typed_code}
use Rattle.list.specs.Parse.{word}
use Rattle.list.specs.Open.{value_size}
use Rattle.list.proofs.Codes.{kind-of-code, code-low, kind-of-typed, not-kind}
use Rattle.list_skip.specs.Skip.{run_end, typed_end, stride, list_stride, stride_of, stride_at, skip_from}

-- a code that is no typed list's
no-typed : (code : ℕ) → ((k : Kind) → code ≡ typed_code k → ⊥) → kind_of (code - list_code) ≡ None
no-typed code other = not-kind (code - list_code) (λ k e. other k (omega (arith, (code-low k).0)))

module _ (s : List ℕ) where
  -- by the code of a list
  pub list-typed : (k : Kind) (code n first : ℕ) → code ≡ typed_code k → list_stride s (kind_of (code - list_code)) n first ≡ stride (typed_end s k n first) 0
  list-typed k code n first e = rw (e, kind-of-typed k)

  pub list-other : (code n first : ℕ) → ((k : Kind) → code ≡ typed_code k → ⊥) → list_stride s (kind_of (code - list_code)) n first ≡ stride first n
  list-other code n first other = rw (no-typed code other)

  -- strings or blobs, one after the other
  pub run_step : (n at : ℕ) → at < length s → run_end s n (at + 4 + word s at) ≡ run_end s (suc n) at
  unfolding run_end
  run_step n at h = rw (lt-ltb at (length s) h)

  pub run-next : (n at : ℕ) → 0 < n → at < length s → run_end s (n - 1) (at + 4 + word s at) ≡ run_end s n at
  run-next n at some h = let e : suc (n - 1) ≡ n = omega arith in run_step (n - 1) at h ∙ ap (λ (m : ℕ). run_end s m at) e

  pub run_past : (n at : ℕ) → length s ≤ at → run_end s n at ≡ at
  unfolding run_end
  run_past zero at h = refl
  run_past (suc n) at h = rw (le-ltb at (length s) h)

  pub run_none : (n at : ℕ) → n ≤ 0 → run_end s n at ≡ at
  unfolding run_end
  run_none zero at z = refl
  run_none (suc n) at z = absurd (omega arith)

  run-forward : (n at : ℕ) → at ≤ run_end s n at
  unfolding run_end
  run-forward zero at = omega arith
  run-forward (suc n) at = go (ltb at (length s)) (run-forward n (at + 4 + word s at))
    where
      go : (b : Bool) → at + 4 + word s at ≤ run_end s n (at + 4 + word s at) → at ≤ cond b (run_end s n (at + 4 + word s at)) at
      go true h = omega arith
      go false h = omega arith

  typed-forward : (k : Kind) (n at : ℕ) → at ≤ typed_end s k n at
  typed-forward Int n at = omega arith
  typed-forward Vocab n at = omega arith
  typed-forward Float n at = omega arith
  typed-forward Str n at = run-forward n at
  typed-forward Blob n at = run-forward n at

  value-forward : (k : Kind) (at : ℕ) → 4 ≤ value_size s at k
  value-forward Int at = omega arith
  value-forward Vocab at = omega arith
  value-forward Float at = omega arith
  value-forward Str at = omega arith
  value-forward Blob at = omega arith

  module _ (at : ℕ) where
    -- by the code of an stride
    pub stride-value : (k : Kind) → word s at ≡ code_of k → stride_at s at ≡ stride (at + 4 + value_size s (at + 4) k) 0
    unfolding stride_at
    stride-value k e = rw (ap kind_of e ∙ kind-of-code k)

    pub stride-list : kind_of (word s at) ≡ None → stride_at s at ≡ list_stride s (kind_of (word s at - list_code)) (word s (at + 4)) (at + 8)
    unfolding stride_at
    stride-list e = rw e

    -- the next code stands behind, and what begins there is a number of four bytes
    pub stride-forward : at + 8 ≤ (stride_at s at).next
    unfolding stride_at
    stride-forward = go (kind_of (word s at))
      where
        in_list : (f : Option Kind) → at + 8 ≤ (list_stride s f (word s (at + 4)) (at + 8)).next
        in_list (Some k) = typed-forward k (word s (at + 4)) (at + 8)
        in_list None = omega arith

        go : (f : Option Kind) → at + 8 ≤ (stride_of s at f).next
        go (Some k) = omega (arith, value-forward k (at + 4))
        go None = in_list (kind_of (word s at - list_code))

    pub opens_small : Bytes s → (stride_at s at).opens < 2 ^ 32
    unfolding stride_at
    opens_small all = go (kind_of (word s at))
      where
        small : word s (at + 4) < 2 ^ 32
        small =
            let byte : (i : ℕ) → get_or s i 0 < 256 = λ i. byte_small s i all in
            omega (arith, number-4 s (at + 4), byte (at + 4), byte (at + 4 + 1), byte (at + 4 + 2), byte (at + 4 + 3))

        in_list : (f : Option Kind) → (list_stride s f (word s (at + 4)) (at + 8)).opens < 2 ^ 32
        in_list (Some k) = omega arith
        in_list None = small

        go : (f : Option Kind) → (stride_of s at f).opens < 2 ^ 32
        go (Some k) = omega arith
        go None = in_list (kind_of (word s at - list_code))

  -- elements, one stride after the other
  pub skip_step : (steps n at : ℕ) → at < length s → skip_from steps s (n + (stride_at s at).opens) (stride_at s at).next ≡ skip_from (suc steps) s (suc n) at
  unfolding skip_from
  skip_step steps n at h = rw (lt-ltb at (length s) h)

  pub skip-next : (steps n at : ℕ) → 0 < n → at < length s → 0 < steps
      → skip_from (steps - 1) s (n - 1 + (stride_at s at).opens) (stride_at s at).next ≡ skip_from steps s n at
  skip-next steps n at some h more =
      let e : suc (n - 1) ≡ n = omega arith in
      let f : suc (steps - 1) ≡ steps = omega arith in
      skip_step (steps - 1) (n - 1) at h ∙ ap (λ (m : ℕ). skip_from (suc (steps - 1)) s m at) e ∙ ap (λ (m : ℕ). skip_from m s n at) f

  pub skip-past : (steps n at : ℕ) → length s ≤ at → skip_from steps s n at ≡ at
  unfolding skip_from
  skip-past zero n at h = refl
  skip-past (suc steps) zero at h = refl
  skip-past (suc steps) (suc n) at h = rw (le-ltb at (length s) h)

  pub skip-none : (steps n at : ℕ) → n ≤ 0 → skip_from steps s n at ≡ at
  unfolding skip_from
  skip-none zero n at z = refl
  skip-none (suc steps) zero at z = refl
  skip-none (suc steps) (suc n) at z = absurd (omega arith)
