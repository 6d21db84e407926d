-- A run of fixed elements without codes is read whole where all of it is there.
use Prim.Native.Nat.{ℕ, zero, suc, ◌+◌, ◌*◌, ◌≤◌}
use mathlib.Core.Path.{◌≡◌, ap}
use mathlib.Core.List.{List, []}
use native.Mathlib.Nat.{mul-suc}
use native.Mathlib.Omega.{arith}
use lib.ListN.{length}
use Rattle.list.specs.declared.Kind.{Kind}
use Rattle.list.specs.declared.Kind.TheVariants.{Int, Float, Str, Blob, Vocab}
use Rattle.list.specs.Kind.{size_of}
use Rattle.list.specs.Tree.{Value, Elements, int, vocab, float, str, none, value}
use Rattle.list.specs.Parse.{good, word, value_at, typed_at}
use Rattle.list.proofs.Items.{fault-none}

-- the kinds whose elements have a fixed size
abbrev pub Fixed : Kind → Type 0
Fixed Int = Unit {0}
Fixed Vocab = Unit {0}
Fixed Float = Unit {0}
Fixed Str = ⊥
Fixed Blob = ⊥

-- the element of a fixed kind at an offset, and n of them in a row
abbrev pub fixed_value : List ℕ → Kind → ℕ → Value
fixed_value s Int at = int (word s at)
fixed_value s Vocab at = vocab (word s at)
fixed_value s Float at = float (word s at) (word s (at + 4))
fixed_value s Str at = str []
fixed_value s Blob at = str []

abbrev pub fixed_run : List ℕ → Kind → ℕ → ℕ → Elements
fixed_run s k zero at = none
fixed_run s k (suc n) at = value (fixed_value s k at) (fixed_run s k n (at + size_of k))

module _ (limit : ℕ) (s : List ℕ) where
  fixed-value : (k : Kind) (at : ℕ) → Fixed k → at + size_of k ≤ limit → at + size_of k ≤ length s → value_at limit s at k ≡ good (fixed_value s k at) (at + size_of k)
  unfolding value_at
  fixed-value Int at x f i = rw (fault-none limit s at 4 f i)
  fixed-value Vocab at x f i = rw (fault-none limit s at 4 f i)
  fixed-value Float at x f i = rw (fault-none limit s at 8 f i)
  fixed-value Str at x f i = absurd x
  fixed-value Blob at x f i = absurd x

  pub typed-run : (k : Kind) (n at : ℕ) → Fixed k → at + size_of k * n ≤ limit → at + size_of k * n ≤ length s
      → typed_at limit s k n at ≡ good (fixed_run s k n at) (at + size_of k * n)
  unfolding typed_at
  typed-run k zero at x f i = ap (good none) (omega arith)
  typed-run k (suc n) at x f i =
      let e : size_of k * suc n ≡ size_of k * n + size_of k = mul-suc (size_of k) n in
      rw (fixed-value k at x (omega arith) (omega arith), typed-run k n (at + size_of k) x (omega arith) (omega arith))
      (ap (good (fixed_run s k (suc n) at)) (omega arith))
