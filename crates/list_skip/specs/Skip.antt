-- Where elements end that follow their codes, in a list that was judged: by codes, counts and lengths alone.
use Rattle.std.specs.Prelude.{ℕ, zero, suc, ◌+◌, ◌-◌, ◌*◌, cond, List, ltb, length, take, Option, Some, None}
use Rattle.list.specs.declared.Kind.{Kind}
use Rattle.list.specs.declared.Kind.TheVariants.{Int, Float, Str, Blob, Vocab}
use Rattle.list.specs.Limits.{list_limit}
use Rattle.list.specs.Kind.{kind_of, size_of, list_code}
use Rattle.list.specs.Parse.{word}
use Rattle.list.specs.Open.{value_size}
use Rattle.list_skip.specs.declared.Stride.{Stride}

-- the end of n strings or blobs that carry no codes; past the end of the bytes there is none
unfoldable pub run_end : List ℕ → ℕ → ℕ → ℕ
run_end s zero at = at
run_end s (suc n) at = cond (ltb at (length s)) (run_end s n (at + 4 + word s at)) at

-- the end of n elements of one kind, which carry no codes
abbrev pub typed_end : List ℕ → Kind → ℕ → ℕ → ℕ
typed_end s Int n at = at + size_of Int * n
typed_end s Vocab n at = at + size_of Vocab * n
typed_end s Float n at = at + size_of Float * n
typed_end s Str n at = run_end s n at
typed_end s Blob n at = run_end s n at

-- what stands at the code of an element: where the next code stands, and how many elements of a list begin there
abbrev pub stride : ℕ → ℕ → Stride
stride next opens = record { next = next; opens = opens }

-- a list of n elements, behind its code and its count: those of a typed list carry no codes and are passed with it
abbrev pub list_stride : List ℕ → Option Kind → ℕ → ℕ → Stride
list_stride s (Some k) n first = stride (typed_end s k n first) 0
list_stride s None n first = stride first n

-- by the kind that the code names; "each element follows its code"
abbrev pub stride_of : List ℕ → ℕ → Option Kind → Stride
stride_of s at (Some k) = stride (at + 4 + value_size s (at + 4) k) 0
stride_of s at None = list_stride s (kind_of (word s at - list_code)) (word s (at + 4)) (at + 8)

unfoldable pub stride_at : List ℕ → ℕ → Stride
stride_at s at = stride_of s at (kind_of (word s at))

-- n elements from an offset on, at most `steps` strides; past the end of the bytes there is none
unfoldable pub skip_from : ℕ → List ℕ → ℕ → ℕ → ℕ
skip_from zero s n at = at
skip_from (suc steps) s zero at = at
skip_from (suc steps) s (suc n) at = cond (ltb at (length s)) (skip_from steps s (n + (stride_at s at).opens) (stride_at s at).next) at

-- "A list has at most 4,096 bytes", so no more strides
unfoldable pub elements_end : List ℕ → ℕ → ℕ → ℕ
elements_end s n at = skip_from list_limit (take list_limit s) n at
