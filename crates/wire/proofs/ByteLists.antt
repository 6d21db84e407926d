-- Parts of bytes are bytes.
use Prim.Native.Nat.{ℕ, zero, suc, ◌<◌}
use mathlib.Core.List.{List, [], ◌∷◌, ◌++◌}
use native.Mathlib.Omega.{arith}
use lib.ListN.{get_or, take, drop, replicate}
use Rattle.wire.specs.Number.{Bytes}

pub drop-bytes : (n : ℕ) (s : List ℕ) → Bytes s → Bytes (drop n s)
drop-bytes zero s h = h
drop-bytes (suc n) [] h = tt
drop-bytes (suc n) (b ∷ s) h = drop-bytes n s h.1

pub take-bytes : (n : ℕ) (s : List ℕ) → Bytes s → Bytes (take n s)
take-bytes zero s h = tt
take-bytes (suc n) [] h = tt
take-bytes (suc n) (b ∷ s) h = (h.0, take-bytes n s h.1)

pub append-bytes : (s r : List ℕ) → Bytes s → Bytes r → Bytes (s ++ r)
append-bytes [] r h k = k
append-bytes (b ∷ s) r h k = (h.0, append-bytes s r h.1 k)

pub zero-bytes : (n : ℕ) → Bytes (replicate n 0)
zero-bytes zero = tt
zero-bytes (suc n) = (omega arith, zero-bytes n)

pub byte_small : (s : List ℕ) (i : ℕ) → Bytes s → get_or s i 0 < 256
byte_small [] i h = omega arith
byte_small (b ∷ s) zero h = h.0
byte_small (b ∷ s) (suc i) h = byte_small s i h.1

-- elements that are each below 256 are bytes
pub all-bytes : (s : List ℕ) → ((i : ℕ) → get_or s i 0 < 256) → Bytes s
all-bytes [] h = tt
all-bytes (b ∷ s) h = (h 0, all-bytes s (λ i. h (suc i)))
