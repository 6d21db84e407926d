-- Laws of items at an offset: what stands there, and when an item has no fault.
use Prim.Native.Nat.{ℕ, zero, suc, ◌+◌, ◌^◌, ◌≤◌, ◌<◌}
use mathlib.Core.Path.{◌≡◌, refl, sym, ap, subst, ◌∙◌}
use mathlib.Core.Bool.{Bool, true, false, cond}
use mathlib.Core.List.{List, [], ◌∷◌, ◌++◌}
use native.Mathlib.Omega.{arith}
use lib.Dec.{ltb}
use lib.ListN.{length, take, drop, length-append, length-drop}
use lib.Seq.{drop-drop, drop_at, take_at}
use borrow.Author.Tests.{le-ltb, ltb-false}
use Rattle.wire.specs.Number.{Bytes}
use Rattle.wire.proofs.Numbers.{value-of-bytes}
use Rattle.list.specs.Bytes.{number}
use Rattle.list.specs.Parse.{item_fault, word}

-- bytes stay bytes in a part
pub bytes_take : (n : ℕ) (s : List ℕ) → Bytes s → Bytes (take n s)
bytes_take zero s b = tt
bytes_take (suc n) [] b = tt
bytes_take (suc n) (x ∷ s) b = (b.0, bytes_take n s b.1)

pub bytes_drop : (n : ℕ) (s : List ℕ) → Bytes s → Bytes (drop n s)
bytes_drop zero s b = b
bytes_drop (suc n) [] b = tt
bytes_drop (suc n) (x ∷ s) b = bytes_drop n s b.1

-- the bytes of s from `at` on are `rest`
pub record Stands (s : List ℕ) (at : ℕ) (rest : List ℕ) : Type 0 where
  pub inside : at ≤ length s
  pub reads : drop at s ≡ rest

pub stands-front : (s : List ℕ) → Stands s 0 s
stands-front s = record { inside = omega arith; reads = refl }

pub stands-length : (s : List ℕ) (at : ℕ) (xs rest : List ℕ) → Stands s at (xs ++ rest) → at + length xs ≤ length s
stands-length s at xs rest h = omega (arith, simp (length-drop, length-append) at (ap length h.reads))

-- behind the bytes xs
pub stands-behind : (s : List ℕ) (at : ℕ) (xs rest : List ℕ) → Stands s at (xs ++ rest) → Stands s (at + length xs) rest
stands-behind s at xs rest h = record {
  inside = stands-length s at xs rest h;
  reads = sym (drop-drop (length xs) at s) ∙ ap (drop (length xs)) h.reads ∙ drop_at xs rest (length xs) refl;
}

pub stands-take : (s : List ℕ) (at : ℕ) (xs rest : List ℕ) → Stands s at (xs ++ rest) → take (length xs) (drop at s) ≡ xs
stands-take s at xs rest h = ap (take (length xs)) h.reads ∙ take_at xs rest (length xs) refl

-- the number that stands at an offset
pub word_of : (s : List ℕ) (at n : ℕ) (rest : List ℕ) → n < 2 ^ 32 → Stands s at (number n ++ rest) → word s at ≡ n
word_of s at n rest small h = rw h.reads (value-of-bytes 4 n (omega arith))

-- an item has no fault exactly if all of it is there and within the limit
pub fault-none : (limit : ℕ) (s : List ℕ) (at n : ℕ) → at + n ≤ limit → at + n ≤ length s → item_fault limit s at n ≡ 0
unfolding item_fault
fault-none limit s at n p q = rw (le-ltb limit (at + n) p, le-ltb (length s) (at + n) q)

pub fault-fits : (limit : ℕ) (s : List ℕ) (at n : ℕ) → item_fault limit s at n ≡ 0 → (at + n ≤ limit) × (at + n ≤ length s)
unfolding item_fault
fault-fits limit s at n = go (ltb limit (at + n)) refl (ltb (length s) (at + n)) refl
  where
    go : (a : Bool) → ltb limit (at + n) ≡ a → (b : Bool) → ltb (length s) (at + n) ≡ b
        → cond {A = ℕ} a 28 (cond b 21 0) ≡ 0 → (at + n ≤ limit) × (at + n ≤ length s)
    go true e b f h = absurd (omega arith)
    go false e true f h = absurd (omega arith)
    go false e false f h = (ltb-false _ _ e, ltb-false _ _ f)

-- an item's fault is 28 or 21: what holds of both numbers holds of it
pub fault-is : (P : ℕ → Type 0) (limit : ℕ) (s : List ℕ) (at n fault : ℕ) → P 28 → P 21 → item_fault limit s at n ≡ suc fault → P (suc fault)
unfolding item_fault
fault-is P limit s at n fault long short = go (ltb limit (at + n)) (ltb (length s) (at + n))
  where
    go : (a b : Bool) → cond {A = ℕ} a 28 (cond b 21 0) ≡ suc fault → P (suc fault)
    go true b h = subst P h long
    go false true h = subst P h short
    go false false h = absurd (omega arith)

-- nothing is missing of no bytes
pub fault-some : (limit : ℕ) (s : List ℕ) (at n fault : ℕ) → at ≤ limit → at ≤ length s → item_fault limit s at n ≡ suc fault → 0 < n
fault-some limit s at zero fault f i e = absurd (omega (arith, fault-none limit s at 0 (omega arith) (omega arith)))
fault-some limit s at (suc n) fault f i e = omega arith
