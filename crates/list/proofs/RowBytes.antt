-- Laws of rows as bytes: numbers and their bytes determine each other.
use Prim.Native.Nat.{ℕ, zero, suc, ◌+◌, ◌-◌, ◌*◌, ◌/◌, ◌%◌, ◌^◌, ◌≤◌, ◌<◌}
use mathlib.Core.Path.{◌≡◌, refl, sym, ap, ◌∙◌}
use mathlib.Core.Bool.{Bool, true, false}
use mathlib.Core.List.{List, [], ◌∷◌, ◌++◌}
use native.Mathlib.Omega.{arith}
use lib.Dec.{leb}
use lib.ListN.{length, take, drop, get_or, get_or-eq_default}
use borrow.Author.Tests.{le-leb, lt-leb, leb-true, leb-false}
use Rattle.wire.specs.Number.{number_at, Bytes}
use Rattle.wire.proofs.Numbers.{value-of-bytes, bytes-of-value, value-fits, part-number}
use Rattle.list.specs.Bytes.{number}
use Rattle.list.specs.RowBytes.{packed, unpacked}

pub packed-append : (xs ys : List ℕ) → packed (xs ++ ys) ≡ packed xs ++ packed ys
packed-append [] ys = refl
packed-append (x ∷ xs) ys = ap (λ (l : List ℕ). number x ++ l) (packed-append xs ys)

pub packed-length : (xs : List ℕ) → length (packed xs) ≡ 4 * length xs
packed-length [] = refl
packed-length (x ∷ xs) = omega (arith, packed-length xs)

-- "rows of three 32-bit numbers"
abbrev pub Words : List ℕ → Type 0
Words [] = Unit {0}
Words (n ∷ ns) = (n < 2 ^ 32) × Words ns

pub unpacked-packed : (ns : List ℕ) → Words ns → unpacked (packed ns) ≡ ns
unfolding unpacked
unpacked-packed [] w = refl
unpacked-packed (n ∷ ns) w = rw (value-of-bytes 4 n w.0, unpacked-packed ns w.1)

-- and bytes are those of the numbers that they hold, where they make whole ones
pub packed-unpacked : (s : List ℕ) → Bytes s → length s % 4 ≡ 0 → packed (unpacked s) ≡ s
unfolding unpacked
packed-unpacked [] b h = refl
packed-unpacked (x ∷ []) b h = absurd (omega arith)
packed-unpacked (x ∷ y ∷ []) b h = absurd (omega arith)
packed-unpacked (x ∷ y ∷ z ∷ []) b h = absurd (omega arith)
packed-unpacked (x ∷ y ∷ z ∷ w ∷ s) b h =
    ap (λ (l : List ℕ). l ++ packed (unpacked s)) (bytes-of-value (x ∷ y ∷ z ∷ w ∷ []) (b.0, (b.1.0, (b.1.1.0, (b.1.1.1.0, tt)))))
    ∙ ap (λ (l : List ℕ). x ∷ y ∷ z ∷ w ∷ l) (packed-unpacked s b.1.1.1.1 (omega arith))

pub unpacked-words : (s : List ℕ) → Bytes s → Words (unpacked s)
unfolding unpacked
unpacked-words [] b = tt
unpacked-words (x ∷ []) b = tt
unpacked-words (x ∷ y ∷ []) b = tt
unpacked-words (x ∷ y ∷ z ∷ []) b = tt
unpacked-words (x ∷ y ∷ z ∷ w ∷ s) b =
    (value-fits (x ∷ y ∷ z ∷ w ∷ []) (b.0, (b.1.0, (b.1.1.0, (b.1.1.1.0, tt)))), unpacked-words s b.1.1.1.1)

-- four bytes to a number
pub unpacked-length : (s : List ℕ) → length (unpacked s) ≡ length s / 4
unfolding unpacked
unpacked-length [] = refl
unpacked-length (a ∷ []) = refl
unpacked-length (a ∷ b ∷ []) = refl
unpacked-length (a ∷ b ∷ c ∷ []) = refl
unpacked-length (a ∷ b ∷ c ∷ d ∷ s) = omega (arith, unpacked-length s)

-- n numbers are held by 4 * n bytes or more
pub room-bytes : (n : ℕ) (s : List ℕ) → leb n (length (unpacked s)) ≡ leb (4 * n) (length s)
room-bytes n s = go (leb n (length (unpacked s))) refl
  where
    go : (b : Bool) → leb n (length (unpacked s)) ≡ b → b ≡ leb (4 * n) (length s)
    go true e = sym (le-leb (4 * n) (length s) (omega (arith, leb-true n (length (unpacked s)) e, unpacked-length s)))
    go false e = sym (lt-leb (4 * n) (length s) (omega (arith, leb-false n (length (unpacked s)) e, unpacked-length s)))

-- the number i stands at four times i
pub unpacked-at : (s : List ℕ) (i : ℕ) → i < length s / 4 → get_or (unpacked s) i 0 ≡ number_at 4 s (4 * i)
unfolding unpacked
unpacked-at [] i h = absurd (omega arith)
unpacked-at (a ∷ []) i h = absurd (omega arith)
unpacked-at (a ∷ b ∷ []) i h = absurd (omega arith)
unpacked-at (a ∷ b ∷ c ∷ []) i h = absurd (omega arith)
unpacked-at (a ∷ b ∷ c ∷ d ∷ s) zero h = refl
unpacked-at (a ∷ b ∷ c ∷ d ∷ s) (suc i) h =
    let e : 4 * suc i ≡ suc (suc (suc (suc (4 * i)))) = omega arith in
    rw e (unpacked-at s i (omega arith))

-- past the last there is none
pub unpacked-past : (s : List ℕ) (i : ℕ) → length s / 4 ≤ i → get_or (unpacked s) i 0 ≡ 0
unpacked-past s i h = get_or-eq_default (unpacked s) 0 (omega (arith, unpacked-length s))

-- the same of a number that is read from a part of its size
pub unpacked-part : (s : List ℕ) (i at e n : ℕ) → i < length s / 4 → at ≡ 4 * i → e ≡ at + 4 → n ≡ number_at 4 (take (e - at) (drop at s)) 0
    → n ≡ get_or (unpacked s) i 0
unpacked-part s i at e n h is_at is-e is-n =
    is-n ∙ part-number 4 (e - at) s at (omega arith) ∙ ap (number_at 4 s) is_at ∙ sym (unpacked-at s i h)
