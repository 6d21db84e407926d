-- Laws of tests.
use Prim.Native.Nat.{ℕ, zero, suc}
use mathlib.Core.Path.{◌≡◌, refl, sym, ap}
use mathlib.Core.Bool.{Bool, true, false, not, cond, ◌&&◌, ◌||◌}
use native.Mathlib.Omega.{arith}
use lib.Dec.{ltb, leb, eqb}
use borrow.Author.Tests.{lt-ltb, le-leb, lt-leb, ne_eqb, ltb-true, ltb-false}
use Rattle.wire.specs.Every.{every}

pub never : {A : Type 0} → true ≡ false → A
never e = let z : ◌≡◌ {A = ℕ} 0 1 = ap (λ (b : Bool). cond b 0 1) e in absurd (omega arith)

-- "not a, or b" with a is b
pub imply : (a b : Bool) → (not a || b) ≡ true → a ≡ true → b ≡ true
imply true b h e = h
imply false b h e = never (sym e)

pub implied : (a b : Bool) → (a ≡ true → b ≡ true) → (not a || b) ≡ true
implied true b h = h refl
implied false b h = refl

-- one of two tests, by a third
pub either : (a b c : Bool) → ((a && b) || (not a && c)) ≡ cond a b c
either true true c = refl
either true false c = refl
either false b c = refl

-- a number that is not above another is at most that
pub not-above : (a b : ℕ) → not (ltb b a) ≡ leb a b
not-above a b = go (ltb b a) refl
  where
    go : (t : Bool) → ltb b a ≡ t → not t ≡ leb a b
    go true e = sym (lt-leb a b (ltb-true b a e))
    go false e = sym (le-leb a b (ltb-false b a e))

-- a number that is not above 0 is 0
pub not-above-zero : (a : ℕ) → not (ltb 0 a) ≡ eqb a 0
not-above-zero zero = refl
not-above-zero (suc n) = rw (lt-ltb 0 (suc n) (omega arith), ne_eqb (suc n) 0 (λ e. omega arith))

swap : (a b c d : Bool) → ((a && b) && (c && d)) ≡ ((a && c) && (b && d))
swap true true c d = refl
swap true false true d = refl
swap true false false d = refl
swap false b c d = refl

-- two tests at each index are each of them at every one
pub every-both : (n : ℕ) (p q : ℕ → Bool) → every n (λ i. p i && q i) ≡ (every n p && every n q)
unfolding every
every-both zero p q = refl
every-both (suc n) p q = rw (every-both n p q) (swap (every n p) (every n q) (p n) (q n))
