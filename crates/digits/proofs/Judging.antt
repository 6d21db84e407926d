-- What holds of a reading, through each step of it.
use Prim.Native.Nat.{ℕ}
use mathlib.Core.Path.{◌≡◌, refl}
use mathlib.Core.Bool.{Bool, true, false, cond, ◌&&◌}
use mathlib.Core.Option.{Option, some}
use mathlib.Core.Option as option
use native.Mathlib.Omega.{arith}
use Rattle.digits.specs.Read.{Read, got, wrong, and_read, and_digits}

-- G of what was read and how many characters it has; nothing is said where nothing was read
abbrev pub Judged : {A : Type 0} → (A → ℕ → Type 0) → Read A → Type 0
Judged G (got a count) = G a count
Judged G wrong = Unit {0}

pub judged-got : {A : Type 0} (G : A → ℕ → Type 0) (r : Read A) (a : A) (count : ℕ) → Judged G r → r ≡ got a count → G a count
judged-got G r a count h e = rw e at h

pub judged-all : {A : Type 0} (G : A → ℕ → Type 0) (r : Read A) → ((a : A) (count : ℕ) → r ≡ got a count → G a count) → Judged G r
judged-all G (got a count) h = h a count refl
judged-all G wrong h = tt

-- what follows from what holds
pub judged-map :
    {A : Type 0} (G H : A → ℕ → Type 0) (r : Read A) → ((a : A) (count : ℕ) → G a count → H a count) → Judged G r → Judged H r
judged-map G H (got a count) f h = f a count h
judged-map G H wrong f h = tt

-- a test
pub judged-test :
    {A : Type 0} (G : A → ℕ → Type 0) (b : Bool) (p q : Read A) → (b ≡ true → Judged G p) → (b ≡ false → Judged G q) → Judged G (cond b p q)
judged-test G true p q x y = x refl
judged-test G false p q x y = y refl

-- a reading, then another
pub judged-read :
    {A B : Type 0} (G : B → ℕ → Type 0) (r : Read A) (go : A → ℕ → Read B) → ((a : A) (count : ℕ) → r ≡ got a count → Judged G (go a count))
    → Judged G (and_read r go)
judged-read G (got a count) go h = h a count refl
judged-read G wrong go h = tt

-- a number of a fixed number of digits, then a reading
pub judged-digits :
    {A : Type 0} (G : A → ℕ → Type 0) (o : Option ℕ) (go : ℕ → Read A) → ((n : ℕ) → o ≡ some n → Judged G (go n)) → Judged G (and_digits o go)
judged-digits G (some n) go h = h n refl
judged-digits G option.none go h = tt

-- both of two tests
pub both_left : (a b : Bool) → (a && b) ≡ true → a ≡ true
both_left true b h = refl
both_left false b h = h

pub both_right : (a b : Bool) → (a && b) ≡ true → b ≡ true
both_right true b h = h
both_right false b h = absurd (let z : ◌≡◌ {A = ℕ} 0 1 = cc in omega arith)
