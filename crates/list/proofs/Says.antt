-- What holds of an answer of reading, good or bad, through each step of it.
use Prim.Native.Nat.{ℕ, zero, suc, ◌+◌, ◌≤◌}
use mathlib.Core.Path.{◌≡◌, refl}
use mathlib.Core.Bool.{Bool, true, false, cond}
use mathlib.Core.List.{List}
use lib.ListN.{length}
use Rattle.list.specs.Refusal.{Refusal, refusal, enclosed}
use Rattle.list.specs.Parse.{Parsed, good, bad, and_then, in_list, after_item, item_fault}
use Rattle.list.proofs.Items.{fault-fits}

-- G of what was read and of the offset behind it, B of a refusal
abbrev pub Says : {A : Type 0} → (A → ℕ → Type 0) → (Refusal → Type 0) → Parsed A → Type 0
Says G B (good a next) = G a next
Says G B (bad r) = B r

pub test : {A : Type 0} (G : A → ℕ → Type 0) (B : Refusal → Type 0) (b : Bool) (p q : Parsed A)
    → (b ≡ true → Says G B p) → (b ≡ false → Says G B q) → Says G B (cond b p q)
test G B true p q x y = x refl
test G B false p q x y = y refl

pub next-step : {A C : Type 0} (G : A → ℕ → Type 0) (H : C → ℕ → Type 0) (B : Refusal → Type 0) (p : Parsed A) (go : A → ℕ → Parsed C) → Says G B p
    → ((a : A) (next : ℕ) → p ≡ good a next → G a next → Says H B (go a next)) → Says H B (and_then p go)
next-step G H B (good a next) go h f = f a next refl h
next-step G H B (bad r) go h f = h

pub after-item : {A : Type 0} (limit : ℕ) (s : List ℕ) (G : A → ℕ → Type 0) (B : Refusal → Type 0) (at n : ℕ) (p : Parsed A)
    → ((fault : ℕ) → item_fault limit s at n ≡ suc fault → B (refusal (suc fault) at))
    → (at + n ≤ limit → at + n ≤ length s → Says G B p) → Says G B (after_item (item_fault limit s at n) at p)
after-item {A} limit s G B at n p fails go = by (item_fault limit s at n) refl
  where
    by : (fault : ℕ) → item_fault limit s at n ≡ fault → Says G B (after_item fault at p)
    by zero e = let f = fault-fits limit s at n e in go f.0 f.1
    by (suc fault) e = fails fault e

pub in_list_lem : {A : Type 0} (G : A → ℕ → Type 0) (B C : Refusal → Type 0) (p : Parsed A) → Says G B p → ((r : Refusal) → B r → C (enclosed r)) → Says G C (in_list p)
in_list_lem G B C (good a next) h f = h
in_list_lem G B C (bad r) h f = f r h

pub weaken : {A : Type 0} (G H : A → ℕ → Type 0) (B : Refusal → Type 0) (p : Parsed A) → Says G B p → ((a : A) (next : ℕ) → G a next → H a next) → Says H B p
weaken G H B (good a next) h f = f a next h
weaken G H B (bad r) h f = h

pub weaken-bad : {A : Type 0} (G : A → ℕ → Type 0) (B C : Refusal → Type 0) (p : Parsed A) → Says G B p → ((r : Refusal) → B r → C r) → Says G C p
weaken-bad G B C (good a next) h f = h
weaken-bad G B C (bad r) h f = f r h
