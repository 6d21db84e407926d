-- Laws of the checker's number, and of the items that it judges.
use Prim.Native.Nat.{ℕ, ◌+◌, ◌*◌, ◌%◌, ◌≤◌, ◌<◌}
use mathlib.Core.Path.{◌≡◌, refl, ap, subst, ◌∙◌}
use mathlib.Core.Bool.{Bool, true, false, cond}
use mathlib.Core.List.{List}
use native.Mathlib.Omega.{arith}
use lib.Dec.{ltb}
use lib.ListN.{length}
use borrow.Author.Tests.{le-ltb, lt-ltb, ltb-true, ltb-false}
use Rattle.list.specs.Limits.{list_limit, depth_limit}
use Rattle.list.specs.Refusal.{Refusal, refusal, refusal_at, enclosed}
use Rattle.list.specs.Parse.{Parsed, good, bad, after_item, item_fault}
use Rattle.list.proofs.Items.{fault-none}
use Rattle.list_check.specs.Check.{Verdict, accepted, refused, judged}
use Rattle.list_check.specs.Steps.{told_by, depth_of, number_in, IsFault, enclosing, Refuses, missing_at}

-- an offset up to the limit is accepted
pub told-end : (end : ℕ) → end ≤ list_limit → told_by end ≡ accepted end
unfolding told_by
told-end end h = rw (le-ltb list_limit end h)

-- goes on behind what was accepted in a list; a refusal counts the list
abbrev pub then_go : Verdict → (ℕ → Verdict) → Verdict
then_go (accepted end) go = go end
then_go (refused r) go = refused (enclosed r)

-- a refusal is handed on with one list more, any other number is where the next item begins
pub stopped : (bits bits' : ℕ) (v : Verdict) (go : ℕ → Verdict) → told_by bits ≡ v → ltb list_limit bits ≡ true → told_by bits' ≡ enclosing (told_by bits)
    → told_by bits' ≡ then_go v go
unfolding told_by
stopped bits bits' v go e t c = let q = rw t at e in rw t at c ∙ rw (← q)

pub went_on : (bits : ℕ) (v : Verdict) (go : ℕ → Verdict) → told_by bits ≡ v → ltb list_limit bits ≡ false → then_go v go ≡ go bits
unfolding told_by
went_on bits v go e t = let q = rw t at e in rw (← q)

-- a refusal's number is above the limit and counts its lists
pub told-refused : (bits : ℕ) (r : Refusal) → told_by bits ≡ refused r → (list_limit < bits) × (depth_of bits ≡ r.depth)
unfolding told_by
told-refused bits r e = go (ltb list_limit bits) refl e
  where
    go : (b : Bool) → ltb list_limit bits ≡ b
        → cond b (refused (refusal_at (number_in bits) (bits % (2 * list_limit)) (depth_of bits))) (accepted bits) ≡ refused r
        → (list_limit < bits) × (depth_of bits ≡ r.depth)
    go true t q = (ltb-true list_limit bits t, cc)
    go false t q = absurd (let z : ◌≡◌ {A = ℕ} 0 1 = cc in omega arith)

-- one that counts no list may be given one
pub may-enclose : (bits number offset : ℕ) → told_by bits ≡ refused (refusal number offset) → (list_limit < bits) × (depth_of bits < depth_limit)
may-enclose bits number offset e = let t = told-refused bits (refusal number offset) e in (t.0, omega (arith, t.1))

pub told_in : (bits bits' : ℕ) (r : Refusal) → told_by bits ≡ refused r → told_by bits' ≡ enclosing (told_by bits) → told_by bits' ≡ refused (enclosed r)
told_in bits bits' r e c = c ∙ ap enclosing e

-- any number that tells of what was to be read counts no more lists than its refusal
pub told-depth : {A : Type 0} (bits d : ℕ) (p : Parsed A) → told_by bits ≡ judged p → ((r : Refusal) → p ≡ bad r → r.depth ≤ d) → depth_of bits ≤ d
unfolding told_by
told-depth bits d (bad r) e h = omega (arith, (told-refused bits r e).1, h r refl)
told-depth bits d (good a end) e h = go (ltb list_limit bits) refl e
  where
    go : (b : Bool) → ltb list_limit bits ≡ b
        → cond b (refused (refusal_at (number_in bits) (bits % (2 * list_limit)) (depth_of bits))) (accepted bits) ≡ accepted end → depth_of bits ≤ d
    go true t q = absurd (let z : ◌≡◌ {A = ℕ} 0 1 = cc in omega arith)
    go false t q = omega (arith, ltb-false list_limit bits t)

-- and its refusal is one of theirs
pub told-fault : {A : Type 0} (bits : ℕ) (p : Parsed A) → told_by bits ≡ judged p → ((r : Refusal) → p ≡ bad r → IsFault r.number) → list_limit < bits → IsFault (number_in bits)
unfolding told_by
told-fault bits (bad r) e h more =
    let q = rw (lt-ltb list_limit bits more) at e in
    let n : r.number ≡ number_in bits = cc in
    subst IsFault n (h r refl)
told-fault bits (good a end) e h more =
    let q = rw (lt-ltb list_limit bits more) at e in
    absurd (let z : ◌≡◌ {A = ℕ} 0 1 = cc in omega arith)

-- a number that refuses is above the limit and counts no more lists either
pub refuses-depth : {A : Type 0} (bits d : ℕ) (p : Parsed A) → Refuses bits p → ((r : Refusal) → p ≡ bad r → r.depth ≤ d) → (list_limit < bits) × (depth_of bits ≤ d)
refuses-depth bits d (good a end) h f = absurd h
refuses-depth bits d (bad r) h f = let t = told-refused bits r h in (t.0, omega (arith, t.1, f r refl))

-- an item that is not all there, and one that is: then it has no fault
pub item-missing : {A : Type 0} (s : List ℕ) (at n : ℕ) (p : Parsed A) → length s < at + n → after_item (item_fault list_limit s at n) at p ≡ bad (missing_at at n)
unfolding item_fault
item-missing {A} s at n p h = rw (lt-ltb (length s) (at + n) h) (go (ltb list_limit (at + n)))
  where
    go : (b : Bool) → after_item (cond b 28 21) at p ≡ bad (refusal (cond b 28 21) at)
    go true = refl
    go false = refl

pub there : (s : List ℕ) (at n : ℕ) → length s ≤ list_limit → at + n ≤ length s → item_fault list_limit s at n ≡ 0
there s at n f h = fault-none list_limit s at n (omega arith) h
