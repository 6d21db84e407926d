-- The lists that are open at an offset go by the bytes before it alone: a step that reads a byte at the offset or behind it ends behind it.
use Prim.Native.Nat.{ℕ, zero, suc, ◌+◌, ◌-◌, ◌<◌}
use mathlib.Core.Path.{◌≡◌, refl, sym, ap, ◌∙◌}
use mathlib.Core.Bool.{Bool, true, false, cond}
use mathlib.Core.List.{List, [], ◌∷◌}
use native.Mathlib.Omega.{arith}
use lib.Dec.{ltb}
use lib.ListN.{take}
use borrow.Author.Tests.{ltb-true, ltb-false, lt-ltb}
use Rattle.std.specs.Prelude.{Option, Some, None}
use Rattle.list.specs.declared.Kind.{Kind}
use Rattle.list.specs.declared.Kind.TheVariants.{Int, Float, Str, Blob, Vocab}
use Rattle.list.specs.Kind.{kind_of, list_code}
use Rattle.list.specs.Parse.{word}
use Rattle.list.specs.Open.{Open, uncounted, counted, Position, position, value_size, still_open, past_code, past_item, open_from, open_at}
use Rattle.list.proofs.Cut.{word_cut}

module _ (s : List ℕ) (to : ℕ) where
  abbrev t : List ℕ
  t = take to s

  -- two steps come to the same place with the same lists open, or both end behind the offset
  data Agree (p q : Position) : Type 0 where
    same : p ≡ q → Agree p q
    behind : to < p.next → to < q.next → Agree p q

  -- the four bytes at `at` end behind the offset, or they are the same where the bytes are cut there
  word-there : {A : Type 0} (at : ℕ) → (to < at + 4 → A) → (word t at ≡ word s at → A) → A
  word-there {A} at short whole = go (ltb to (at + 4)) refl
    where
      go : (b : Bool) → ltb to (at + 4) ≡ b → A
      go true e = short (ltb-true to (at + 4) e)
      go false e = whole (word_cut to s at (ltb-false to (at + 4) e))

  value-agree : (at : ℕ) (lists : List Open) (k : Kind) → Agree (position (at + value_size t at k) lists) (position (at + value_size s at k) lists)
  value-agree at lists Int = same refl
  value-agree at lists Vocab = same refl
  value-agree at lists Float = same refl
  value-agree at lists Str = word-there at (λ f. behind (omega arith) (omega arith)) (λ e. same (rw e))
  value-agree at lists Blob = word-there at (λ f. behind (omega arith) (omega arith)) (λ e. same (rw e))

  -- a code that is cut, whatever it names
  code-behind : (b : List ℕ) (at : ℕ) (lists : List Open) (found : Option Kind) → to < at + 4 → to < (past_code b at lists found).next
  code-behind b at lists (Some k) f = omega arith
  code-behind b at lists None f = f

  code_agree : (at : ℕ) (lists : List Open) (found : Option Kind) → word t at ≡ word s at → Agree (past_code t at lists found) (past_code s at lists found)
  code_agree at lists (Some k) e = value-agree (at + 4) (still_open lists) k
  code_agree at lists None e = same (rw e)

  item-agree : (at : ℕ) (lists : List Open) → Agree (past_item t at lists) (past_item s at lists)
  item-agree at [] = same refl
  item-agree at (uncounted elements ∷ lists) = word-there at (λ f. behind f f) (λ e. same (rw e))
  item-agree at (counted elements zero ∷ lists) = same refl
  item-agree at (counted (Some k) (suc left) ∷ lists) = value-agree at (still_open (counted (Some k) left ∷ lists)) k
  item-agree at (counted None (suc left) ∷ lists) =
      let inner : List Open = counted None left ∷ lists in
      word-there at
      (λ f. behind (code-behind t at inner (kind_of (word t at)) f) (code-behind s at inner (kind_of (word s at)) f))
      (λ e. rw e (code_agree at inner (kind_of (word s at)) e))

  -- one step and the count from there on
  step_same : (n : ℕ) (p q : Position) (from from' : ℕ → List Open → ℕ) → Agree p q → ((at : ℕ) (lists : List Open) → from at lists ≡ from' at lists)
      → cond (ltb to p.next) n (from p.next p.lists) ≡ cond (ltb to q.next) n (from' q.next q.lists)
  step_same n p q from from' (same e) h = rw (e, h q.next q.lists)
  step_same n p q from from' (behind f g) h = rw (lt-ltb to p.next f, lt-ltb to q.next g)

  from-same : (steps at : ℕ) (lists : List Open) → open_from steps t to at lists ≡ open_from steps s to at lists
  unfolding open_from
  from-same zero at lists = refl
  from-same (suc steps) at lists = step_same _ _ _ (open_from steps t to) (open_from steps s to) (item-agree at lists) (from-same steps)

-- LAW: the count goes by the bytes before the offset alone
pub open-before : (s : List ℕ) (to : ℕ) → open_at (take to s) to ≡ open_at s to
unfolding open_at
open-before s to =
    word-there s to 0 (λ f. rw (lt-ltb to 4 f)) (λ e. rw (e, from-same s to to 4 (uncounted (kind_of (word s 0 - list_code)) ∷ [])))

-- LAW: bytes that agree up to an offset have the same lists open there
pub open-same : (s t : List ℕ) (to : ℕ) → take to s ≡ take to t → open_at s to ≡ open_at t to
open-same s t to e = sym (open-before s to) ∙ ap (λ (x : List ℕ). open_at x to) e ∙ open-before t to
