-- An area as one list, case by case.
use Prim.Native.Nat.{ℕ, ◌≤◌, ◌<◌}
use mathlib.Core.Path.{◌≡◌, refl, sym, ap, subst, ◌∙◌}
use mathlib.Core.Bool.{Bool, true, false, cond}
use mathlib.Core.List.{List, [], ◌∷◌, ◌++◌, append-nil}
use native.Mathlib.Omega.{arith}
use lib.Dec.{eqb}
use lib.ListN.{length, drop, length-append, drop_of_length-le}
use borrow.Author.Tests.{eq-eqb, ne_eqb, eqb-true}
use Rattle.wire.specs.Number.{Bytes}
use Rattle.list.specs.Limits.{list_limit}
use Rattle.list.specs.Refusal.{Refusal, refusal}
use Rattle.list.specs.Tree.{Elements}
use Rattle.list.specs.Bytes.{list_bytes}
use Rattle.list.specs.Legal.{Legal}
use Rattle.list.specs.Parse.{Parsed, good, bad, and_then, parse}
use Rattle.list.specs.Open.{depth_at}
use Rattle.list.proofs.Complete.{complete}
use Rattle.list.proofs.Depth.{depth-open, closed-behind}
use Rattle.list.proofs.Sound.{SaneRefusal, sound, within, reaches}
use Rattle.list_check.specs.Check.{accepted, refused, judged, whole, IsWhole, fault_of}
use Rattle.list_check.proofs.Promised.{was_read, was-bad}

module _ (s : List ℕ) where
  pub whole-good : (es : Elements) (end : ℕ) → parse list_limit s ≡ good es end → end ≡ length s → whole s ≡ good es end
  unfolding whole
  whole-good es end p e = rw (p, eq-eqb end (length s) e)

  pub whole-left : (es : Elements) (end : ℕ) → parse list_limit s ≡ good es end → end < length s → whole s ≡ bad (refusal 29 end)
  unfolding whole
  whole-left es end p h = rw (p, ne_eqb end (length s) (λ e. omega arith))

  pub whole-bad : (r : Refusal) → parse list_limit s ≡ bad r → whole s ≡ bad r
  unfolding whole
  whole-bad r p = rw p

  pub whole_is : (es : Elements) (end : ℕ) → whole s ≡ good es end → (parse list_limit s ≡ good es end) × (end ≡ length s)
  unfolding whole
  whole_is es end h = go (parse list_limit s) refl h
    where
      test : (fs : Elements) (n : ℕ) (b : Bool) → eqb n (length s) ≡ b → cond b (good fs n) (bad (refusal 29 n)) ≡ good es end
          → (good fs n ≡ good es end) × (end ≡ length s)
      test fs n true e q = let m : n ≡ end = cc in (q, sym m ∙ eqb-true n (length s) e)
      test fs n false e q = absurd (let z : ◌≡◌ {A = ℕ} 0 1 = cc in omega arith)

      go : (p : Parsed Elements) → parse list_limit s ≡ p → and_then p (λ fs n. cond (eqb n (length s)) (good fs n) (bad (refusal 29 n))) ≡ good es end
          → (p ≡ good es end) × (end ≡ length s)
      go (good fs n) e q = test fs n (eqb n (length s)) refl q
      go (bad r) e q = absurd (let z : ◌≡◌ {A = ℕ} 0 1 = cc in omega arith)

  -- the area of one list holds that list's bytes
  pub whole-spells : (es : Elements) (end : ℕ) → Bytes s → whole s ≡ good es end → Legal list_limit es × (s ≡ list_bytes es)
  whole-spells es end all h =
      let p = whole_is es end h in
      let w = sound list_limit s es end all p.0 in
      let rest : drop end s ≡ [] = drop_of_length-le s {i = end} (omega (arith, p.1)) in
      (w.0, w.2 ∙ ap (λ (l : List ℕ). list_bytes es ++ l) rest ∙ append-nil (list_bytes es))

  -- what holds of every refusal of the list at the front, and of 29 behind a list, holds of every fault
  fault-all : (P : Refusal → Type 0) → ((r : Refusal) → parse list_limit s ≡ bad r → P r) → ((es : Elements) (n : ℕ) → parse list_limit s ≡ good es n → P (refusal 29 n))
      → (r : Refusal) → whole s ≡ bad r → P r
  unfolding whole
  fault-all P front left r h = go (parse list_limit s) refl h
    where
      test : (es : Elements) (n : ℕ) (b : Bool) → P (refusal 29 n) → cond b (good es n) (bad (refusal 29 n)) ≡ bad r → P r
      test es n true f q = absurd (let z : ◌≡◌ {A = ℕ} 0 1 = cc in omega arith)
      test es n false f q = let e : refusal 29 n ≡ r = cc in subst P e f

      go : (p : Parsed Elements) → parse list_limit s ≡ p → and_then p (λ es n. cond (eqb n (length s)) (good es n) (bad (refusal 29 n))) ≡ bad r → P r
      go (good es n) e q = test es n (eqb n (length s)) (left es n e) q
      go (bad f) e q = let g : f ≡ r = cc in subst P g (front f e)

  -- a fault has a number of list reading, so never 20, or 29, and is not past the end
  pub fault-sane : (r : Refusal) → whole s ≡ bad r → SaneRefusal 29 s r
  fault-sane = fault-all (SaneRefusal 29 s)
      (λ r e. let w = within list_limit s r e in record { low = w.low; high = omega (arith, w.high); inside = w.inside })
      (λ es n e. record { low = omega arith; high = omega arith; inside = (reaches list_limit s es n e).1 })

  -- LAW: its depth is that of the lists open at the fault; where bytes are left after the list, none is
  pub fault-open : (r : Refusal) → whole s ≡ bad r → r.depth ≡ depth_at s r.number r.offset
  fault-open = fault-all (λ r. r.depth ≡ depth_at s r.number r.offset) (depth-open list_limit s) (λ es n e. omega (arith, closed-behind list_limit s es n e))

  -- by the number of the fault
  pub is_whole : (r : Refusal) → r ≡ fault_of (whole s) → r.number ≤ 0 → IsWhole s
  is_whole r h z = go (whole s) refl
    where
      go : (p : Parsed Elements) → whole s ≡ p → IsWhole s
      go (good es end) e = (es, end, e)
      go (bad f) e = absurd (omega (arith, ap (λ (x : Refusal). x.number) (h ∙ ap fault_of e), (fault-sane f e).low))

  pub is-bad : (r : Refusal) → r ≡ fault_of (whole s) → 0 < r.number → whole s ≡ bad r
  is-bad r h some = go (whole s) refl
    where
      go : (p : Parsed Elements) → whole s ≡ p → p ≡ bad r
      go (good es end) e = absurd (omega (arith, ap (λ (x : Refusal). x.number) (h ∙ ap fault_of e)))
      go (bad f) e = ap bad (sym (h ∙ ap fault_of e))

  -- by what judging the front says
  pub fault-bad : (r : Refusal) → refused r ≡ judged (parse list_limit s) → r ≡ fault_of (whole s)
  fault-bad r h = sym (ap fault_of (whole-bad r (was-bad (parse list_limit s) r (sym h))))

  pub fault-left : (end : ℕ) → accepted end ≡ judged (parse list_limit s) → end < length s → refusal 29 end ≡ fault_of (whole s)
  fault-left end h short = let p = was_read (parse list_limit s) end (sym h) in sym (ap fault_of (whole-left p.0 end p.1 short))

  pub fault-none : (end : ℕ) → accepted end ≡ judged (parse list_limit s) → length s ≤ end → refusal 0 0 ≡ fault_of (whole s)
  fault-none end h long =
      let p = was_read (parse list_limit s) end (sym h) in
      sym (ap fault_of (whole-good p.0 end p.1 (omega (arith, (reaches list_limit s p.0 end p.1).1))))

-- the area of one legal list is read as that list
pub whole-list : (es : Elements) → Legal list_limit es → whole (list_bytes es) ≡ good es (length (list_bytes es))
whole-list es l =
    let p = complete list_limit es [] (omega arith) l in
    whole-good (list_bytes es) es (length (list_bytes es)) (ap (parse list_limit) (sym (append-nil (list_bytes es))) ∙ p) refl

-- LAW: bytes behind a legal list are 29 at the first of them
pub bytes_left : (es : Elements) (b : ℕ) (rest : List ℕ) → Legal list_limit es → whole (list_bytes es ++ (b ∷ rest)) ≡ bad (refusal 29 (length (list_bytes es)))
bytes_left es b rest l =
    whole-left (list_bytes es ++ (b ∷ rest)) es (length (list_bytes es)) (complete list_limit es (b ∷ rest) (omega arith) l)
    (omega (arith, length-append (list_bytes es) (b ∷ rest)))
