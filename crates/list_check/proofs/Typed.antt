-- Laws of a typed list: its elements one by one, a run of fixed ones at once, and what stands behind its count.
use Prim.Native.Nat.{ℕ, zero, suc, ◌+◌, ◌-◌, ◌*◌, ◌/◌, ◌≤◌, ◌<◌}
use mathlib.Core.Path.{◌≡◌, refl, sym, ◌∙◌}
use mathlib.Core.Bool.{Bool, true, false, cond}
use mathlib.Core.List.{List}
use native.Mathlib.Omega.{arith}
use native.Mathlib.Numerals.{sub-one}
use native.Mathlib.Nat.{mul-suc}
use lib.Dec.{eqb, ltb}
use lib.ListN.{length}
use borrow.Author.Tests.{eq-eqb, ltb-true, ltb-false}
use Rattle.list.specs.declared.Kind.{Kind}
use Rattle.list.specs.declared.Kind.TheVariants.{Int, Float, Str, Blob, Vocab}
use Rattle.list.specs.Limits.{list_limit, depth_limit}
use Rattle.list.specs.Kind.{code_of, size_of, typed_code}
use Rattle.list.specs.Refusal.{refusal, refusal_at, enclosed}
use Rattle.list.specs.Tree.{Value, Elements, none, value, list, count}
use Rattle.list.specs.Bytes.{list_code_of}
use Rattle.list.specs.Parse.{Parsed, good, bad, and_then, in_list, string_at, blob_at, value_at, typed_at, finished}
use Rattle.list.proofs.Codes.{kind-same, code-none, code-all, AllKind, typed-no-list}
use Rattle.list.proofs.TypedRun.{Fixed}
use Rattle.list.proofs.Shallow.{value-shallow}
use Rattle.list_check.specs.Check.{Verdict, accepted, refused, judged}
use Rattle.list_check.specs.Steps.{told_by, depth_of, enclosing, missing_at, TypedAnswer}
use Rattle.list_check.proofs.Told.{then_go, stopped, went_on, told-depth, item-missing, there}
use Rattle.list_check.proofs.KindRead.{typed-kind}

kept : {A B : Type 0} (p : Parsed A) (f : A → B) → judged (in_list (and_then p (λ a end. good (f a) end))) ≡ judged (in_list p)
kept (good a n) f = refl
kept (bad r) f = refl

module _ (s : List ℕ) (k : Kind) where
  -- ELEMENTS ONE BY ONE
  each_more : (left pos : ℕ) → 0 < left
      → judged (in_list (typed_at list_limit s k left pos))
      ≡ then_go (judged (value_at list_limit s pos k)) (λ next. judged (in_list (typed_at list_limit s k (left - 1) next)))
  unfolding typed_at
  each_more zero pos h = absurd (omega arith)
  each_more (suc left) pos h = simp sub-one (go (value_at list_limit s pos k))
    where
      go : (p : Parsed Value)
          → judged (in_list (and_then p (λ v next. and_then (typed_at list_limit s k left next) (λ es end. good (value v es) end))))
          ≡ then_go (judged p) (λ next. judged (in_list (typed_at list_limit s k left next)))
      go (good v next) = kept (typed_at list_limit s k left next) (value v)
      go (bad r) = refl

  pub each-done : (left pos : ℕ) → left ≤ 0 → judged (in_list (typed_at list_limit s k left pos)) ≡ accepted pos
  unfolding typed_at
  each-done zero pos h = refl
  each-done (suc left) pos h = absurd (omega arith)

  -- one turn of the loop over them. L is the whole run's answer
  module _ (L : Verdict) (left pos next : ℕ) (inv : L ≡ judged (in_list (typed_at list_limit s k left pos))) (more : 0 < left)
      (is : told_by next ≡ judged (value_at list_limit s pos k)) where
    pub each-stops : (bits : ℕ) → ltb list_limit next ≡ true → told_by bits ≡ enclosing (told_by next) → told_by bits ≡ L
    each-stops bits t c = stopped next bits _ (λ n. judged (in_list (typed_at list_limit s k (left - 1) n))) is t c ∙ sym (inv ∙ each_more left pos more)

    pub each_goes : ltb list_limit next ≡ false → (L ≡ judged (in_list (typed_at list_limit s k (left - 1) next))) × (next ≤ list_limit)
    each_goes t =
        (inv ∙ each_more left pos more ∙ went_on next _ (λ n. judged (in_list (typed_at list_limit s k (left - 1) n))) is t, ltb-false list_limit next t)

-- no list is open inside a value, so its refusal may be given one
pub value-enclose : (s : List ℕ) (k : Kind) (at bits : ℕ) → told_by bits ≡ judged (value_at list_limit s at k) → ltb list_limit bits ≡ true
    → (list_limit < bits) × (depth_of bits < depth_limit)
value-enclose s k at bits is t =
    (ltb-true list_limit bits t, omega (arith, told-depth bits 0 (value_at list_limit s at k) is (λ r e. value-shallow list_limit s k at r e)))

pub size_small : (k : Kind) → (4 ≤ size_of k) × (size_of k ≤ 8)
size_small Int = omega arith
size_small Vocab = omega arith
size_small Float = omega arith
size_small Str = omega arith
size_small Blob = omega arith

pub times-small : (k : Kind) (n r : ℕ) → r ≡ size_of k → r * n ≤ 8 * n
times-small Int n r e = rw e (omega arith)
times-small Vocab n r e = rw e (omega arith)
times-small Float n r e = rw e (omega arith)
times-small Str n r e = rw e (omega arith)
times-small Blob n r e = rw e (omega arith)

-- AN ELEMENT that is not all there, or whose length is not
pub value-missing : (s : List ℕ) (k : Kind) (at : ℕ) → length s < at + size_of k → value_at list_limit s at k ≡ bad (missing_at at (size_of k))
unfolding value_at string_at blob_at
value-missing s Int at h = item-missing s at 4 _ h
value-missing s Vocab at h = item-missing s at 4 _ h
value-missing s Float at h = item-missing s at 8 _ h
value-missing s Str at h = item-missing s at 4 _ h
value-missing s Blob at h = item-missing s at 4 _ h

-- a fixed element that is there
pub fixed-there : (s : List ℕ) (k : Kind) (at : ℕ) → Fixed k → length s ≤ list_limit → at + size_of k ≤ length s
    → judged (value_at list_limit s at k) ≡ accepted (at + size_of k)
unfolding value_at
fixed-there s Int at x f h = rw (there s at 4 f h)
fixed-there s Vocab at x f h = rw (there s at 4 f h)
fixed-there s Float at x f h = rw (there s at 8 f h)
fixed-there s Str at x f h = absurd x
fixed-there s Blob at x f h = absurd x

-- where d bytes are left: how many of them are whole elements
fitting-none : (k : Kind) (d : ℕ) → Fixed k → d < size_of k → d / size_of k * size_of k ≡ 0
fitting-none Int d x h = omega arith
fitting-none Vocab d x h = omega arith
fitting-none Float d x h = omega arith
fitting-none Str d x h = absurd x
fitting-none Blob d x h = absurd x

fitting-more : (k : Kind) (d e : ℕ) → Fixed k → d ≡ size_of k + e → size_of k + e / size_of k * size_of k ≡ d / size_of k * size_of k
fitting-more Int d e x h = omega arith
fitting-more Vocab d e x h = omega arith
fitting-more Float d e x h = omega arith
fitting-more Str d e x h = absurd x
fitting-more Blob d e x h = absurd x

-- A RUN of fixed elements that is not all there: the first that is not
abbrev pub whole_end : List ℕ → Kind → ℕ → ℕ
whole_end s k at = at + (length s - at) / size_of k * size_of k

pub run-missing : (s : List ℕ) (k : Kind) (n at : ℕ) → Fixed k → length s ≤ list_limit → at ≤ length s → length s < at + size_of k * n
    → judged (in_list (typed_at list_limit s k n at)) ≡ refused (enclosed (missing_at (whole_end s k at) (size_of k)))
run-missing s k zero at x f i h = absurd (omega arith)
run-missing s k (suc n) at x f i h =
    go (ltb (length s) (at + size_of k)) refl (λ j. run-missing s k n (at + size_of k) x f j (omega (arith, mul-suc (size_of k) n)))
  where
    go : (b : Bool) → ltb (length s) (at + size_of k) ≡ b
        → (at + size_of k ≤ length s
        → judged (in_list (typed_at list_limit s k n (at + size_of k))) ≡ refused (enclosed (missing_at (whole_end s k (at + size_of k)) (size_of k))))
        → judged (in_list (typed_at list_limit s k (suc n) at)) ≡ refused (enclosed (missing_at (whole_end s k at) (size_of k)))
    go true e next =
        let l = ltb-true (length s) (at + size_of k) e in
        let q : whole_end s k at ≡ at = omega (arith, fitting-none k (length s - at) x (omega arith)) in
        each_more s k (suc n) at (omega arith) ∙ rw (value-missing s k at l, q)
    go false e next =
        let l = ltb-false (length s) (at + size_of k) e in
        let q : whole_end s k (at + size_of k) ≡ whole_end s k at = omega (arith, fitting-more k (length s - at) (length s - (at + size_of k)) x (omega arith)) in
        each_more s k (suc n) at (omega arith) ∙ simp (fixed-there s k at x f l, sub-one) (next l ∙ rw q)

-- BEHIND ITS COUNT a typed list has an element, and then its code is the one that the elements call for
pub typed-none : (s : List ℕ) (k : Kind) (at pos : ℕ) → judged (in_list (finished (typed_code k) at (typed_at list_limit s k 0 pos))) ≡ refused (refusal_at 24 at 1)
unfolding typed_at
typed-none s k at pos = rw (code-none, typed-no-list k)

pub typed-some : (s : List ℕ) (k : Kind) (at n pos : ℕ) → 0 < n
    → judged (in_list (typed_at list_limit s k n pos)) ≡ judged (in_list (finished (typed_code k) at (typed_at list_limit s k n pos)))
typed-some s k at n pos h = go (typed_at list_limit s k n pos) refl
  where
    right : (es : Elements) (end : ℕ) → (count es ≡ n) × AllKind k es
        → accepted end ≡ judged (in_list (cond (eqb (typed_code k) (list_code_of es)) (good es end) (bad (refusal 24 at))))
    right none end w = absurd (omega (arith, w.0))
    right (value v es) end w = rw (code-all k v es w.1, eq-eqb (typed_code k) (typed_code k) refl)
    right (list inner es) end w = absurd w.1

    go : (p : Parsed Elements) → typed_at list_limit s k n pos ≡ p → judged (in_list p) ≡ judged (in_list (finished (typed_code k) at p))
    go (good es end) e = right es end (typed-kind list_limit s k n pos es end e)
    go (bad r) e = refl

pub typed-is : (s : List ℕ) (l : Kind) (at code n bits : ℕ) → code ≡ code_of l → 0 < n → told_by bits ≡ judged (in_list (typed_at list_limit s l n (at + 8)))
    → TypedAnswer s at code n bits
typed-is s l at code n bits c h e k q = let f : l ≡ k = kind-same l k (sym c ∙ q) in rw f at (e ∙ typed-some s l at n (at + 8) h)
