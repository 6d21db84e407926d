-- Laws of a list: its code and count, and its elements where each follows its code.
use Prim.Native.Nat.{ℕ, zero, suc, ◌+◌, ◌-◌, ◌≤◌, ◌<◌}
use mathlib.Core.Path.{◌≡◌, refl, sym, ap, ◌∙◌}
use mathlib.Core.Bool.{Bool, true, false, cond}
use mathlib.Core.List.{List}
use native.Mathlib.Omega.{arith}
use native.Mathlib.Numerals.{sub-one}
use lib.Dec.{eqb, ltb}
use lib.ListN.{length}
use borrow.Author.Tests.{le-ltb, ltb-false}
use Rattle.std.specs.Prelude.{Some, None}
use Rattle.list.specs.declared.Kind.{Kind}
use Rattle.list.specs.Limits.{list_limit}
use Rattle.list.specs.Kind.{code_of, kind_of, size_of, list_code, typed_code}
use Rattle.list.specs.Refusal.{Refusal, refusal, refusal_at, enclosed}
use Rattle.list.specs.Strings.{negative}
use Rattle.list.specs.Tree.{Value, Elements, value, list}
use Rattle.list.specs.Bytes.{common, common_of, list_code_of}
use Rattle.list.specs.Parse.{Parsed, good, bad, and_then, in_list, word, value_at, typed_at, is_list_code, coded_value, coded_at, mixed_at, elements_at, finished, body_at, list_at}
use Rattle.list.proofs.Codes.{kind-of-code, kind-of-list, kind-of-typed, kind-no-list, kind-not-list}
use Rattle.list.proofs.TypedRun.{Fixed}
use Rattle.list.proofs.Shallow.{coded-shallow, list-shallow}
use Rattle.list_check.specs.Check.{Verdict, accepted, refused, judged}
use Rattle.list_check.specs.Steps.{told_by, depth_of, enclosing, missing_at, close_of, Refuses}
use Rattle.list_check.proofs.Told.{told-end, then_go, stopped, went_on, told-depth, refuses-depth, item-missing, there}
use Rattle.list_check.proofs.KindRead.{value-kind}
use Rattle.list_check.proofs.Typed.{value-missing, fixed-there}

-- THE REST of a list whose elements so far have the code `seen` in common
abbrev pub closing : ℕ → ℕ → Parsed Elements → Verdict
closing at seen (good es end) = close_of at (common_of seen es) end
closing at seen (bad r) = refused (enclosed r)

module _ (inner : ℕ → ℕ → Parsed Elements) (s : List ℕ) (at : ℕ) where
  -- the answer from here on
  abbrev pub rest : ℕ → ℕ → ℕ → Verdict
  rest left seen pos = closing at seen (mixed_at inner list_limit s left pos)

  put : (f : Elements → Elements) (seen seen' : ℕ) → ((es : Elements) → common_of seen (f es) ≡ common_of seen' es) → (p : Parsed Elements)
      → closing at seen (and_then p (λ es end. good (f es) end)) ≡ closing at seen' p
  put f seen seen' same (good es end) = ap (λ (c : ℕ). close_of at c end) (same es)
  put f seen seen' same (bad r) = refl

  -- a value behind its code
  more-value : (k : Kind) (left seen pos : ℕ) → 0 < left → length s ≤ list_limit → pos + 4 ≤ length s → word s pos ≡ code_of k
      → rest left seen pos ≡ then_go (judged (value_at list_limit s (pos + 4) k)) (rest (left - 1) (common seen (code_of k)))
  unfolding mixed_at coded_at
  more-value k zero seen pos h f i w = absurd (omega arith)
  more-value k (suc left) seen pos h f i w =
      rw (there s pos 4 f i, w, kind-no-list k, kind-of-code k, sub-one) (go (value_at list_limit s (pos + 4) k) refl)
    where
      go : (p : Parsed Value) → value_at list_limit s (pos + 4) k ≡ p
          → closing at seen (and_then (and_then p (λ v next. good (value v) next)) (λ f next. and_then (mixed_at inner list_limit s left next) (λ es end. good (f es) end)))
          ≡ then_go (judged p) (rest left (common seen (code_of k)))
      go (good v next) e =
          put (value v) seen _ (λ es. ap (λ (l : Kind). common_of (common seen (code_of l)) es) (value-kind list_limit s k (pos + 4) v next e))
          (mixed_at inner list_limit s left next)
      go (bad r) e = refl

  -- a list
  more-list : (left seen pos : ℕ) → 0 < left → length s ≤ list_limit → pos + 4 ≤ length s → is_list_code (word s pos) ≡ true
      → rest left seen pos ≡ then_go (judged (inner pos (word s pos))) (rest (left - 1) list_code)
  unfolding mixed_at coded_at
  more-list zero seen pos h f i w = absurd (omega arith)
  more-list (suc left) seen pos h f i w = rw (there s pos 4 f i, w, sub-one) (go (inner pos (word s pos)))
    where
      go : (p : Parsed Elements)
          → closing at seen (and_then (and_then p (λ es next. good (list es) next)) (λ f next. and_then (mixed_at inner list_limit s left next) (λ es end. good (f es) end)))
          ≡ then_go (judged p) (rest left list_code)
      go (good i next) = put (list i) seen list_code (λ es. refl) (mixed_at inner list_limit s left next)
      go (bad r) = refl

  -- an element that is refused
  pub turn-fault : (L : Verdict) (left seen pos bits bits' : ℕ) → L ≡ rest left seen pos → 0 < left → Refuses bits (coded_at inner list_limit s pos)
      → told_by bits' ≡ enclosing (told_by bits) → told_by bits' ≡ L
  unfolding mixed_at
  turn-fault L zero seen pos bits bits' inv h q c = absurd (omega arith)
  turn-fault L (suc left) seen pos bits bits' inv h q c = c ∙ go (coded_at inner list_limit s pos) q ∙ sym inv
    where
      go : (p : Parsed (Elements → Elements)) → Refuses bits p
          → enclosing (told_by bits) ≡ closing at seen (and_then p (λ f next. and_then (mixed_at inner list_limit s left next) (λ es end. good (f es) end)))
      go (good f next) q = absurd q
      go (bad r) q = ap enclosing q

  pub mixed-done : (left seen pos : ℕ) → left ≤ 0 → rest left seen pos ≡ close_of at seen pos
  unfolding mixed_at
  mixed-done zero seen pos h = refl
  mixed-done (suc left) seen pos h = absurd (omega arith)

  -- ONE TURN of the loop over the elements. L is the whole list's answer
  module _ (L : Verdict) (left seen pos : ℕ) (inv : L ≡ rest left seen pos) (more : 0 < left) (cut : length s ≤ list_limit) (in₄ : pos + 4 ≤ length s) where
    pub turn-value : (k : Kind) (bits : ℕ) → word s pos ≡ code_of k → told_by bits ≡ judged (value_at list_limit s (pos + 4) k) → ltb list_limit bits ≡ false
        → (L ≡ rest (left - 1) (common seen (code_of k)) bits) × (bits ≤ list_limit)
    turn-value k bits w is t =
        (inv ∙ more-value k left seen pos more cut in₄ w ∙ went_on bits _ (rest (left - 1) (common seen (code_of k))) is t, ltb-false list_limit bits t)

    pub turn-fixed : (k : Kind) → Fixed k → word s pos ≡ code_of k → pos + 4 + size_of k ≤ length s
        → (L ≡ rest (left - 1) (common seen (code_of k)) (pos + 4 + size_of k)) × (pos + 4 + size_of k ≤ list_limit)
    turn-fixed k x w h =
        let l : pos + 4 + size_of k ≤ list_limit = omega arith in
        turn-value k (pos + 4 + size_of k) w (told-end _ l ∙ sym (fixed-there s k (pos + 4) x cut h)) (le-ltb _ _ l)

    pub turn-stop : (k : Kind) (bits bits' : ℕ) → word s pos ≡ code_of k → told_by bits ≡ judged (value_at list_limit s (pos + 4) k) → ltb list_limit bits ≡ true
        → told_by bits' ≡ enclosing (told_by bits) → told_by bits' ≡ L
    turn-stop k bits bits' w is t c =
        stopped bits bits' _ (rest (left - 1) (common seen (code_of k))) is t c ∙ sym (inv ∙ more-value k left seen pos more cut in₄ w)

    module _ (code bits : ℕ) (w : code ≡ word s pos) (c : is_list_code code ≡ true) (is : told_by bits ≡ judged (inner pos code)) where
      whole : L ≡ then_go (judged (inner pos code)) (rest (left - 1) list_code)
      whole = inv ∙ rw w (more-list left seen pos more cut in₄ (rw w at c))

      pub turn-list : ltb list_limit bits ≡ false → (L ≡ rest (left - 1) list_code bits) × (bits ≤ list_limit)
      turn-list t = (whole ∙ went_on bits _ (rest (left - 1) list_code) is t, ltb-false list_limit bits t)

      pub turn-bad : (bits' : ℕ) → ltb list_limit bits ≡ true → told_by bits' ≡ enclosing (told_by bits) → told_by bits' ≡ L
      turn-bad bits' t c = stopped bits bits' _ (rest (left - 1) list_code) is t c ∙ sym whole

-- AN ELEMENT whose code is there
module _ (inner : ℕ → ℕ → Parsed Elements) (s : List ℕ) (at code : ℕ) (cut : length s ≤ list_limit) (in₄ : at + 4 ≤ length s) (w : code ≡ word s at) where
  coded : coded_at inner list_limit s at ≡ cond (is_list_code code) (and_then (inner at code) (λ es next. good (list es) next)) (coded_value list_limit s at (kind_of code))
  unfolding coded_at
  coded = rw (there s at 4 cut in₄, w)

  -- a value that is not all there
  pub coded-missing : (k : Kind) → kind_of code ≡ Some k → length s < at + 4 + size_of k → coded_at inner list_limit s at ≡ bad (missing_at (at + 4) (size_of k))
  coded-missing k e h = coded ∙ rw (kind-not-list code k e, e, value-missing s k (at + 4) h)

  pub coded-unknown : kind_of code ≡ None → is_list_code code ≡ false → coded_at inner list_limit s at ≡ bad (refusal 26 at)
  coded-unknown e c = coded ∙ rw (c, e)

  -- a list that is refused
  pub coded-list : (r : Refusal) → is_list_code code ≡ true → inner at code ≡ bad r → coded_at inner list_limit s at ≡ bad r
  coded-list r c e = coded ∙ rw (c, e)

-- HOW MANY LISTS are open at a refusal, where at most d may stand in one another
pub list-depth : (d : ℕ) (s : List ℕ) (at code bits : ℕ) → told_by bits ≡ judged (list_at d list_limit s at code) → depth_of bits ≤ d
list-depth d s at code bits is = told-depth bits d (list_at d list_limit s at code) is (λ r e. list-shallow list_limit s d at code r e)

pub coded-depth : (d : ℕ) (s : List ℕ) (at bits : ℕ) → Refuses bits (coded_at (list_at d list_limit s) list_limit s at) → (list_limit < bits) × (depth_of bits ≤ d)
coded-depth d s at bits is = refuses-depth bits d (coded_at (list_at d list_limit s) list_limit s at) is (λ r e. coded-shallow list_limit s d at r e)

-- A LIST behind its code, where lists may stand in one another
pub shallow : (d : ℕ) (s : List ℕ) (at code : ℕ) → d ≡ 0 → list_at d list_limit s at code ≡ bad (refusal 27 at)
unfolding list_at
shallow d s at code e = rw e

pub short : (d : ℕ) (s : List ℕ) (at code : ℕ) → (d ≡ 0 → ⊥) → length s < at + 8 → list_at d list_limit s at code ≡ bad (enclosed (missing_at (at + 4) 4))
unfolding list_at body_at
short zero s at code deep h = absurd (deep refl)
short (suc d) s at code deep h = ap in_list (item-missing s (at + 4) 4 _ (omega arith))

finish : (at : ℕ) (p : Parsed Elements) → judged (in_list (finished list_code at p)) ≡ closing at 0 p
unfolding close_of
finish at (good es end) = go (eqb list_code (list_code_of es))
  where
    go : (b : Bool) → judged (in_list (cond b (good es end) (bad (refusal 24 at)))) ≡ cond b (accepted end) (refused (refusal_at 24 at 1))
    go true = refl
    go false = refl
finish at (bad r) = refl

module _ (d : ℕ) (s : List ℕ) (at code count : ℕ) (deep : d ≡ 0 → ⊥) (cut : length s ≤ list_limit) (in₈ : at + 8 ≤ length s) (n : count ≡ word s (at + 4)) where
  opened : list_at d list_limit s at code
      ≡ in_list (cond (negative count) (bad (refusal 23 (at + 4)))
      (finished code at (elements_at (list_at (d - 1) list_limit s) list_limit s (kind_of (code - list_code)) count (at + 8))))
  unfolding list_at body_at
  opened = go d deep
    where
      go : (d : ℕ) → (d ≡ 0 → ⊥) → list_at d list_limit s at code
          ≡ in_list (cond (negative count) (bad (refusal 23 (at + 4)))
          (finished code at (elements_at (list_at (d - 1) list_limit s) list_limit s (kind_of (code - list_code)) count (at + 8))))
      go zero deep = absurd (deep refl)
      go (suc d) deep = rw (there s (at + 4) 4 cut (omega arith), n, sub-one)

  pub is_negative : negative count ≡ true → judged (list_at d list_limit s at code) ≡ refused (refusal_at 23 (at + 4) 1)
  is_negative e = rw (opened, e)

  -- a list code that names a kind, or none
  module _ (e : negative count ≡ false) where
    pub is-typed : (k : Kind) → code ≡ typed_code k
        → judged (in_list (finished (typed_code k) at (typed_at list_limit s k count (at + 8)))) ≡ judged (list_at d list_limit s at code)
    is-typed k q = sym (rw (opened, e, q, kind-of-typed k))

    pub is-mixed : code ≡ list_code → judged (list_at d list_limit s at code) ≡ rest (list_at (d - 1) list_limit s) s at count 0 (at + 8)
    is-mixed q = rw (opened, e, q, kind-of-list) (finish at (mixed_at (list_at (d - 1) list_limit s) list_limit s count (at + 8)))
