-- A list into which values go one index after the other, each where a test says so: what each element is afterwards.
use Prim.Native.Nat.{ℕ, zero, suc, ◌≤◌, ◌<◌}
use mathlib.Core.Path.{◌≡◌, refl, ap, ◌∙◌}
use mathlib.Core.Bool.{Bool, true, false, cond}
use mathlib.Core.List.{List}
use mathlib.Core.Logic.{⊎_elim, ◌≢◌}
use native.Mathlib.Omega.{arith}
use native.Mathlib.Nat.{eq-or-lt_of_le}
use lib.ListN.{get_or, set, length, length-set}
use lib.Seq.{get_or-set_same, get_or-set_other}

module _ {A : Type 0} where
  pick-length : (b : Bool) (l : List A) (i : ℕ) (a : A) → length (cond b (set l i a) l) ≡ length l
  pick-length true l i a = length-set l i a
  pick-length false l i a = refl

  pick_other : (b : Bool) (l : List A) (i j : ℕ) (a d : A) → j ≢ i → get_or (cond b (set l i a) l) j d ≡ get_or l j d
  pick_other true l i j a d h = get_or-set_other l i j a d h
  pick_other false l i j a d h = refl

  pick_same : (b : Bool) (l : List A) (i : ℕ) (a d : A) → i < length l → get_or (cond b (set l i a) l) i d ≡ cond b a (get_or l i d)
  pick_same true l i a d h = get_or-set_same l i a d h
  pick_same false l i a d h = refl

module _
    {A : Type 0} (test : ℕ → Bool) (value : ℕ → A) (after : ℕ → List A)
    (step : (p : ℕ) → after (suc p) ≡ cond (test p) (set (after p) p (value p)) (after p))
  where
    pub same_length : (n : ℕ) → length (after n) ≡ length (after 0)
    same_length zero = refl
    same_length (suc n) = ap length (step n) ∙ pick-length (test n) (after n) n (value n) ∙ same_length n

    not_yet : (d : A) (n r : ℕ) → n ≤ r → get_or (after n) r d ≡ get_or (after 0) r d
    not_yet d zero r h = refl
    not_yet d (suc n) r h =
        ap (λ (l : List A). get_or l r d) (step n) ∙ pick_other (test n) (after n) n r (value n) d (omega arith) ∙
        not_yet d n r (omega arith)

    -- LAW: the new value where the test holds, else the old one
    pub each-element :
        (d : A) (n r : ℕ) → r < n → n ≤ length (after 0) → get_or (after n) r d ≡ cond (test r) (value r) (get_or (after 0) r d)
    each-element d zero r h k = absurd (omega arith)
    each-element d (suc n) r h k =
        ⊎_elim
        (λ (e : r ≡ n).
        rw e
        (ap (λ (l : List A). get_or l n d) (step n) ∙
        pick_same (test n) (after n) n (value n) d (omega (arith, same_length n)) ∙
        ap (λ (a : A). cond (test n) (value n) a) (not_yet d n n (omega arith))))
        (λ (l : r < n).
        ap (λ (l : List A). get_or l r d) (step n) ∙ pick_other (test n) (after n) n r (value n) d (omega arith) ∙
        each-element d n r l (omega arith))
        (let g : r ≤ n = omega arith in eq-or-lt_of_le g)
