-- Laws of codes: a kind and its code determine each other, and the code of a list tells what its elements are.
use Prim.Native.Nat.{ℕ, ◌-◌, ◌^◌, ◌<◌}
use mathlib.Core.Path.{◌≡◌, refl, sym, ap, ◌∙◌, subst}
use mathlib.Core.Bool.{Bool, true, false, cond}
use mathlib.Core.Logic.{◌⊎◌, inl, inr, ⊎_elim}
use native.Mathlib.Omega.{arith}
use lib.Dec.{eqb}
use borrow.Author.Tests.{eqb-true, ne_eqb, eq-eqb, le-leb, lt-leb}
use Rattle.std.specs.Prelude.{Option, Some, None}
use Rattle.list.specs.declared.Kind.{Kind}
use Rattle.list.specs.declared.Kind.TheVariants.{Int, Float, Str, Blob, Vocab}
use Rattle.list.specs.Kind.{code_of, kind_of, list_code, typed_code}
use Rattle.list.specs.Tree.{Value, Elements, none, value, list, kind}
use Rattle.list.specs.Bytes.{common, common_of, code_for, list_code_of}
use Rattle.list.specs.Parse.{is_list_code}

-- a kind has its code, and the code names the kind
pub kind-of-code : (k : Kind) → kind_of (code_of k) ≡ Some k
unfolding kind_of
kind-of-code Int = refl
kind-of-code Float = refl
kind-of-code Str = refl
kind-of-code Blob = refl
kind-of-code Vocab = refl

pub code-of-kind : (code : ℕ) (k : Kind) → kind_of code ≡ Some k → code ≡ code_of k
unfolding kind_of
code-of-kind code k = go (eqb code 1) refl (eqb code 10) refl (eqb code 4) refl (eqb code 12) refl (eqb code 9) refl
  where
    is : (n : ℕ) (l : Kind) → code_of l ≡ n → eqb code n ≡ true → Some l ≡ Some k → code ≡ code_of k
    is n l c e h = let q : l ≡ k = cc in eqb-true code n e ∙ sym c ∙ ap code_of q

    go : (a : Bool) → eqb code 1 ≡ a → (b : Bool) → eqb code 10 ≡ b → (c : Bool) → eqb code 4 ≡ c → (d : Bool) → eqb code 12 ≡ d → (e : Bool) → eqb code 9 ≡ e
        → cond a (Some Int) (cond b (Some Float) (cond c (Some Str) (cond d (Some Blob) (cond e (Some Vocab) None)))) ≡ Some k → code ≡ code_of k
    go true p b q c r d u e v h = is 1 Int refl p h
    go false p true q c r d u e v h = is 10 Float refl q h
    go false p false q true r d u e v h = is 4 Str refl r h
    go false p false q false r true u e v h = is 12 Blob refl u h
    go false p false q false r false u true v h = is 9 Vocab refl v h
    go false p false q false r false u false v h = absurd (let z : ◌≡◌ {A = ℕ} 0 1 = cc in omega arith)

pub code-low : (k : Kind) → (0 < code_of k) × (code_of k < list_code)
code-low Int = omega arith
code-low Float = omega arith
code-low Str = omega arith
code-low Blob = omega arith
code-low Vocab = omega arith

-- two kinds with one code are one
pub kind-same : (k l : Kind) → code_of k ≡ code_of l → k ≡ l
kind-same k l e =
    let f : Some k ≡ Some l = sym (kind-of-code k) ∙ ap kind_of e ∙ kind-of-code l in
    cc

-- what the codes of lists name, and which codes are a list's
pub kind-of-list : kind_of (list_code - list_code) ≡ None
unfolding kind_of
kind-of-list = refl

pub kind-of-typed : (k : Kind) → kind_of (typed_code k - list_code) ≡ Some k
kind-of-typed k = let e : typed_code k - list_code ≡ code_of k = omega arith in rw e (kind-of-code k)

pub typed-no-list : (k : Kind) → eqb (typed_code k) list_code ≡ false
typed-no-list k = ne_eqb (typed_code k) list_code (λ e. omega (arith, (code-low k).0))

pub kind-no-list : (k : Kind) → is_list_code (code_of k) ≡ false
unfolding is_list_code
kind-no-list k = rw (ne_eqb (code_of k) list_code (λ e. omega (arith, (code-low k).1)), lt-leb list_code (code_of k) (code-low k).1)

-- a code that is no kind's names none
pub not-kind : (code : ℕ) → ((k : Kind) → code ≡ code_of k → ⊥) → kind_of code ≡ None
not-kind code other = go (kind_of code) refl
  where
    go : (found : Option Kind) → kind_of code ≡ found → found ≡ None
    go (Some k) e = absurd (other k (code-of-kind code k e))
    go None e = refl

pub kind-not-list : (code : ℕ) (k : Kind) → kind_of code ≡ Some k → is_list_code code ≡ false
kind-not-list code k e = ap is_list_code (code-of-kind code k e) ∙ kind-no-list k

pub list-no-kind : (code : ℕ) → is_list_code code ≡ true → kind_of code ≡ None
list-no-kind code h =
    not-kind code (λ k e. let y : is_list_code code ≡ false = ap is_list_code e ∙ kind-no-list k in let z : ◌≡◌ {A = ℕ} 0 1 = cc in omega arith)

-- what holds of each kind holds of all
pub each-kind : (P : Kind → Type 0) → P Int → P Vocab → P Float → P Str → P Blob → (k : Kind) → P k
each-kind P a b c d e Int = a
each-kind P a b c d e Vocab = b
each-kind P a b c d e Float = c
each-kind P a b c d e Str = d
each-kind P a b c d e Blob = e

pub mixed-is-code : is_list_code list_code ≡ true
unfolding is_list_code
mixed-is-code = refl

pub typed-is-code : (k : Kind) → is_list_code (typed_code k) ≡ true
unfolding is_list_code
typed-is-code k = rw (typed-no-list k, le-leb list_code (typed_code k) (omega arith), kind-of-typed k)

-- the elements are values of the kind k
abbrev pub AllKind : Kind → Elements → Type 0
AllKind k none = Unit {0}
AllKind k (value v es) = (kind v ≡ k) × AllKind k es
AllKind k (list inner es) = ⊥

-- two kinds are the same, or have 256 in common
common-kinds : (k l : Kind) → ((k ≡ l) × (common (code_of k) (code_of l) ≡ code_of l)) ⊎ (common (code_of k) (code_of l) ≡ list_code)
common-kinds k l = rw (ne_eqb (code_of k) 0 (λ e. omega (arith, (code-low k).0))) (go (eqb (code_of k) (code_of l)) refl)
  where
    go : (b : Bool) → eqb (code_of k) (code_of l) ≡ b → ((k ≡ l) × (cond b (code_of l) list_code ≡ code_of l)) ⊎ (cond b (code_of l) list_code ≡ list_code)
    go true e = inl (kind-same k l (eqb-true _ _ e), refl)
    go false e = inr refl

-- 256 stays 256
pub common-mixed : (es : Elements) → common_of list_code es ≡ list_code
common-mixed none = refl
common-mixed (value v es) = rw (ne_eqb list_code (code_of (kind v)) (λ e. omega (arith, (code-low (kind v)).1))) (common-mixed es)
common-mixed (list inner es) = common-mixed es

-- behind an element of the kind k: all are of it, or 256
common-from : (k : Kind) (es : Elements) → ((common_of (code_of k) es ≡ code_of k) × AllKind k es) ⊎ (common_of (code_of k) es ≡ list_code)
common-from k none = inl (refl, tt)
common-from k (list inner es) = inr (common-mixed es)
common-from k (value v es) =
    ⊎_elim
    (λ w. ⊎_elim
    (λ x. inl (rw (w.1, w.0) x.0, (sym w.0, subst (λ y. AllKind y es) (sym w.0) x.1)))
    (λ x. inr (rw w.1 x))
    (common-from (kind v) es))
    (λ w. inr (rw w (common-mixed es)))
    (common-kinds k (kind v))

-- what a list's code says: 256, or that all elements are of its kind
pub data CodeIs (es : Elements) : Type 0 where
  mixed : list_code_of es ≡ list_code → CodeIs es
  typed : (k : Kind) → list_code_of es ≡ typed_code k → AllKind k es → CodeIs es

code-for : (k : Kind) → code_for (code_of k) ≡ typed_code k
unfolding code_for
code-for k = rw (ne_eqb (code_of k) 0 (λ e. omega (arith, (code-low k).0)), ne_eqb (code_of k) list_code (λ e. omega (arith, (code-low k).1)))

code-mixed : code_for list_code ≡ list_code
unfolding code_for
code-mixed = refl

pub code-none : list_code_of none ≡ list_code
unfolding code_for
code-none = refl

pub code_is : (es : Elements) → CodeIs es
code_is none = mixed code-none
code_is (list inner es) = mixed (ap code_for (common-mixed es) ∙ code-mixed)
code_is (value v es) =
    ⊎_elim
    (λ w. typed (kind v) (ap code_for w.0 ∙ code-for (kind v)) (refl, w.1))
    (λ w. mixed (ap code_for w ∙ code-mixed))
    (common-from (kind v) es)

-- elements of one kind have it in common
common-all : (k : Kind) (es : Elements) → AllKind k es → common_of (code_of k) es ≡ code_of k
common-all k none a = refl
common-all k (value v es) a =
    rw (a.0, ne_eqb (code_of k) 0 (λ e. omega (arith, (code-low k).0)), eq-eqb (code_of k) (code_of k) refl) (common-all k es a.1)
common-all k (list inner es) a = absurd a

-- "256 plus the kind if there is at least one element and all are of one kind"
pub code-all : (k : Kind) (v : Value) (es : Elements) → AllKind k (value v es) → list_code_of (value v es) ≡ typed_code k
code-all k v es a = rw a.0 (ap code_for (common-all k es a.1) ∙ code-for k)

-- the code of a list is a list code, and a 32-bit number
pub code-good : (es : Elements) → (is_list_code (list_code_of es) ≡ true) × (list_code_of es < 2 ^ 32)
code-good es = go (code_is es)
  where
    go : CodeIs es → (is_list_code (list_code_of es) ≡ true) × (list_code_of es < 2 ^ 32)
    go (mixed e) = (ap is_list_code e ∙ mixed-is-code, omega arith)
    go (typed k e a) = (ap is_list_code e ∙ typed-is-code k, omega (arith, (code-low k).1))
