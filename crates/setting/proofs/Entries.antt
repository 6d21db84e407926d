-- Which inner lists are entries: by the tree, and by the code and the count.
use Prim.Native.Nat.{ℕ}
use mathlib.Core.Path.{◌≡◌, refl, ap, ◌∙◌}
use mathlib.Core.Bool.{cond, ◌&&◌}
use mathlib.Core.List.{List}
use mathlib.Core.Logic.{◌⊎◌, inl, inr}
use native.Mathlib.Omega.{arith}
use Rattle.list.specs.declared.Kind.TheVariants.{Int, Float, Str, Blob, Vocab}
use Rattle.list.specs.Kind.{code_of, typed_code}
use Rattle.list.specs.Tree.{Value, Elements, int, vocab, float, str, blob, none, value, list, kind, count}
use Rattle.list.specs.Bytes.{list_code_of}
use Rattle.list.specs.Rows.{value_store}
use Rattle.list.proofs.Codes.{kind-same, code_is, code-all, AllKind, CodeIs, mixed, typed}
use Rattle.setting.specs.Entry.{entry, other, is_string, entry_of}

-- the tree of an entry
abbrev pub entry_tree : List ℕ → List ℕ → Elements
entry_tree k v = value (str k) (value (str v) none)

-- an inner list that is an entry
pub record IsEntry (inner : Elements) : Type 0 where
  pub key : List ℕ
  pub setting : List ℕ
  pub is : inner ≡ entry_tree key setting

both-strings : (k v : Value) → IsEntry (value k (value v none)) ⊎ (cond (is_string k && is_string v) (entry (value_store k) (value_store v)) other ≡ other)
both-strings (int n) v = inr refl
both-strings (vocab n) v = inr refl
both-strings (float low high) v = inr refl
both-strings (blob bs) v = inr refl
both-strings (str k) (int n) = inr refl
both-strings (str k) (vocab n) = inr refl
both-strings (str k) (float low high) = inr refl
both-strings (str k) (blob bs) = inr refl
both-strings (str k) (str v) = inl (record { key = k; setting = v; is = refl })

-- an inner list is an entry, or another list
pub entry-or-other : (inner : Elements) → IsEntry inner ⊎ (entry_of inner ≡ other)
entry-or-other none = inr refl
entry-or-other (list i es) = inr refl
entry-or-other (value k none) = inr refl
entry-or-other (value k (list i es)) = inr refl
entry-or-other (value k (value v none)) = both-strings k v
entry-or-other (value k (value v (value w es))) = inr refl
entry-or-other (value k (value v (list i es))) = inr refl

string-of : (v : Value) → kind v ≡ Str → (bs : List ℕ) × (v ≡ str bs)
string-of (str bs) e = (bs, refl)
string-of (int n) e = absurd (let c : code_of Int ≡ code_of Str = ap code_of e in omega arith)
string-of (vocab n) e = absurd (let c : code_of Vocab ≡ code_of Str = ap code_of e in omega arith)
string-of (float low high) e = absurd (let c : code_of Float ≡ code_of Str = ap code_of e in omega arith)
string-of (blob bs) e = absurd (let c : code_of Blob ≡ code_of Str = ap code_of e in omega arith)

two-strings : (inner : Elements) → AllKind Str inner → count inner ≡ 2 → IsEntry inner
two-strings none a n = absurd (omega arith)
two-strings (list i es) a n = absurd a
two-strings (value k none) a n = absurd (omega arith)
two-strings (value k (list i es)) a n = absurd a.1
two-strings (value k (value v none)) a n =
    let x = string-of k a.0 in
    let y = string-of v a.1.0 in
    let is : value k (value v none) ≡ entry_tree x.0 y.0 = ap (λ (z : Value). value z (value v none)) x.1 ∙ ap (λ (z : Value). value (str x.0) (value z none)) y.1 in
    record { key = x.0; setting = y.0; is = is }
two-strings (value k (value v (value w es))) a n = absurd (omega arith)
two-strings (value k (value v (list i es))) a n = absurd a.1.1

-- a list of the code of strings and of two elements is an entry
pub code-entry : (inner : Elements) → list_code_of inner ≡ typed_code Str → count inner ≡ 2 → IsEntry inner
code-entry inner c n = go (code_is inner)
  where
    go : CodeIs inner → IsEntry inner
    go (mixed e) = absurd (omega arith)
    go (typed k e a) =
        let same : k ≡ Str = kind-same k Str (omega arith) in
        two-strings inner (rw same at a) n

-- and every entry has that code and that count
pub entry-code : (inner : Elements) → IsEntry inner → (list_code_of inner ≡ typed_code Str) × (count inner ≡ 2)
entry-code inner i = rw i.is (code-all Str (str i.key) (value (str i.setting) none) (refl, (refl, tt)), refl)
