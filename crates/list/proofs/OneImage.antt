-- Each list has one image: bytes that start with a legal list start with no other, and its elements behind another code are refused.
use Prim.Native.Nat.{ℕ, ◌+◌, ◌-◌, ◌^◌, ◌≤◌, ◌<◌}
use mathlib.Core.Path.{◌≡◌, sym, ap, ◌∙◌}
use mathlib.Core.Bool.{false}
use mathlib.Core.List.{List, [], ◌++◌, append-nil}
use native.Mathlib.Omega.{arith}
use lib.Dec.{eqb}
use lib.ListN.{length}
use borrow.Author.Tests.{ne_eqb}
use Rattle.list.specs.declared.Kind.{Kind}
use Rattle.list.specs.Limits.{depth_limit}
use Rattle.list.specs.Kind.{list_code, typed_code}
use Rattle.list.specs.Tree.{Value, Elements, none, value, count}
use Rattle.list.specs.Bytes.{number, element_bytes, list_code_of, list_bytes}
use Rattle.list.specs.Legal.{LegalElements, Legal}
use Rattle.list.specs.Refusal.{refusal_at}
use Rattle.list.specs.Parse.{good, bad, typed_at, parse}
use Rattle.list.proofs.Codes.{kind-of-typed, kind-of-list, code-low, code-all, code-none, typed-is-code, mixed-is-code, AllKind}
use Rattle.list.proofs.Items.{stands-front}
use Rattle.list.proofs.Complete.{front-ok, body_ok, mixed-ok, complete}
use Rattle.list.proofs.Same.{split-same}

-- bytes start with one legal list at most, whatever follows it
pub same-front : (limit : ℕ) (es fs : Elements) (x y : List ℕ) → limit < 2 ^ 31 → Legal limit es → Legal limit fs
    → list_bytes es ++ x ≡ list_bytes fs ++ y → (es ≡ fs) × (x ≡ y)
same-front limit es fs x y small l m h =
    let c : good es (length (list_bytes es)) ≡ good fs (length (list_bytes fs)) = sym (complete limit es x small l) ∙ ap (parse limit) h ∙ complete limit fs y small m in
    let e : es ≡ fs = cc in
    (e, (split-same (list_bytes es) (list_bytes fs) x y (ap (λ (t : Elements). length (list_bytes t)) e) h).1)

-- no legal list's bytes open another's
pub no-list-opens : (limit : ℕ) (es fs : Elements) (x : List ℕ) → limit < 2 ^ 31 → Legal limit es → Legal limit fs → list_bytes fs ≡ list_bytes es ++ x → es ≡ fs
no-list-opens limit es fs x small l m h = (same-front limit es fs x [] small l m (sym h ∙ sym (append-nil (list_bytes fs)))).0

-- "Taking 256 with equal kinds as legal: two images for one list"
pub one-kind-refused : (limit : ℕ) (k : Kind) (v : Value) (es : Elements) (rest : List ℕ) → limit < 2 ^ 31
    → AllKind k (value v es) → LegalElements (depth_limit - 1) (value v es) → 8 + length (element_bytes list_code (value v es)) ≤ limit
    → parse limit (number list_code ++ (number (count (value v es)) ++ (element_bytes list_code (value v es) ++ rest))) ≡ bad (refusal_at 24 0 1)
one-kind-refused limit k v es rest small a l f =
    let t : Elements = value v es in
    let x : List ℕ = number (count t) ++ (element_bytes list_code t ++ rest) in
    let s : List ℕ = number list_code ++ x in
    let n : eqb list_code (list_code_of t) ≡ false = ne_eqb list_code (list_code_of t) (λ e. omega (arith, (code-low k).0, code-all k v es a)) in
    front-ok limit small s list_code x mixed-is-code (omega arith) (stands-front s) (omega arith)
    ∙ body_ok limit small s (depth_limit - 1) list_code t 0 rest (stands-front s) (omega arith)
    (λ h. rw kind-of-list (mixed-ok limit small s t (depth_limit - 1) l 8 rest h (omega arith)))
    ∙ rw n

-- "typed list of 0 elements"
pub empty-typed-refused : (limit : ℕ) (k : Kind) (rest : List ℕ) → limit < 2 ^ 31 → 8 ≤ limit → parse limit (number (typed_code k) ++ (number 0 ++ rest)) ≡ bad (refusal_at 24 0 1)
unfolding typed_at
empty-typed-refused limit k rest small f =
    let c : ℕ = typed_code k in
    let s : List ℕ = number c ++ (number 0 ++ rest) in
    let n : eqb c (list_code_of none) ≡ false = ne_eqb c (list_code_of none) (λ e. omega (arith, (code-low k).0, code-none)) in
    front-ok limit small s c (number 0 ++ rest) (typed-is-code k) (omega (arith, (code-low k).1)) (stands-front s) (omega arith)
    ∙ body_ok limit small s (depth_limit - 1) c none 0 rest (stands-front s) (omega arith) (λ h. rw (kind-of-typed k))
    ∙ rw n
