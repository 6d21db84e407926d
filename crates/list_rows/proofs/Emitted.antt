-- The one pass over a list's rows gives the list's bytes.
use Prim.Native.Nat.{ℕ, zero, suc, ◌+◌, ◌-◌, ◌≤◌, ◌<◌}
use mathlib.Core.Path.{◌≡◌, refl, sym, ap, ◌∙◌}
use mathlib.Core.Bool.{Bool, true, false, cond}
use mathlib.Core.List.{List, [], ◌∷◌, ◌++◌, append_assoc, append-nil}
use native.Mathlib.Omega.{arith}
use native.Mathlib.Numerals.{sub-one}
use native.Mathlib.Nat.{add-zero, zero-add}
use lib.Dec.{eqb, ltb}
use lib.ListN.{length, drop}
use borrow.Author.Tests.{ne_eqb, lt-ltb, eqb-true, eqb-false}
use Rattle.list.specs.declared.Kind.{Kind}
use Rattle.list.specs.Kind.{code_of, kind_of, list_code, typed_code}
use Rattle.list.specs.Tree.{Value, Elements, int, vocab, float, str, blob, none, value, list, kind, count}
use Rattle.list.specs.Bytes.{number, value_bytes, common, common_of, code_for, list_code_of, element_bytes, list_bytes}
use Rattle.list.specs.Rows.{value_store, element_store, value_row, element_rows, list_rows, list_store}
use Rattle.list.proofs.Codes.{code-low, common-mixed, typed-no-list, AllKind, CodeIs, mixed, typed, code_is}
use Rattle.list_rows.specs.Row.{stored}
use Rattle.list_rows.specs.Emit.{common_in, typed_or, code_ahead, row_bytes, left_after, emit}
use Rattle.list_rows.proofs.Rows.{part-is}
use Rattle.list_rows.proofs.Accepted.{past_value, past-list, used-value, used-list}

-- WHAT CODES HAVE IN COMMON
common-list : (code : ℕ) → common list_code code ≡ list_code
common-list code = go (eqb list_code code) refl
  where
    go : (b : Bool) → eqb list_code code ≡ b → cond b code list_code ≡ list_code
    go true e = sym (eqb-true list_code code e)
    go false e = refl

same_code : (a b : Bool) → cond a list_code (cond b list_code list_code) ≡ list_code
same_code true b = refl
same_code false true = refl
same_code false false = refl

common-low : (seen code : ℕ) → code < list_code → common seen code ≤ list_code
common-low seen code h = go (eqb seen 0) (eqb seen code)
  where
    go : (a b : Bool) → cond a code (cond b code list_code) ≤ list_code
    go true b = omega arith
    go false true = omega arith
    go false false = omega arith

common_of-low : (seen : ℕ) (es : Elements) → seen ≤ list_code → common_of seen es ≤ list_code
common_of-low seen none h = h
common_of-low seen (value v es) h = common_of-low (common seen (code_of (kind v))) es (common-low seen (code_of (kind v)) (code-low (kind v)).1)
common_of-low seen (list i es) h = common_of-low list_code es (omega arith)

typed-or : (s : ℕ) → s ≤ list_code → typed_or s ≡ code_for s
unfolding typed_or code_for
typed-or s h = go (eqb s list_code) refl
  where
    go : (b : Bool) → eqb s list_code ≡ b
        → cond (eqb s 0) list_code (cond (ltb s list_code) (list_code + s) list_code) ≡ cond (eqb s 0) list_code (cond b list_code (list_code + s))
    go true e = rw (eqb-true s list_code e)
    go false e = let n = eqb-false s list_code e in rw (lt-ltb s list_code (omega arith))

-- THE CODES AHEAD
ahead-mixed : (n : ℕ) (rows : List ℕ) → common_in list_code n rows ≡ list_code
unfolding common_in
ahead-mixed zero rows = refl
ahead-mixed (suc n) [] = refl
ahead-mixed (suc n) (a ∷ []) = refl
ahead-mixed (suc n) (a ∷ b ∷ []) = refl
ahead-mixed (suc n) (a ∷ b ∷ c ∷ rows) = rw (common-list a) (ahead-mixed n rows)

ahead-value : (v : Value) (used seen n : ℕ) (rows : List ℕ) → common_in seen (suc n) (value_row used v ++ rows) ≡ common_in (common seen (code_of (kind v))) n rows
unfolding common_in
ahead-value (int x) used seen n rows = refl
ahead-value (vocab x) used seen n rows = refl
ahead-value (float low high) used seen n rows = refl
ahead-value (str bs) used seen n rows = refl
ahead-value (blob bs) used seen n rows = refl

ahead-is : (es : Elements) (used seen : ℕ) (rows : List ℕ) → common_in seen (count es) (element_rows used es ++ rows) ≡ common_of seen es
unfolding common_in
ahead-is none used seen rows = refl
ahead-is (value v es) used seen rows =
    let u : ℕ = used + length (value_store v) in
    rw (append_assoc (value_row used v) (element_rows u es) rows)
    (ahead-value v used seen (count es) (element_rows u es ++ rows) ∙ ahead-is es u (common seen (code_of (kind v))) rows)
ahead-is (list i es) used seen rows = rw (same_code (eqb seen 0) (eqb seen list_code), ahead-mixed (count es) _) (sym (common-mixed es))

ahead-code : (es : Elements) (used : ℕ) (rows : List ℕ) → typed_or (common_in 0 (count es) (element_rows used es ++ rows)) ≡ list_code_of es
ahead-code es used rows = ap typed_or (ahead-is es used 0 rows) ∙ typed-or (common_of 0 es) (common_of-low 0 es (omega arith))

-- THE BYTES
value-emits :
    (v : Value) (store rows : List ℕ) (left used : ℕ) (rest : List ℕ) → drop used store ≡ value_store v ++ rest
    → emit store (value_row used v ++ rows) left used
    ≡ (cond (eqb left 0) (number (code_of (kind v))) [] ++ value_bytes v) ++ emit store rows (left - 1) (used + length (value_store v))
unfolding emit row_bytes code_ahead left_after stored kind_of
value-emits (int n) store rows left used rest h = refl
value-emits (vocab n) store rows left used rest h = refl
value-emits (float low high) store rows left used rest h = refl
value-emits (str bs) store rows left used rest h = rw (part-is store used bs rest h)
value-emits (blob bs) store rows left used rest h = rw (part-is store used bs rest h)

list-emits : (store rows : List ℕ) (n left used code : ℕ) → typed_or (common_in 0 n rows) ≡ code
    → emit store (list_code ∷ n ∷ 0 ∷ rows) left used ≡ (number code ++ number n) ++ emit store rows (cond (eqb code list_code) 0 n) used
unfolding emit row_bytes code_ahead left_after stored kind_of
list-emits store rows n left used code h = rw (h, add-zero used)

-- elements of one kind, without their codes
emit-typed :
    (es : Elements) (store rows : List ℕ) (k : Kind) (left used : ℕ) (rest : List ℕ) → AllKind k es → drop used store ≡ element_store es ++ rest
    → emit store (element_rows used es ++ rows) (count es + left) used ≡ element_bytes (typed_code k) es ++ emit store rows left (used + length (element_store es))
emit-typed none store rows k left used rest a h = rw (zero-add, add-zero)
emit-typed (value v es) store rows k left used rest a h =
    let n : suc (count es) + left ≡ suc (count es + left) = omega arith in
    let z : eqb (suc (count es + left)) 0 ≡ false = ne_eqb (suc (count es + left)) 0 (λ y. omega arith) in
    let p = past_value v es store used rest h in
    let u : ℕ = used + length (value_store v) in
    rw (n, append_assoc (value_row used v) (element_rows u es) rows, typed-no-list k, ← used-value v es used)
    (value-emits v store (element_rows u es ++ rows) (suc (count es + left)) used (element_store es ++ rest) p.0
    ∙ rw (z, sub-one) (ap (λ (y : List ℕ). value_bytes v ++ y) (emit-typed es store rows k left u rest a.1 p.1)
    ∙ sym (append_assoc (value_bytes v) (element_bytes (typed_code k) es) _)))
emit-typed (list i es) store rows k left used rest a h = absurd a

-- the elements behind a list's code and count, with codes or without
emit-inside :
    (i : Elements) (store rows : List ℕ) (used : ℕ) (rest : List ℕ) → drop used store ≡ element_store i ++ rest
    → emit store (element_rows used i ++ rows) 0 used ≡ element_bytes list_code i ++ emit store rows 0 (used + length (element_store i))
    → emit store (element_rows used i ++ rows) (cond (eqb (list_code_of i) list_code) 0 (count i)) used
    ≡ element_bytes (list_code_of i) i ++ emit store rows 0 (used + length (element_store i))
emit-inside i store rows used rest h ih = go (code_is i)
  where
    go : CodeIs i → emit store (element_rows used i ++ rows) (cond (eqb (list_code_of i) list_code) 0 (count i)) used
        ≡ element_bytes (list_code_of i) i ++ emit store rows 0 (used + length (element_store i))
    go (mixed e) = rw e ih
    go (typed k e a) =
        rw (e, typed-no-list k)
        (ap (λ (z : ℕ). emit store (element_rows used i ++ rows) z used) (sym (add-zero (count i))) ∙ emit-typed i store rows k 0 used rest a h)

-- elements with their codes
emit-coded :
    (es : Elements) (store rows : List ℕ) (used : ℕ) (rest : List ℕ) → drop used store ≡ element_store es ++ rest
    → emit store (element_rows used es ++ rows) 0 used ≡ element_bytes list_code es ++ emit store rows 0 (used + length (element_store es))
emit-coded none store rows used rest h = rw add-zero
emit-coded (value v es) store rows used rest h =
    let p = past_value v es store used rest h in
    let u : ℕ = used + length (value_store v) in
    rw (append_assoc (value_row used v) (element_rows u es) rows, ← used-value v es used)
    (value-emits v store (element_rows u es ++ rows) 0 used (element_store es ++ rest) p.0
    ∙ ap (λ (y : List ℕ). (number (code_of (kind v)) ++ value_bytes v) ++ y) (emit-coded es store rows u rest p.1)
    ∙ ap (λ (y : List ℕ). number (code_of (kind v)) ++ y) (sym (append_assoc (value_bytes v) (element_bytes list_code es) _)))
emit-coded (list i es) store rows used rest h =
    let p = past-list i es store used rest h in
    let u : ℕ = used + length (element_store i) in
    let r : List ℕ = element_rows u es ++ rows in
    rw (append_assoc (element_rows used i) (element_rows u es) rows, ← used-list i es used)
    (list-emits store (element_rows used i ++ r) (count i) 0 used (list_code_of i) (ahead-code i used r)
    ∙ ap (λ (y : List ℕ). (number (list_code_of i) ++ number (count i)) ++ y)
    (emit-inside i store r used (element_store es ++ rest) p.0 (emit-coded i store r used (element_store es ++ rest) p.0)
    ∙ ap (λ (y : List ℕ). element_bytes (list_code_of i) i ++ y) (emit-coded es store rows u rest p.1)
    ∙ sym (append_assoc (element_bytes (list_code_of i) i) (element_bytes list_code es) _)))

emit-end : (store : List ℕ) (left used : ℕ) → emit store [] left used ≡ []
unfolding emit
emit-end store left used = refl

-- the pass over a list's rows gives its bytes
pub emit-list : (es : Elements) → emit (list_store es) (list_rows es) 0 0 ≡ list_bytes es
unfolding list_bytes
emit-list es =
    let s : List ℕ = list_store es in
    let w : List ℕ = element_rows 0 es in
    let code : typed_or (common_in 0 (count es) w) ≡ list_code_of es = ap (λ (z : List ℕ). typed_or (common_in 0 (count es) z)) (sym (append-nil w)) ∙ ahead-code es 0 [] in
    let inside : emit s (w ++ []) (cond (eqb (list_code_of es) list_code) 0 (count es)) 0 ≡ element_bytes (list_code_of es) es ++ emit s [] 0 (0 + length s) =
    emit-inside es s [] 0 [] (sym (append-nil s)) (emit-coded es s [] 0 [] (sym (append-nil s))) in
    list-emits s w (count es) 0 0 (list_code_of es) code
    ∙ ap (λ (z : List ℕ). (number (list_code_of es) ++ number (count es)) ++ z)
    (ap (λ (z : List ℕ). emit s z (cond (eqb (list_code_of es) list_code) 0 (count es)) 0) (sym (append-nil w)) ∙ inside
    ∙ ap (λ (z : List ℕ). element_bytes (list_code_of es) es ++ z) (emit-end s 0 _) ∙ append-nil _)
