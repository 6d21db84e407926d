-- Rows and store describe a list exactly where they are its rows and its store.
use Prim.Native.Nat.{ℕ, ◌+◌}
use mathlib.Core.Path.{◌≡◌, refl, sym, ap, ◌∙◌}
use mathlib.Core.Bool.{Bool, true, false, cond}
use mathlib.Core.List.{List, [], ◌∷◌, ◌++◌, append_assoc, append-nil}
use mathlib.Core.Option.{some}
use mathlib.Core.Option as option
use native.Mathlib.Omega.{arith}
use lib.ListN.{length, drop}
use Rattle.wire.specs.Equal.{same}
use Rattle.wire.proofs.Equal.{same_refl, same-equal}
use Rattle.list.specs.Kind.{kind_of, list_code}
use Rattle.list.specs.Tree.{Value, Elements, int, vocab, float, str, blob, none, value, list, count}
use Rattle.list.specs.Rows.{value_store, element_store, value_row, element_rows, list_rows, list_store}
use Rattle.list_rows.specs.Described.{first_of, rest_of, elements_of, outermost, natural, allowed, describes, described}
use Rattle.list_rows.proofs.Rows.{both, part-is}
use Rattle.list_rows.proofs.Accepted.{past_value, past-list, DescribedBy}

-- the elements of a list, then others
unfoldable joined : Elements → Elements → Elements
joined none fs = fs
joined (value v es) fs = value v (joined es fs)
joined (list i es) fs = list i (joined es fs)

first-joined : (es fs : Elements) → first_of (count es) (joined es fs) ≡ es
unfolding joined
first-joined none fs = refl
first-joined (value v es) fs = ap (value v) (first-joined es fs)
first-joined (list i es) fs = ap (list i) (first-joined es fs)

rest-joined : (es fs : Elements) → rest_of (count es) (joined es fs) ≡ fs
unfolding joined
rest-joined none fs = refl
rest-joined (value v es) fs = rest-joined es fs
rest-joined (list i es) fs = rest-joined es fs

joined-none : (es : Elements) → joined es none ≡ es
unfolding joined
joined-none none = refl
joined-none (value v es) = ap (value v) (joined-none es)
joined-none (list i es) = ap (list i) (joined-none es)

value_read : (v : Value) (store rows : List ℕ) (used : ℕ) (rest : List ℕ) → drop used store ≡ value_store v ++ rest
    → elements_of store (value_row used v ++ rows) ≡ value v (elements_of store rows)
unfolding elements_of kind_of
value_read (int n) store rows used rest h = refl
value_read (vocab n) store rows used rest h = refl
value_read (float low high) store rows used rest h = refl
value_read (str bs) store rows used rest h = rw (part-is store used bs rest h)
value_read (blob bs) store rows used rest h = rw (part-is store used bs rest h)

list_read : (store rows : List ℕ) (n : ℕ) → elements_of store (list_code ∷ n ∷ 0 ∷ rows) ≡ list (first_of n (elements_of store rows)) (rest_of n (elements_of store rows))
unfolding elements_of
list_read store rows n = refl

rows-read : (es : Elements) (store rows : List ℕ) (used : ℕ) (rest : List ℕ) → drop used store ≡ element_store es ++ rest
    → elements_of store (element_rows used es ++ rows) ≡ joined es (elements_of store rows)
unfolding joined
rows-read none store rows used rest h = refl
rows-read (value v es) store rows used rest h =
    let p = past_value v es store used rest h in
    let u : ℕ = used + length (value_store v) in
    rw (append_assoc (value_row used v) (element_rows u es) rows)
    (value_read v store (element_rows u es ++ rows) used (element_store es ++ rest) p.0 ∙ ap (value v) (rows-read es store rows u rest p.1))
rows-read (list i es) store rows used rest h =
    let p = past-list i es store used rest h in
    let u : ℕ = used + length (element_store i) in
    let r : List ℕ = element_rows u es ++ rows in
    let t : elements_of store (element_rows used i ++ r) ≡ joined i (joined es (elements_of store rows)) =
    rows-read i store r used (element_store es ++ rest) p.0 ∙ ap (joined i) (rows-read es store rows u rest p.1) in
    rw (append_assoc (element_rows used i) (element_rows u es) rows)
    (list_read store (element_rows used i ++ r) (count i) ∙ rw (t, first-joined i _, rest-joined i _))

nothing_read : (store : List ℕ) → elements_of store [] ≡ none
unfolding elements_of
nothing_read store = refl

-- the outermost list of a list's rows is that list
pub read_back : (es : Elements) → outermost (elements_of (list_store es) (list_rows es)) ≡ es
read_back es =
    let s : List ℕ = list_store es in
    let t : elements_of s (element_rows 0 es) ≡ es =
    ap (elements_of s) (sym (append-nil (element_rows 0 es))) ∙ rows-read es s [] 0 [] (sym (append-nil s)) ∙ ap (joined es) (nothing_read s) ∙ joined-none es in
    let f : joined es none ≡ es = joined-none es in
    ap outermost (list_read s (element_rows 0 es) (count es)) ∙ rw t (ap (first_of (count es)) (sym f) ∙ first-joined es none)

-- a list is described by its rows and its store
pub described-complete : (es : Elements) → natural (count es) ≡ true → allowed es ≡ true → described (list_rows es) (list_store es) ≡ some es
unfolding described describes
described-complete es n l = rw (read_back es, same_refl (list_rows es), same_refl (list_store es), n, l)

describes-by : (rows store : List ℕ) (es : Elements) → describes rows store es ≡ true → DescribedBy rows store es
unfolding describes
describes-by rows store es h =
    let x = both (same rows (list_rows es)) _ h in
    let y = both (same store (list_store es)) _ x.1 in
    let z = both (natural (count es)) _ y.1 in
    record { rows_are = same-equal _ _ x.0; store_is = same-equal _ _ y.0; few = z.0; fine = z.1 }

-- rows and store that describe a list are its rows and its store
pub described-sound : (rows store : List ℕ) (es : Elements) → described rows store ≡ some es → DescribedBy rows store es
unfolding described
described-sound rows store es = go (describes rows store (outermost (elements_of store rows))) refl
  where
    go : (b : Bool) → describes rows store (outermost (elements_of store rows)) ≡ b → cond b (some (outermost (elements_of store rows))) option.none ≡ some es
        → DescribedBy rows store es
    go true e h =
        let f : outermost (elements_of store rows) ≡ es = cc in
        describes-by rows store es (ap (describes rows store) (sym f) ∙ e)
    go false e h = let z : ◌≡◌ {A = ℕ} 0 1 = cc in absurd (omega arith)

-- rows and store that are those of no list describe none
pub described-none : (rows store : List ℕ) → ((es : Elements) → DescribedBy rows store es → ⊥) → described rows store ≡ option.none
unfolding described
described-none rows store never = go (describes rows store (outermost (elements_of store rows))) refl
  where
    go : (b : Bool) → describes rows store (outermost (elements_of store rows)) ≡ b → cond b (some (outermost (elements_of store rows))) option.none ≡ option.none
    go true e = absurd (never _ (describes-by rows store _ e))
    go false e = refl
