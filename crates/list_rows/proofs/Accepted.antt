-- Rows and store have the shape of a list exactly where they are the rows and the store of a tree.
use Rattle.std.specs.Prelude.{Option, Some, None}
use Prim.Native.Nat.{ℕ, zero, suc, ◌+◌, ◌-◌, ◌≤◌}
use mathlib.Core.Path.{◌≡◌, refl, sym, ap, ◌∙◌}
use mathlib.Core.Bool.{Bool, true, false, cond, ◌&&◌}
use mathlib.Core.Logic.{◌⊎◌, inl, inr, ⊎_elim}
use mathlib.Core.List.{List, [], ◌∷◌, ◌++◌, append_assoc, append-nil}
use native.Mathlib.Omega.{arith}
use native.Mathlib.Nat.{add-zero, zero-add}
use lib.Dec.{eqb}
use lib.ListN.{length, get_or, drop, length-append, length-drop}
use lib.Seq.{drop-length}
use borrow.Author.Tests.{eq-eqb, le-leb, eqb-true}
use Rattle.wire.proofs.Chains.{and-true}
use Rattle.list.specs.declared.Kind.{Kind}
use Rattle.list.specs.declared.Kind.TheVariants.{Int, Float, Str, Blob, Vocab}
use Rattle.list.specs.declared.Row.{Row}
use Rattle.list.specs.Kind.{code_of, kind_of, list_code}
use Rattle.list.specs.Tree.{Value, Elements, int, vocab, float, str, blob, none, value, list, count}
use Rattle.list.specs.Rows.{value_store, element_store, value_row, list_row, element_rows, list_rows, list_store}
use Rattle.list.specs.RowBytes.{row}
use Rattle.list.proofs.Codes.{code-of-kind}
use Rattle.list_rows.specs.Described.{part, natural, allowed_value, allowed}
use Rattle.list_rows.specs.Row.{gained, stored}
use Rattle.list_rows.specs.Shape.{placed, textual, kind_fits, found_fits, row_fits, shape, list_shape}
use Rattle.list_rows.proofs.Rows.{clash, both, behind, part_length, part-front, part-is}
use Rattle.list_rows.proofs.Shapes.{placed-parts, placed-inside, fits-inside}

-- the store behind a value, and behind a list
pub past_value :
    (v : Value) (es : Elements) (store : List ℕ) (used : ℕ) (rest : List ℕ) → drop used store ≡ element_store (value v es) ++ rest
    → (drop used store ≡ value_store v ++ (element_store es ++ rest)) × (drop (used + length (value_store v)) store ≡ element_store es ++ rest)
past_value v es store used rest h =
    let h₁ : drop used store ≡ value_store v ++ (element_store es ++ rest) = h ∙ append_assoc (value_store v) (element_store es) rest in
    (h₁, behind store used (value_store v) (element_store es ++ rest) h₁)

pub past-list :
    (i es : Elements) (store : List ℕ) (used : ℕ) (rest : List ℕ) → drop used store ≡ element_store (list i es) ++ rest
    → (drop used store ≡ element_store i ++ (element_store es ++ rest)) × (drop (used + length (element_store i)) store ≡ element_store es ++ rest)
past-list i es store used rest h =
    let h₁ : drop used store ≡ element_store i ++ (element_store es ++ rest) = h ∙ append_assoc (element_store i) (element_store es) rest in
    (h₁, behind store used (element_store i) (element_store es ++ rest) h₁)

-- how much of the store elements use, in two steps
pub used-value : (v : Value) (es : Elements) (used : ℕ) → used + length (value_store v) + length (element_store es) ≡ used + length (element_store (value v es))
used-value v es used = omega (arith, length-append (value_store v) (element_store es))

pub used-list : (i es : Elements) (used : ℕ) → used + length (element_store i) + length (element_store es) ≡ used + length (element_store (list i es))
used-list i es used = omega (arith, length-append (element_store i) (element_store es))

-- THE ROWS OF A TREE HAVE THE SHAPE
placed-ok : (bs store : List ℕ) (used : ℕ) (rest : List ℕ) → drop used store ≡ bs ++ rest → natural (length bs) ≡ true → placed store used used (length bs) ≡ true
unfolding placed
placed-ok bs store used rest h l =
    let n : length bs ≤ length store - used = omega (arith, simp (length-drop, length-append) at (ap length h)) in
    rw (eq-eqb used used refl, l, le-leb (length bs) (length store - used) n)

value-fits :
    (v : Value) (store rows : List ℕ) (want used : ℕ) (rest : List ℕ) → allowed_value v ≡ true → drop used store ≡ value_store v ++ rest
    → shape store (value_row used v ++ rows) (suc want) used ≡ shape store rows want (used + length (value_store v))
unfolding shape row_fits kind_fits textual gained stored kind_of
value-fits (int n) store rows want used rest l h = rw (add-zero, add-zero)
value-fits (vocab n) store rows want used rest l h = rw (add-zero, add-zero)
value-fits (float low high) store rows want used rest l h = rw (add-zero, add-zero)
value-fits (str bs) store rows want used rest l h =
    let x = both (natural (length bs)) _ l in
    rw (placed-ok bs store used rest h x.0, part-is store used bs rest h, x.1, add-zero)
value-fits (blob bs) store rows want used rest l h = rw (placed-ok bs store used rest h l, add-zero)

list-fits : (store rows : List ℕ) (n want used : ℕ) → natural n ≡ true → shape store (list_code ∷ n ∷ 0 ∷ rows) (suc want) used ≡ shape store rows (want + n) used
unfolding shape row_fits gained stored kind_of
list-fits store rows n want used l = rw (l, add-zero used)

-- the rows of some elements, in front of others
rows_fit :
    (es : Elements) (store rows : List ℕ) (want used : ℕ) (rest : List ℕ) → allowed es ≡ true → drop used store ≡ element_store es ++ rest
    → shape store (element_rows used es ++ rows) (count es + want) used ≡ shape store rows want (used + length (element_store es))
rows_fit none store rows want used rest l h = rw (zero-add, add-zero)
rows_fit (value v es) store rows want used rest l h =
    let n : suc (count es) + want ≡ suc (count es + want) = omega arith in
    let x = both (allowed_value v) _ l in
    let p = past_value v es store used rest h in
    let u : ℕ = used + length (value_store v) in
    rw (n, append_assoc (value_row used v) (element_rows u es) rows, ← used-value v es used)
    (value-fits v store (element_rows u es ++ rows) (count es + want) used (element_store es ++ rest) x.0 p.0
    ∙ rows_fit es store rows want u rest x.1 p.1)
rows_fit (list i es) store rows want used rest l h =
    let n : suc (count es) + want ≡ suc (count es + want) = omega arith in
    let m : count es + want + count i ≡ count i + (count es + want) = omega arith in
    let x = both (natural (count i)) _ l in
    let y = both (allowed i) _ x.1 in
    let p = past-list i es store used rest h in
    let u : ℕ = used + length (element_store i) in
    rw (n, append_assoc (element_rows used i) (element_rows u es) rows, ← used-list i es used)
    (list-fits store (element_rows used i ++ (element_rows u es ++ rows)) (count i) (count es + want) used x.0
    ∙ rw m (rows_fit i store (element_rows u es ++ rows) (count es + want) used (element_store es ++ rest) y.0 p.0
    ∙ rows_fit es store rows want u rest y.1 p.1))

shape-end : (store : List ℕ) (used : ℕ) → used ≡ length store → shape store [] 0 used ≡ true
unfolding shape
shape-end store used h = eq-eqb used (length store) h

pub shape-complete : (es : Elements) → natural (count es) ≡ true → allowed es ≡ true → list_shape (list_rows es) (list_store es) ≡ true
unfolding list_shape
shape-complete es n l =
    let s : List ℕ = list_store es in
    let e : element_rows 0 es ++ [] ≡ element_rows 0 es = append-nil (element_rows 0 es) in
    let c : count es + 0 ≡ count es = add-zero (count es) in
    list-fits s (element_rows 0 es) (count es) 0 0 n ∙ ap (λ (z : ℕ). shape s (element_rows 0 es) z 0) (zero-add (count es))
    ∙ ap (λ (z : List ℕ). shape s z (count es) 0) (sym e) ∙ ap (λ (z : ℕ). shape s (element_rows 0 es ++ []) z 0) (sym c)
    ∙ rows_fit es s [] 0 0 [] l (sym (append-nil s)) ∙ shape-end s (0 + length s) (zero-add (length s))

-- WHAT HAS THE SHAPE IS THE ROWS OF A TREE
three : (a b c x y z : ℕ) (l : List ℕ) → a ≡ x → b ≡ y → c ≡ z → a ∷ b ∷ c ∷ l ≡ x ∷ y ∷ z ∷ l
three a b c x y z l p q r = rw (p, q, r)

-- the first n elements of n + m
record Cut (n m used : ℕ) (es : Elements) : Type 0 where
  i : Elements
  j : Elements
  first : count i ≡ n
  second : count j ≡ m
  allowed-i : allowed i ≡ true
  allowed-j : allowed j ≡ true
  rows_are : element_rows used es ≡ element_rows used i ++ element_rows (used + length (element_store i)) j
  store_is : element_store es ≡ element_store i ++ element_store j

cut : (n m used : ℕ) (es : Elements) → count es ≡ n + m → allowed es ≡ true → Cut n m used es
cut zero m used es h l =
    record { i = none; j = es; first = refl; second = omega arith; allowed-i = refl; allowed-j = l; rows_are = rw (add-zero used); store_is = refl }
cut (suc n) m used none h l = absurd (omega arith)
cut (suc n) m used (value v es) h l =
    let x = both (allowed_value v) _ l in
    let u : ℕ = used + length (value_store v) in
    let r = cut n m u es (omega arith) x.1 in
    record {
      i = value v r.i;
      j = r.j;
      first = ap suc r.first;
      second = r.second;
      allowed-i = and-true (allowed_value v) (allowed r.i) x.0 r.allowed-i;
      allowed-j = r.allowed-j;
      rows_are = ap (λ (z : List ℕ). value_row used v ++ z) r.rows_are
          ∙ rw (used-value v r.i used) (sym (append_assoc (value_row used v) (element_rows u r.i) _));
      store_is = ap (λ (z : List ℕ). value_store v ++ z) r.store_is ∙ sym (append_assoc (value_store v) (element_store r.i) (element_store r.j));
    }
cut (suc n) m used (list a es) h l =
    let x = both (natural (count a)) _ l in
    let y = both (allowed a) _ x.1 in
    let u : ℕ = used + length (element_store a) in
    let r = cut n m u es (omega arith) y.1 in
    record {
      i = list a r.i;
      j = r.j;
      first = ap suc r.first;
      second = r.second;
      allowed-i = and-true (natural (count a)) _ x.0 (and-true (allowed a) (allowed r.i) y.0 r.allowed-i);
      allowed-j = r.allowed-j;
      rows_are = ap (λ (z : List ℕ). list_row a ++ (element_rows used a ++ z)) r.rows_are
          ∙ rw (used-list a r.i used) (ap (λ (z : List ℕ). list_row a ++ z) (sym (append_assoc (element_rows used a) (element_rows u r.i) _)));
      store_is = ap (λ (z : List ℕ). element_store a ++ z) r.store_is ∙ sym (append_assoc (element_store a) (element_store r.i) (element_store r.j));
    }

module _ (s : List ℕ) where
  -- a row that fits is a value's, or a list's
  record ValueRow (used : ℕ) (r : Row) : Type 0 where
    v : Value
    ok : allowed_value v ≡ true
    row_is : r.code ∷ r.second ∷ r.third ∷ [] ≡ value_row used v
    bytes : drop used s ≡ value_store v ++ drop (used + length (value_store v)) s
    no-gain : gained r ≡ 0
    takes : stored r ≡ length (value_store v)

  record ListRow (used : ℕ) (r : Row) : Type 0 where
    code_is : r.code ≡ list_code
    small : natural r.second ≡ true
    third-is : r.third ≡ 0
    gains : gained r ≡ r.second
    takes : stored r ≡ 0

  -- the bytes of a string or a blob
  record Bytes-at (used second third : ℕ) : Type 0 where
    at-used : second ≡ used
    small : natural (length (part s used third)) ≡ true
    size : third ≡ length (part s used third)
    front : drop used s ≡ part s used third ++ drop (used + length (part s used third)) s

  bytes-at : (used second third : ℕ) → used ≤ length s → placed s used second third ≡ true → Bytes-at used second third
  bytes-at used second third u h =
      let x = placed-parts s used second third h in
      let n : length (part s used third) ≡ third = part_length s used third (placed-inside s used second third u h) in
      record { at-used = x.0; small = rw n x.1; size = sym n; front = rw n (part-front s used third) }

  value_row_lem : (used : ℕ) (r : Row) (k : Kind) → r.code ≡ code_of k → used ≤ length s → kind_fits s used r.second r.third k ≡ true → ValueRow used r
  unfolding kind_fits textual gained stored kind_of
  value_row_lem used r Int e u h =
      let z : r.third ≡ 0 = eqb-true _ _ h in
      record { v = int r.second; ok = refl; row_is = three _ _ _ _ _ _ [] e refl z; bytes = rw (add-zero used); no-gain = rw e; takes = rw e }
  value_row_lem used r Vocab e u h =
      let z : r.third ≡ 0 = eqb-true _ _ h in
      record { v = vocab r.second; ok = refl; row_is = three _ _ _ _ _ _ [] e refl z; bytes = rw (add-zero used); no-gain = rw e; takes = rw e }
  value_row_lem used r Float e u h =
      record { v = float r.second r.third; ok = refl; row_is = three _ _ _ _ _ _ [] e refl refl; bytes = rw (add-zero used); no-gain = rw e; takes = rw e }
  value_row_lem used r Str e u h =
      let x = both (placed s used r.second r.third) _ h in
      let b = bytes-at used r.second r.third u x.0 in
      record {
        v = str (part s used r.third);
        ok = and-true _ _ b.small x.1;
        row_is = three _ _ _ _ _ _ [] e b.at-used b.size;
        bytes = b.front;
        no-gain = rw e;
        takes = rw e b.size;
      }
  value_row_lem used r Blob e u h =
      let b = bytes-at used r.second r.third u h in
      record {
        v = blob (part s used r.third);
        ok = b.small;
        row_is = three _ _ _ _ _ _ [] e b.at-used b.size;
        bytes = b.front;
        no-gain = rw e;
        takes = rw e b.size;
      }

  found-row : (used : ℕ) (r : Row) (found : Option Kind) → kind_of r.code ≡ found → used ≤ length s → found_fits s used r.second r.third found ≡ true → ValueRow used r
  found-row used r (Some k) e u h = value_row_lem used r k (code-of-kind r.code k e) u h
  found-row used r None e u h = clash h

  row-cases : (used : ℕ) (r : Row) → used ≤ length s → row_fits s used r ≡ true → ListRow used r ⊎ ValueRow used r
  unfolding row_fits gained stored kind_of
  row-cases used r u = go (eqb r.code list_code) refl
    where
      go : (b : Bool) → eqb r.code list_code ≡ b
          → cond b (natural r.second && eqb r.third 0) (found_fits s used r.second r.third (kind_of r.code)) ≡ true
          → ListRow used r ⊎ ValueRow used r
      go true e h =
          let k : r.code ≡ list_code = eqb-true _ _ e in
          let x = both (natural r.second) _ h in
          inl record { code_is = k; small = x.0; third-is = eqb-true _ _ x.1; gains = rw k; takes = rw k }
      go false e h = inr (found-row used r (kind_of r.code) refl u h)

  -- the elements that were accepted
  pub record Elements-of (rows : List ℕ) (want used : ℕ) : Type 0 where
    pub tree : Elements
    pub many : count tree ≡ want
    pub fine : allowed tree ≡ true
    pub rows_are : rows ≡ element_rows used tree
    pub store_is : drop used s ≡ element_store tree

  add-value : (rows : List ℕ) (want used : ℕ) (r : Row) → ValueRow used r → Elements-of rows (want + gained r) (used + stored r)
      → Elements-of (r.code ∷ r.second ∷ r.third ∷ rows) (suc want) used
  add-value rows want used r w x =
      record {
        tree = value w.v x.tree;
        many = ap suc (x.many ∙ rw w.no-gain (add-zero want));
        fine = and-true (allowed_value w.v) (allowed x.tree) w.ok x.fine;
        rows_are = ap (λ (z : List ℕ). z ++ rows) w.row_is
            ∙ ap (λ (z : List ℕ). value_row used w.v ++ z) (x.rows_are ∙ ap (λ (z : ℕ). element_rows (used + z) x.tree) w.takes);
        store_is = w.bytes ∙ ap (λ (z : List ℕ). value_store w.v ++ z) (ap (λ (k : ℕ). drop (used + k) s) (sym w.takes) ∙ x.store_is);
      }

  add-list : (rows : List ℕ) (want used : ℕ) (r : Row) → ListRow used r → Elements-of rows (want + gained r) (used + stored r)
      → Elements-of (r.code ∷ r.second ∷ r.third ∷ rows) (suc want) used
  add-list rows want used r w x =
      let e : used + stored r ≡ used = rw w.takes (add-zero used) in
      let k = cut r.second want used x.tree (x.many ∙ omega (arith, w.gains)) x.fine in
      record {
        tree = list k.i k.j;
        many = ap suc k.second;
        fine = and-true (natural (count k.i)) _ (ap natural k.first ∙ w.small) (and-true (allowed k.i) (allowed k.j) k.allowed-i k.allowed-j);
        rows_are = three _ _ _ _ _ _ rows w.code_is (sym k.first) w.third-is
            ∙ ap (λ (z : List ℕ). list_row k.i ++ z) (x.rows_are ∙ ap (λ (z : ℕ). element_rows z x.tree) e ∙ k.rows_are);
        store_is = ap (λ (z : ℕ). drop z s) (sym e) ∙ x.store_is ∙ k.store_is;
      }

  accepted : (rows : List ℕ) (want used : ℕ) → used ≤ length s → shape s rows want used ≡ true → Elements-of rows want used
  unfolding shape
  accepted [] want used u h =
      let x = both (eqb want 0) _ h in
      record { tree = none; many = sym (eqb-true want 0 x.0); fine = refl; rows_are = refl; store_is = rw (eqb-true used (length s) x.1) (drop-length s) }
  accepted (a ∷ []) want used u h = clash h
  accepted (a ∷ b ∷ []) want used u h = clash h
  accepted (a ∷ b ∷ c ∷ rows) zero used u h = clash h
  accepted (a ∷ b ∷ c ∷ rows) (suc want) used u h =
      let r : Row = row a b c in
      let x = both (row_fits s used r) _ h in
      let rest = accepted rows (want + gained r) (used + stored r) (fits-inside s used r u x.0) x.1 in
      ⊎_elim
      (λ w. add-list rows want used r w rest)
      (λ w. add-value rows want used r w rest)
      (row-cases used r u x.0)

-- one element whose row has the code of a list is a list
one_list : (es : Elements) (used : ℕ) → count es ≡ 1 → get_or (element_rows used es) 0 0 ≡ list_code → (i : Elements) × (es ≡ list i none)
one_list none used c h = absurd (omega arith)
one_list (value (int n) es) used c h = absurd (omega arith)
one_list (value (vocab n) es) used c h = absurd (omega arith)
one_list (value (float low high) es) used c h = absurd (omega arith)
one_list (value (str bs) es) used c h = absurd (omega arith)
one_list (value (blob bs) es) used c h = absurd (omega arith)
one_list (list i none) used c h = (i, refl)
one_list (list i (value v es)) used c h = absurd (omega arith)
one_list (list i (list k es)) used c h = absurd (omega arith)

-- rows and store are those of this list, and its strings, counts and lengths are as they may be
pub record DescribedBy (rows store : List ℕ) (es : Elements) : Type 0 where
  pub rows_are : rows ≡ list_rows es
  pub store_is : store ≡ list_store es
  pub few : natural (count es) ≡ true
  pub fine : allowed es ≡ true

pub shape-sound : (rows store : List ℕ) → list_shape rows store ≡ true → (es : Elements) × DescribedBy rows store es
unfolding list_shape
shape-sound rows store h =
    let x = both (eqb (get_or rows 0 0) list_code) _ h in
    let r = accepted store rows 1 0 (omega arith) x.1 in
    let o = one_list r.tree 0 r.many (ap (λ (z : List ℕ). get_or z 0 0) (sym r.rows_are) ∙ eqb-true _ _ x.0) in
    let i : Elements = o.0 in
    let f = both (natural (count i)) _ (ap allowed (sym o.1) ∙ r.fine) in (
      i,
      record {
        rows_are = r.rows_are ∙ ap (element_rows 0) o.1 ∙ ap (λ (z : List ℕ). list_row i ++ z) (append-nil (element_rows 0 i));
        store_is = r.store_is ∙ ap element_store o.1 ∙ append-nil (element_store i);
        few = f.0;
        fine = (both (allowed i) _ f.1).0;
      },
    )
