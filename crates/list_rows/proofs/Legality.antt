-- What is described is a list of legal values, and every legal list can be described.
use Prim.Native.Nat.{ℕ, zero, suc, ◌+◌, ◌-◌, ◌%◌, ◌^◌, ◌≤◌, ◌<◌}
use mathlib.Core.Path.{◌≡◌, refl, sym, ap, ◌∙◌}
use mathlib.Core.Bool.{true}
use mathlib.Core.Logic.{◌↔◌}
use mathlib.Core.List.{List, [], ◌∷◌, ◌++◌}
use mathlib.Core.Option.{some}
use native.Mathlib.Omega.{arith}
use lib.ListN.{length, length-append}
use borrow.Author.Tests.{eq-eqb, eqb-true, le-ltb, not-true}
use Rattle.wire.specs.Number.{Bytes}
use Rattle.wire.specs.Zero.{has_zero}
use Rattle.wire.proofs.Chains.{and-true}
use Rattle.list.specs.Limits.{list_limit, depth_limit}
use Rattle.list.specs.Tree.{Value, Elements, int, vocab, float, str, blob, none, value, list, count}
use Rattle.list.specs.Bytes.{list_code_of, element_bytes, list_bytes}
use Rattle.list.specs.Rows.{value_store, element_store, value_row, element_rows, list_rows, list_store}
use Rattle.list.specs.RowBytes.{packed}
use Rattle.list.specs.Legal.{LegalValue, LegalElements, Legal}
use Rattle.list.proofs.RowBytes.{packed-length, Words, unpacked-packed, packed-unpacked, unpacked-words}
use Rattle.list.proofs.RowBound.{value-size, row-numbers, store-bound}
use Rattle.list.proofs.Complete.{no_zero, count-le}
use Rattle.list.proofs.Sound.{zero-none}
use Rattle.list_rows.specs.Described.{natural, allowed_value, allowed, row_width, whole_rows, list_in, Writable}
use Rattle.list_rows.specs.Judge.{nested, depth, accepted, fitting, to_write}
use Rattle.list_rows.proofs.Rows.{both, natural-of, natural-low, closed_is}
use Rattle.list_rows.proofs.Judging.{listed, listed_by}

-- the tests of the definition, as facts
value-allowed : (v : Value) → LegalValue v → length (value_store v) < 2 ^ 31 → allowed_value v ≡ true
value-allowed (int n) l s = refl
value-allowed (vocab n) l s = refl
value-allowed (float low high) l s = refl
value-allowed (str bs) l s = rw (natural-of (length bs) s, closed_is bs, no_zero bs l.1)
value-allowed (blob bs) l s = natural-of (length bs) s

pub writable-allowed : (es : Elements) → Writable es → allowed es ≡ true
writable-allowed none w = refl
writable-allowed (value v es) w = and-true _ _ (value-allowed v w.0 w.1) (writable-allowed es w.2)
writable-allowed (list i es) w =
    and-true _ _ (natural-of (count i) w.0) (and-true (allowed i) (allowed es) (writable-allowed i w.1) (writable-allowed es w.2))

words_left : (xs ys : List ℕ) → Words (xs ++ ys) → Words xs
words_left [] ys w = tt
words_left (x ∷ xs) ys w = (w.0, words_left xs ys w.1)

words_right : (xs ys : List ℕ) → Words (xs ++ ys) → Words ys
words_right [] ys w = w
words_right (x ∷ xs) ys w = words_right xs ys w.1

bytes_left : (xs ys : List ℕ) → Bytes (xs ++ ys) → Bytes xs
bytes_left [] ys b = tt
bytes_left (x ∷ xs) ys b = (b.0, bytes_left xs ys b.1)

bytes-right : (xs ys : List ℕ) → Bytes (xs ++ ys) → Bytes ys
bytes-right [] ys b = b
bytes-right (x ∷ xs) ys b = bytes-right xs ys b.1

value-legal : (v : Value) (used : ℕ) → allowed_value v ≡ true → Words (value_row used v) → Bytes (value_store v) → LegalValue v × (length (value_store v) < 2 ^ 31)
value-legal (int n) used a w b = (w.1.0, omega arith)
value-legal (vocab n) used a w b = (w.1.0, omega arith)
value-legal (float low high) used a w b = ((w.1.0, w.1.1.0), omega arith)
value-legal (str bs) used a w b =
    let x = both (natural (length bs)) _ a in
    ((b, zero-none bs (not-true (has_zero bs) (sym (closed_is bs) ∙ x.1))), natural-low (length bs) x.0)
value-legal (blob bs) used a w b = (b, natural-low (length bs) a)

allowed-writable : (es : Elements) (used : ℕ) → allowed es ≡ true → Words (element_rows used es) → Bytes (element_store es) → Writable es
allowed-writable none used a w b = tt
allowed-writable (value v es) used a w b =
    let x = both (allowed_value v) _ a in
    let u : ℕ = used + length (value_store v) in
    let l = value-legal v used x.0 (words_left (value_row used v) (element_rows u es) w) (bytes_left (value_store v) (element_store es) b) in
    (l.0, l.1, allowed-writable es u x.1 (words_right (value_row used v) (element_rows u es) w) (bytes-right (value_store v) (element_store es) b))
allowed-writable (list i es) used a w b =
    let x = both (natural (count i)) _ a in
    let y = both (allowed i) _ x.1 in
    let u : ℕ = used + length (element_store i) in
    let r = w.1.1.1 in (
      natural-low (count i) x.0,
      allowed-writable i used y.0 (words_left (element_rows used i) (element_rows u es) r) (bytes_left (element_store i) (element_store es) b),
      allowed-writable es u y.1 (words_right (element_rows used i) (element_rows u es) r) (bytes-right (element_store i) (element_store es) b),
    )

-- the bytes of a list's rows are whole rows
whole-list : (es : Elements) → whole_rows (packed (list_rows es)) ≡ true
whole-list es = eq-eqb (length (packed (list_rows es)) % row_width) 0 (omega (arith, packed-length (list_rows es), row-numbers es))

pub writable-listed : (es : Elements) → Words (list_rows es) → Writable (list es none) → list_in (packed (list_rows es)) (list_store es) ≡ some es
writable-listed es n w =
    listed_by (packed (list_rows es)) (list_store es) es (whole-list es)
    (record { rows_are = unpacked-packed (list_rows es) n; store_is = refl; few = natural-of (count es) w.0; fine = writable-allowed es w.1 })

-- LAW: rows and store describe a list exactly where they are the rows and the store of it, its numbers are 32-bit ones and it can be described
pub listed-exactly :
    (rows store : List ℕ) (es : Elements) → Bytes rows → Bytes store
    → (list_in rows store ≡ some es) ↔ ((rows ≡ packed (list_rows es)) × (store ≡ list_store es) × Words (list_rows es) × Writable (list es none))
listed-exactly rows store es w b = (to, from)
  where
    to : list_in rows store ≡ some es → (rows ≡ packed (list_rows es)) × (store ≡ list_store es) × Words (list_rows es) × Writable (list es none)
    to h =
        let x = listed rows store es h in
        let t = x.1 in
        let whole : length rows % 4 ≡ 0 = omega (arith, eqb-true (length rows % row_width) 0 x.0) in
        let u : Words (list_rows es) = rw t.rows_are at (unpacked-words rows w) in
        let c : Bytes (list_store es) = rw t.store_is at b in
        (sym (packed-unpacked rows w whole) ∙ ap packed t.rows_are, t.store_is, u, (natural-low (count es) t.few, allowed-writable es 0 t.fine u.1.1.1 c, tt))

    from : (rows ≡ packed (list_rows es)) × (store ≡ list_store es) × Words (list_rows es) × Writable (list es none) → list_in rows store ≡ some es
    from h = rw (h.0, h.1) (writable-listed es h.2 h.3)

-- the numbers of a list that can be described are 32-bit ones where its store is no larger
words_append : (xs ys : List ℕ) → Words xs → Words ys → Words (xs ++ ys)
words_append [] ys u w = w
words_append (x ∷ xs) ys u w = (u.0, words_append xs ys u.1 w)

value-words : (v : Value) (used : ℕ) → LegalValue v → used + length (value_store v) < 2 ^ 32 → Words (value_row used v)
value-words (int n) used l h = (omega arith, (l, (omega arith, tt)))
value-words (vocab n) used l h = (omega arith, (l, (omega arith, tt)))
value-words (float low high) used l h = (omega arith, (l.0, (l.1, tt)))
value-words (str bs) used l h = (omega arith, (omega arith, (omega arith, tt)))
value-words (blob bs) used l h = (omega arith, (omega arith, (omega arith, tt)))

element-words : (es : Elements) (used : ℕ) → Writable es → used + length (element_store es) < 2 ^ 32 → Words (element_rows used es)
element-words none used w h = tt
element-words (value v es) used w h =
    let e = length-append (value_store v) (element_store es) in
    words_append (value_row used v) _ (value-words v used w.0 (omega arith)) (element-words es (used + length (value_store v)) w.2 (omega arith))
element-words (list i es) used w h =
    let e = length-append (element_store i) (element_store es) in
    let u : ℕ = used + length (element_store i) in
    (omega arith, (omega (arith, w.0), (omega arith, words_append (element_rows used i) _ (element-words i used w.1 (omega arith)) (element-words es u w.2 (omega arith)))))

-- legal elements of few bytes can be described, and their depth is the one that legality allows
legal-writable : (es : Elements) (d code : ℕ) → LegalElements d es → length (element_bytes code es) < 2 ^ 31 → Writable es × (nested es ≤ d)
legal-writable none d code l f = (tt, omega arith)
legal-writable (value v es) d code l f =
    let e = simp length-append at f in
    let r = legal-writable es d code l.1 (omega arith) in
    ((l.0, omega (arith, value-size v), r.0), r.1)
legal-writable (list i es) zero code l f = absurd l
legal-writable (list i es) (suc d) code l f =
    let e = simp length-append at f in
    let r = legal-writable i d (list_code_of i) l.0 (omega arith) in
    let t = legal-writable es (suc d) code l.1 (omega arith) in
    ((omega (arith, count-le (list_code_of i) i), r.0, t.0), omega (arith, r.1, t.1))

pub writable-legal : (es : Elements) (d : ℕ) → Writable es → nested es ≤ d → LegalElements d es
writable-legal none d w h = tt
writable-legal (value v es) d w h = (w.0, writable-legal es d w.2 h)
writable-legal (list i es) zero w h = absurd (omega arith)
writable-legal (list i es) (suc d) w h = (writable-legal i d w.1 (omega arith), writable-legal es (suc d) w.2 (omega arith))

elements-shorter : (es : Elements) → length (element_bytes (list_code_of es) es) ≤ length (list_bytes es)
unfolding list_bytes
elements-shorter es = omega arith

list-writable : (limit : ℕ) (es : Elements) → limit < 2 ^ 31 → Legal limit es → Writable (list es none) × (nested es ≤ depth_limit - 1)
list-writable limit es small l =
    let x = legal-writable es (depth_limit - 1) (list_code_of es) l.0 (omega (arith, l.1, elements-shorter es)) in
    ((omega (arith, l.1, count-le (list_code_of es) es, elements-shorter es), x.0, tt), x.1)

pub legal-in : (es : Elements) → Legal list_limit es → list_in (packed (list_rows es)) (list_store es) ≡ some es
legal-in es l =
    let x = list-writable list_limit es (omega arith) l in
    let w : Words (element_rows 0 es) = element-words es 0 x.0.1 (omega (arith, store-bound list_limit es l)) in
    writable-listed es (omega arith, (omega (arith, x.0.0), (omega arith, w))) x.0

-- LAW: a legal list may be written, from the bytes of its rows and its store
pub legal-listed : (es : Elements) → Legal list_limit es → to_write (packed (list_rows es)) (list_store es) ≡ accepted es
unfolding fitting
legal-listed es l =
    let x = list-writable list_limit es (omega arith) l in
    rw (legal-in es l, le-ltb depth_limit (depth es) (omega (arith, x.1)), le-ltb list_limit (length (list_bytes es)) l.1)
