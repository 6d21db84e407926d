-- Laws of rows read one at a time, and of the parts of a store.
use Prim.Native.Nat.{ℕ, suc, ◌+◌, ◌*◌, ◌^◌, ◌≤◌, ◌<◌}
use mathlib.Core.Path.{◌≡◌, refl, sym, ap, ◌∙◌}
use mathlib.Core.Bool.{Bool, true, false, not, ◌&&◌}
use mathlib.Core.List.{List, ◌∷◌, ◌++◌}
use native.Mathlib.Omega.{arith}
use lib.Dec.{ltb}
use lib.ListN.{length, get_or, take, drop, length-drop, length-append, take-append-drop}
use lib.Seq.{drop-cons, drop-drop, drop_at, take_at, length-take-le}
use borrow.Author.Tests.{lt-ltb, le-leb, lt-leb, ltb-true, ltb-false}
use Rattle.wire.specs.Zero.{has_zero}
use Rattle.wire.proofs.Equal.{same_refl}
use Rattle.list.specs.declared.Kind.{Kind}
use Rattle.list.specs.declared.Kind.TheVariants.{Int, Float, Str, Blob, Vocab}
use Rattle.list.specs.declared.Row.{Row}
use Rattle.list.specs.Kind.{size_of}
use Rattle.list.specs.Strings.{terminator, string_size, closed}
use Rattle.list.specs.RowBytes.{row_at}
use Rattle.list_rows.specs.Described.{part, natural}
use Rattle.list_rows.specs.Row.{rows_in, rows_from}

pub clash : {A : Type 0} → false ≡ true → A
clash h = let z : ◌≡◌ {A = ℕ} 0 1 = cc in absurd (omega arith)

pub both : (a b : Bool) → (a && b) ≡ true → (a ≡ true) × (b ≡ true)
both true b h = (refl, h)
both false b h = clash h

-- the row at `at`, in front of the others
drop-row :
    (rows : List ℕ) (at : ℕ) → at + 3 ≤ length rows
    → drop at rows ≡ get_or rows at 0 ∷ get_or rows (at + 1) 0 ∷ get_or rows (at + 2) 0 ∷ drop (at + 3) rows
drop-row rows at h =
    let e₁ : suc at ≡ at + 1 = omega arith in
    let e₂ : suc (at + 1) ≡ at + 2 = omega arith in
    let e₃ : suc (at + 2) ≡ at + 3 = omega arith in
    let d₁ : drop at rows ≡ get_or rows at 0 ∷ drop (at + 1) rows = rw e₁ at (drop-cons rows at 0 (omega arith)) in
    let d₂ : drop (at + 1) rows ≡ get_or rows (at + 1) 0 ∷ drop (at + 2) rows = rw e₂ at (drop-cons rows (at + 1) 0 (omega arith)) in
    let d₃ : drop (at + 2) rows ≡ get_or rows (at + 2) 0 ∷ drop (at + 3) rows = rw e₃ at (drop-cons rows (at + 2) 0 (omega arith)) in
    d₁ ∙ rw (d₂, d₃)

pub front-row : (rows : List ℕ) (i : ℕ) → i < rows_in rows → (r : Row) → r ≡ row_at rows (3 * i) → rows_from rows i ≡ r.code ∷ r.second ∷ r.third ∷ rows_from rows (i + 1)
front-row rows i h r is-r =
    let e : 3 * i + 3 ≡ 3 * (i + 1) = omega arith in
    rw e at (drop-row rows (3 * i) (omega arith)) ∙ rw is-r

-- the numbers behind the last whole row
pub few-left : (rows : List ℕ) (i : ℕ) → rows_in rows ≤ i → length (rows_from rows i) < 3
few-left rows i h = omega (arith, length-drop (3 * i) rows)

-- a count or a length is not below 0
pub natural-is : (n : ℕ) → natural n ≡ ltb n 2147483648
natural-is n = go (ltb n 2147483648) refl
  where
    go : (b : Bool) → ltb n 2147483648 ≡ b → natural n ≡ b
    go true e = rw (lt-leb 2147483648 n (ltb-true n 2147483648 e))
    go false e = rw (le-leb 2147483648 n (ltb-false n 2147483648 e))

pub natural-of : (n : ℕ) → n < 2 ^ 31 → natural n ≡ true
natural-of n h = natural-is n ∙ lt-ltb n 2147483648 h

pub natural-low : (n : ℕ) → natural n ≡ true → n < 2 ^ 31
natural-low n h = ltb-true n 2147483648 (sym (natural-is n) ∙ h)

-- the rule of strings, for the bytes that a row names
pub closed_is : (bs : List ℕ) → closed (bs ++ terminator) ≡ not (has_zero bs)
closed_is bs =
    let e : string_size (length (bs ++ terminator)) ≡ length bs = omega (arith, length-append bs terminator) in
    rw (e, take_at bs terminator (length bs) refl, drop_at bs terminator (length bs) refl, same_refl terminator, and-right-true)
  where
    and-right-true : (b : Bool) → (b && true) ≡ b
    and-right-true true = refl
    and-right-true false = refl

-- what stands behind xs
pub behind : (s : List ℕ) (at : ℕ) (xs rest : List ℕ) → drop at s ≡ xs ++ rest → drop (at + length xs) s ≡ rest
behind s at xs rest h = sym (drop-drop (length xs) at s) ∙ ap (drop (length xs)) h ∙ drop_at xs rest (length xs) refl

-- the fixed bytes of a kind are few
pub size_low : (k : Kind) → size_of k ≤ 8
size_low Int = omega arith
size_low Float = omega arith
size_low Str = omega arith
size_low Blob = omega arith
size_low Vocab = omega arith

-- a part of the store
pub part_length : (s : List ℕ) (used n : ℕ) → used + n ≤ length s → length (part s used n) ≡ n
part_length s used n h = length-take-le n (drop used s) (omega (arith, length-drop used s))

pub part-front : (s : List ℕ) (used n : ℕ) → drop used s ≡ part s used n ++ drop (used + n) s
part-front s used n = sym (take-append-drop n (drop used s)) ∙ rw (drop-drop n used s)

pub part-is : (s : List ℕ) (used : ℕ) (xs rest : List ℕ) → drop used s ≡ xs ++ rest → part s used (length xs) ≡ xs
part-is s used xs rest h = ap (take (length xs)) h ∙ take_at xs rest (length xs) refl
