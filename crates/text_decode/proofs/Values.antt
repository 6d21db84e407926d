-- Values with nothing in the store: their rows, as the code writes them.
use Prim.Native.Nat.{ℕ, ◌+◌, ◌*◌, ◌^◌}
use mathlib.Core.Path.{◌≡◌, sym, ap, ◌∙◌}
use mathlib.Core.Bool.{true, cond}
use mathlib.Core.List.{List}
use mathlib.Core.Option.{some}
use native.Mathlib.Omega.{arith}
use lib.Dec.{eqb}
use lib.ListN.{get_or, drop}
use lib.Seq.{sets}
use Rattle.digits.specs.Read.{Read, got, and_read}
use Rattle.digits.specs.Fixed.{fixed_at}
use Rattle.list.specs.Tree.{Value, int, float}
use Rattle.list.specs.Rows.{value_row}
use Rattle.list.specs.RowBytes.{packed}
use Rattle.text.specs.Read.{Halves, float_value}
use Rattle.text_decode.specs.declared.known.Known.{Known}
use Rattle.text_decode.specs.declared.element.Cursor.{Cursor}
use Rattle.text_decode.specs.Pieces.{is_got, size_read, read_or, KnownAs, known_high, cursor, float_from, FixedHere, FixedPut}
use Rattle.text_decode.proofs.Knowns.{got_of, got-first, known_is, same_some, FloatKnown, high-known}

-- the row of a value that was read
pub fixed-put : {p : Read Value} (v : Value) (k : ℕ) {x y : Cursor} {rows rows' : List ℕ} → p ≡ got v k → y ≡ cursor (x.pos + k) (x.row + 12) x.used
    → rows' ≡ sets rows x.row (packed (value_row x.used v)) → FixedPut p x rows y rows'
fixed-put v k {x} {y} {rows} e to h = record {
  to = to ∙ sym (ap (λ (q : Read Value). cursor (x.pos + size_read q) (x.row + 12) x.used) e);
  holds = h ∙ sym (ap (λ (q : Read Value). sets rows x.row (packed (value_row x.used (read_or (int 0) q)))) e);
}

pub fixed_same : {p q : Read Value} {x y : Cursor} {rows rows' : List ℕ} → p ≡ q → FixedPut q x rows y rows' → FixedPut p x rows y rows'
fixed_same e w = rw e w

-- the row of a value of 32 bits, which the code read as r
pub word-put : (kind : ℕ → Value) (p : Read ℕ) {x y : Cursor} {r : Known} {rows rows' : List ℕ}
    → is_got (and_read p (λ bits count. got (kind bits) count)) ≡ true → KnownAs p x.pos r → y ≡ cursor r.end (x.row + 12) x.used
    → rows' ≡ sets rows x.row (packed (value_row x.used (kind r.bits)))
    → FixedPut (and_read p (λ bits count. got (kind bits) count)) x rows y rows'
word-put kind p {x} {y} {r} {rows} there known to h =
    let g = got_of p (got-first p _ there) in
    let w = known_is known g.is g.count g.same in
    fixed-put (kind g.is) g.count (ap (λ (q : Read ℕ). and_read q (λ bits count. got (kind bits) count)) g.same)
    (to ∙ ap (λ (e : ℕ). cursor e (x.row + 12) x.used) w.1)
    (h ∙ ap (λ (n : ℕ). sets rows x.row (packed (value_row x.used (kind n)))) w.0)

-- the row of a float, whose low half and high half the code read
pub float-put : {sign : ℕ} {text : List ℕ} {x : Cursor} (f : FloatKnown sign text (x.pos + sign)) {low : ℕ} {r : Known} {y : Cursor} {rows rows' : List ℕ}
    → KnownAs (known_high sign (drop (x.pos + sign) text)) (x.pos + sign) r → some low ≡ fixed_at 16 8 (drop (x.pos + sign + 9) text)
    → y ≡ cursor r.end (x.row + 12) x.used → rows' ≡ sets rows x.row (packed (value_row x.used (float low r.bits)))
    → FixedPut (float_from sign text x) x rows y rows'
float-put {sign} {text} {x} f {low} {r} {y} {rows} high low-is to h =
    let n = sign * 2 ^ 31 + (cond (eqb (get_or text (x.pos + sign + 2) 0) 49) f.scale 0 * 2 ^ 20 + f.fraction) in
    let w = known_is high n (18 + f.k) (high-known sign text (x.pos + sign) f) in
    let l : low ≡ f.low = same_some (low-is ∙ f.low-is) in
    let e : r.end ≡ x.pos + (sign + 18 + f.k) = omega (arith, w.1) in
    fixed-put (float f.low n) (sign + 18 + f.k) (ap (λ (q : Read Halves). and_read q float_value) f.whole)
    (to ∙ ap (λ (k : ℕ). cursor k (x.row + 12) x.used) e)
    (h ∙ ap (λ (k : ℕ). sets rows x.row (packed (value_row x.used (float k r.bits)))) l
    ∙ ap (λ (k : ℕ). sets rows x.row (packed (value_row x.used (float f.low k)))) w.0)

-- the same reading in other words
pub fixed-here : {p q : Read Value} {x : Cursor} {rows : List ℕ} → p ≡ q → FixedHere p x rows → FixedHere q x rows
fixed-here e h = record { there = rw e at h.there; row = h.row }
