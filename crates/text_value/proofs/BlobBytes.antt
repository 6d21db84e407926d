-- Laws of a blob's byte, with the space before it.
use Prim.Native.Nat.{ℕ, suc, ◌+◌, ◌-◌, ◌≤◌}
use mathlib.Core.Path.{◌≡◌, refl, sym, ap, ◌∙◌}
use mathlib.Core.Bool.{Bool, true, false, cond}
use mathlib.Core.List.{List}
use native.Mathlib.Omega.{arith}
use native.Mathlib.Numerals.{add-one}
use native.Mathlib.Nat.{add-zero}
use lib.Dec.{eqb}
use lib.ListN.{length, get_or, drop}
use lib.Seq.{drop-drop}
use borrow.Author.Tests.{eqb-true}
use Rattle.digits.specs.Read.{Read, got, wrong, and_read}
use Rattle.digits.specs.Decimal.{decimal_at}
use Rattle.text.specs.Read.{spaced_byte, byte_at}
use Rattle.std.specs.Prelude as std
use Rattle.std.specs.Prelude.{Some, None}
use Rattle.text_value.specs.Answers.{gap_size, Within, AtMost}
use Rattle.text_value.proofs.Decimals.{first_char, inside}

-- GAPS
-- what was read, with `gap` characters before it
abbrev pub moved_by : {A : Type 0} → ℕ → Read A → Read A
moved_by gap r = and_read r (λ a count. got a (count + gap))

-- no character more
pub moved_none : {A : Type 0} (r : Read A) → moved_by 0 r ≡ r
moved_none (got a count) = rw add-zero
moved_none wrong = refl

-- one character more
pub moved-one : {A : Type 0} (r : Read A) → moved_by 1 r ≡ and_read r (λ a count. got a (suc count))
moved-one (got a count) = rw add-one
moved-one wrong = refl

moved-bounds : (gap at end most : ℕ) (r : Read ℕ) → Within (at + gap) end r → AtMost most r → Within at end (moved_by gap r) × AtMost most (moved_by gap r)
moved-bounds gap at end most (got b count) w m = ((omega arith, omega arith), m)
moved-bounds gap at end most wrong w m = (tt, tt)

-- a gap is at most a space, and that stands in the text
pub gap-inside : (first : Bool) (s : List ℕ) (at gap : ℕ) → gap_size first (get_or s at 0) ≡ Some gap → (gap ≤ 1) × (gap ≤ length s - at)
gap-inside true s at gap e = let z : 0 ≡ gap = cc in (omega arith, omega arith)
gap-inside false s at gap e = go (eqb (get_or s at 0) 32) refl e
  where
    go : (b : Bool) → eqb (get_or s at 0) 32 ≡ b → cond b (Some 1) None ≡ Some gap → (gap ≤ 1) × (gap ≤ length s - at)
    go true q k = let z : 1 ≡ gap = cc in (omega arith, omega (arith, inside s at 31 (eqb-true (get_or s at 0) 32 q)))
    go false q k = absurd (cc)

-- A BLOB'S BYTE BEHIND ITS GAP
module _ (s : List ℕ) (at gap : ℕ) where
  abbrev byte-by : Bool → Bool → Read ℕ
  byte-by first space = cond first (decimal_at 255 (drop at s)) (cond space (and_read (decimal_at 255 (drop 1 (drop at s))) spaced_byte) wrong)

  byte-is : (first : Bool) → byte_at first (drop at s) ≡ byte-by first (eqb (get_or s at 0) 32)
  unfolding byte_at
  byte-is first = rw first_char

  gapped : (first space : Bool) → cond first (Some 0) (cond space (Some 1) None) ≡ Some gap → moved_by gap (decimal_at 255 (drop (at + gap) s)) ≡ byte-by first space
  gapped true space e = let z : gap ≡ 0 = cc in rw (z, add-zero at) (moved_none (decimal_at 255 (drop at s)))
  gapped false true e = let z : gap ≡ 1 = cc in rw (z, drop-drop) (moved-one (decimal_at 255 (drop (at + 1) s)))
  gapped false false e = absurd (cc)

  -- r is what stands behind the gap
  pub byte-gap : (first : Bool) (r x : Read ℕ) → gap_size first (get_or s at 0) ≡ Some gap → x ≡ moved_by gap r
      → (r ≡ decimal_at 255 (drop (at + gap) s)) × Within (at + gap) (length s) r × AtMost 255 r
      → (x ≡ byte_at first (drop at s)) × Within at (length s) x × AtMost 255 x
  byte-gap first r x e k g =
      let w = moved-bounds gap at (length s) 255 r g.1 g.2 in
      (k ∙ ap (moved_by gap) g.0 ∙ gapped first (eqb (get_or s at 0) 32) e ∙ sym (byte-is first), rw k w.0, rw k w.1)

-- the gap is missing
pub byte-none : (s : List ℕ) (at : ℕ) (first : Bool) → gap_size first (get_or s at 0) ≡ None → wrong ≡ byte_at first (drop at s)
unfolding byte_at
byte-none s at true e = absurd (cc)
byte-none s at false e = rw first_char (go (eqb (get_or s at 0) 32) e)
  where
    go : (b : Bool) → cond {A = std.Option ℕ} b (Some 1) None ≡ None → wrong ≡ cond b (and_read (decimal_at 255 (drop 1 (drop at s))) spaced_byte) wrong
    go true k = absurd (cc)
    go false k = refl
