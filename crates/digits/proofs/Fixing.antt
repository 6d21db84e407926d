-- A number of a fixed number of digits is read as the number, and what is read is that number's digits.
use Prim.Native.Nat.{ℕ, zero, suc, ◌+◌, ◌-◌, ◌*◌, ◌/◌, ◌%◌, ◌^◌, ◌≤◌, ◌<◌}
use mathlib.Core.Path.{◌≡◌, refl, sym, ap, ◌∙◌}
use mathlib.Core.Bool.{Bool, true, false, cond, ◌&&◌}
use mathlib.Core.List.{List, [], ◌∷◌, ◌++◌, append-nil}
use mathlib.Core.Option.{some}
use mathlib.Core.Option as option
use native.Mathlib.Omega.{arith}
use native.Mathlib.Nat.{pow-zero, pow-suc, add-zero, zero-add, mul-le-mul_right}
use native.Mathlib.Nat.{mod-lt, mod-eq_of_lt, div-eq_of_lt, div-add-mod, div-lt_iff_lt-mul, mul-add-div, mul-add-mod_self_left}
use lib.Dec.{leb, ltb}
use lib.ListN.{length, take, length-append}
use lib.Seq.{append_snoc}
use borrow.Author.Tests.{lt-ltb, le-ltb, ltb-true, ltb-false, le-leb, lt-leb, leb-true}
use Rattle.digits.specs.Fixed.{glyph, fixed, digit_of, fixed_from, fixed_at}
use Rattle.digits.proofs.Judging.{both_left, both_right}

pub fixed-length : (base width n : ℕ) → length (fixed base width n) ≡ width
fixed-length base zero n = refl
fixed-length base (suc width) n =
    rw (length-append (fixed base width (n / base)) (glyph (n % base) ∷ []), fixed-length base width (n / base)) (omega arith)

-- a digit's character is read as the digit
pub digit-of-glyph : (d : ℕ) → d < 16 → digit_of (glyph d) ≡ d
unfolding digit_of
digit-of-glyph d h = go (ltb d 10) refl
  where
    go : (b : Bool) → ltb d 10 ≡ b
        → (let c : ℕ = cond b (48 + d) (87 + d) in cond (leb 48 c && leb c 57) (c - 48) (cond (leb 97 c && leb c 102) (c - 87) 16)) ≡ d
    go true e =
        let l : d < 10 = ltb-true d 10 e in
        rw (le-leb 48 (48 + d) (omega arith), le-leb (48 + d) 57 (omega arith)) (omega arith)
    go false e =
        let l : 10 ≤ d = ltb-false d 10 e in
        rw (le-leb 48 (87 + d) (omega arith), lt-leb (87 + d) 57 (omega arith), le-leb 97 (87 + d) (omega arith), le-leb (87 + d) 102 (omega arith)) (omega arith)

-- a character that is read as a digit is the digit's
pub glyph-of-digit : (c : ℕ) → digit_of c < 16 → glyph (digit_of c) ≡ c
unfolding digit_of
glyph-of-digit c = go (leb 48 c && leb c 57) (leb 97 c && leb c 102) refl refl
  where
    go : (a b : Bool) → (leb 48 c && leb c 57) ≡ a → (leb 97 c && leb c 102) ≡ b
        → (cond a (c - 48) (cond b (c - 87) 16)) < 16 → glyph (cond a (c - 48) (cond b (c - 87) 16)) ≡ c
    go true b e f h =
        let l = leb-true 48 c (both_left (leb 48 c) (leb c 57) e) in
        let u = leb-true c 57 (both_right (leb 48 c) (leb c 57) e) in
        rw (lt-ltb (c - 48) 10 (omega arith)) (omega arith)
    go false true e f h =
        let l = leb-true 97 c (both_left (leb 97 c) (leb c 102) f) in
        rw (le-ltb (c - 87) 10 (omega arith)) (omega arith)
    go false false e f h = absurd (omega arith)

module _ (base : ℕ) (two : 2 ≤ base) (most : base ≤ 16) where
  -- the digits of a number are read, then those behind them
  digits-read :
      (width more n : ℕ) (t : List ℕ) → n < base ^ width → fixed_from base (width + more) 0 (fixed base width n ++ t) ≡ fixed_from base more n t
  unfolding fixed_from
  digits-read zero more n t h =
      let z : n ≡ 0 = omega (arith, pow-zero base) in
      let e : 0 + more ≡ more = omega arith in
      rw (z, e)
  digits-read (suc width) more n t h =
      let e : suc width + more ≡ width + suc more = omega arith in
      let some : 0 < base = omega arith in
      let less : n < base ^ width * base = rw (pow-suc base width) at h in
      let digit : n % base < base = mod-lt n some in
      rw (e, append_snoc (fixed base width (n / base)) (glyph (n % base)) t)
      (digits-read width (suc more) (n / base) (glyph (n % base) ∷ t) ((div-lt_iff_lt-mul some).1 less)
      ∙ rw (digit-of-glyph (n % base) (omega arith), lt-ltb (n % base) base digit, div-add-mod n base))

  -- a number of as many digits as it is given
  pub fixed-read : (width n : ℕ) (s : List ℕ) → n < base ^ width → fixed_at base width (fixed base width n ++ s) ≡ some n
  unfolding fixed_from
  fixed-read width n s h =
      let e : width ≡ width + 0 = omega arith in
      ap (λ (k : ℕ). fixed_from base k 0 (fixed base width n ++ s)) e ∙ digits-read width 0 n s h

  -- the first digit that is read
  digit-first :
      (width value c : ℕ) (s : List ℕ) (n : ℕ) → fixed_from base (suc width) value (c ∷ s) ≡ some n
      → (digit_of c < base) × (fixed_from base width (base * value + digit_of c) s ≡ some n)
  unfolding fixed_from
  digit-first width value c s n = go (ltb (digit_of c) base) refl
    where
      go : (b : Bool) → ltb (digit_of c) base ≡ b → cond b (fixed_from base width (base * value + digit_of c) s) option.none ≡ some n
          → (digit_of c < base) × (fixed_from base width (base * value + digit_of c) s ≡ some n)
      go true l e = (ltb-true (digit_of c) base l, e)
      go false l e = absurd (let z : ◌≡◌ {A = ℕ} 0 1 = cc in omega arith)

  -- one digit behind others
  digit-last : (done value d : ℕ) → d < base → fixed base (suc done) (base * value + d) ≡ fixed base done value ++ (glyph d ∷ [])
  digit-last done value d h =
      let some : 0 < base = omega arith in
      let q : (base * value + d) / base ≡ value = mul-add-div some value d ∙ rw (div-eq_of_lt h, add-zero value) in
      let r : (base * value + d) % base ≡ d = mul-add-mod_self_left base value d ∙ mod-eq_of_lt h in
      rw (q, r)

  digit-fits : (done value d : ℕ) → d < base → value < base ^ done → base * value + d < base ^ suc done
  digit-fits done value d h l =
      let m : suc value * base ≤ base ^ done * base = mul-le-mul_right base l in
      rw (pow-suc base done) (omega arith)

  -- what is read behind `done` digits that make `value`
  digits-sound :
      (done width value : ℕ) (s : List ℕ) (n : ℕ) → value < base ^ done → fixed_from base width value s ≡ some n
      → (width ≤ length s) × (n < base ^ (done + width)) × (fixed base (done + width) n ≡ fixed base done value ++ take width s)
  unfolding fixed_from
  digits-sound done zero value s n h e =
      let q : value ≡ n = cc in
      rw (add-zero done, ← q) (omega arith, h, sym (append-nil (fixed base done value)))
  digits-sound done (suc width) value [] n h e = absurd (let z : ◌≡◌ {A = ℕ} 0 1 = cc in omega arith)
  digits-sound done (suc width) value (c ∷ s) n h e =
      let d = digit-first width value c s n e in
      let rest = digits-sound (suc done) width (base * value + digit_of c) s n (digit-fits done value (digit_of c) d.0 h) d.1 in
      let k : done + suc width ≡ suc done + width = omega arith in
      let g : glyph (digit_of c) ≡ c = glyph-of-digit c (omega arith) in
      rw k (omega arith, rest.1, rest.2 ∙ rw (digit-last done value (digit_of c) d.0, g, append_snoc (fixed base done value) c (take width s)))

  -- the characters that are read are those of the number
  pub fixed-sound :
      (width : ℕ) (s : List ℕ) (n : ℕ) → fixed_at base width s ≡ some n
      → (take width s ≡ fixed base width n) × (n < base ^ width) × (width ≤ length s)
  fixed-sound width s n e =
      let r = rw (zero-add width) at (digits-sound 0 width 0 s n (omega (arith, pow-zero base)) e) in
      (sym r.2, r.1, r.0)
