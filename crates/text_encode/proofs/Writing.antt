-- Laws of writing a text piece by piece, from the front, and of writing digits from the back.
use Prim.Native.Nat.{ℕ, suc, ◌+◌, ◌-◌, ◌*◌, ◌/◌, ◌%◌, ◌^◌, ◌≤◌, ◌<◌}
use mathlib.Core.Path.{◌≡◌, refl, sym, ap, ◌∙◌}
use mathlib.Core.Logic.{inl, inr}
use mathlib.Core.List.{List, [], ◌∷◌, ◌++◌}
use native.Mathlib.Omega.{arith}
use lib.Arith.{mod-mul}
use lib.ListN.{length, set, length-append}
use lib.Seq.{sets, set_comm, length-sets}
use borrow.Author.Tests.{lt-ltb, le-ltb}
use Rattle.wire.proofs.Buffers.{sets_more, joined}
use Rattle.digits.specs.Fixed.{glyph, fixed}
use Rattle.digits.specs.Decimal.{decimal_of, decimal}
use Rattle.digits.proofs.Fixing.{fixed-length}
use Rattle.digits.proofs.Decimals.{decimal-fixed}
use Rattle.text_encode.specs.declared.writer.Writer.{Writer}
use Rattle.text_encode.specs.Writer.{HasRoom, Wrote}

-- a piece that is written in parts: there is room for the first, then for the others, and all was written
pub room_first : {w : Writer} (xs ys : List ℕ) → HasRoom w (xs ++ ys) → HasRoom w xs
room_first {w} xs ys h = record { fits = omega (arith, h.fits, length-append xs ys) }

pub room_next : {w v : Writer} {xs : List ℕ} (ys : List ℕ) → Wrote w v xs → HasRoom w (xs ++ ys) → HasRoom v ys
room_next {w} {v} {xs} ys d h =
    record { fits = omega (arith, h.fits, length-append xs ys, d.end, ap length d.text ∙ length-sets w.text.now w.end xs) }

pub wrote_more : {w v u : Writer} {xs ys : List ℕ} → Wrote w v xs → Wrote v u ys → Wrote w u (xs ++ ys)
wrote_more {w} {v} {u} {xs} {ys} d e =
    record {
      same_area = e.same_area ∙ d.same_area;
      text = joined w.text.now w.end v.end xs ys d.end d.text e.text;
      end = omega (arith, d.end, e.end, length-append xs ys);
    }

pub wrote_none : (w : Writer) → Wrote w w []
wrote_none w = record { same_area = refl; text = refl; end = omega arith }

-- `whole` was to be written by w, and `rest` is still to be written by v
pub record Left (w : Writer) (whole : List ℕ) (v : Writer) (rest : List ℕ) : Type 0 where
  pub same_area : v.text.ghost_name ≡ w.text.ghost_name
  pub same : sets w.text.now w.end whole ≡ sets v.text.now v.end rest
  pub far : w.end + length whole ≡ v.end + length rest
  pub room : HasRoom v rest

pub left-all : (w : Writer) (whole : List ℕ) → HasRoom w whole → Left w whole w whole
left-all w whole h = record { same_area = refl; same = refl; far = refl; room = h }

module _ {w v : Writer} {whole rest : List ℕ} where
  -- there is room for the next piece
  pub left-room : (xs more : List ℕ) → Left w whole v rest → rest ≡ xs ++ more → HasRoom v xs
  left-room xs more l e = room_first xs more (rw e at l.room)

  -- the next piece is written
  pub left-next : {u : Writer} (xs more : List ℕ) → Left w whole v rest → rest ≡ xs ++ more → Wrote v u xs → Left w whole u more
  left-next {u} xs more l e d =
      record {
        same_area = d.same_area ∙ l.same_area;
        same = l.same ∙ ap (sets v.text.now v.end) e ∙ sym (ap (λ (t : List ℕ). sets t u.end more) d.text ∙ sets_more v.text.now xs more v.end u.end d.end);
        far = omega (arith, l.far, ap length e, length-append xs more, d.end);
        room = room_next more d (rw e at l.room);
      }

  -- nothing is left
  pub left-none : Left w whole v rest → rest ≡ [] → Wrote w v whole
  left-none l e =
      record {
        same_area = l.same_area;
        text = sym (l.same ∙ ap (sets v.text.now v.end) e);
        end = omega (arith, l.far, ap length e);
      }

-- a character behind a piece may be written before it
set-behind :
    (l : List ℕ) (at k x : ℕ) (xs : List ℕ) → at + length xs ≤ k → set (sets l at xs) k x ≡ sets (set l k x) at xs
set-behind l at k x [] h = refl
set-behind l at k x (y ∷ ys) h =
    set-behind (set l at y) (suc at) k x ys (omega arith) ∙ ap (λ (t : List ℕ). sets t (suc at) ys) (set_comm l at k y x (λ e. omega arith))

-- the last of i digits, written before the others
last-first :
    (text : List ℕ) (at base i n : ℕ) → sets text at (fixed base (suc i) n) ≡ sets (set text (at + i) (glyph (n % base))) at (fixed base i (n / base))
last-first text at base i n =
    let k : length (fixed base i (n / base)) ≡ i = fixed-length base i (n / base) in
    sym (sets_more text (fixed base i (n / base)) (glyph (n % base) ∷ []) at (at + i) (omega arith))
    ∙ set-behind text at (at + i) (glyph (n % base)) (fixed base i (n / base)) (omega arith)

pub digit-first :
    (text : List ℕ) (at base i n : ℕ) {d : ℕ} → 0 < i → d ≡ glyph (n % base)
    → sets text at (fixed base i n) ≡ sets (set text (at + (i - 1)) d) at (fixed base (i - 1) (n / base))
digit-first text at base i n h e =
    let k : i ≡ suc (i - 1) = omega arith in
    ap (λ (w : ℕ). sets text at (fixed base w n)) k ∙ last-first text at base (i - 1) n
    ∙ ap (λ (x : ℕ). sets (set text (at + (i - 1)) x) at (fixed base (i - 1) (n / base))) (sym e)

-- the last two in base 10
pub digits-first :
    (text : List ℕ) (at i n : ℕ) {d e : ℕ} → 1 < i → d ≡ glyph (n % 100 % 10) → e ≡ glyph (n % 100 / 10)
    → sets text at (fixed 10 i n) ≡ sets (set (set text (at + (i - 1)) d) (at + (i - 2)) e) at (fixed 10 (i - 2) (n / 100))
digits-first text at i n {d} h is-d is-e =
    let pair : n % 100 ≡ (n / 10 % 10) * 10 + n % 10 = mod-mul n {m = 10} {c = 10} (omega arith) (omega arith) in
    let a : n % 100 % 10 ≡ n % 10 = omega arith in
    let b : n % 100 / 10 ≡ n / 10 % 10 = omega arith in
    let q : n / 10 / 10 ≡ n / 100 = omega arith in
    let k : i - 1 - 1 ≡ i - 2 = omega arith in
    digit-first text at 10 i n (omega arith) (is-d ∙ ap glyph a)
    ∙ rw (k, q) at (digit-first (set text (at + (i - 1)) d) at 10 (i - 1) (n / 10) (omega arith) (is-e ∙ ap glyph b))

-- the only one
pub digit-only : (text : List ℕ) (at i n : ℕ) {d : ℕ} → i ≡ 1 → d ≡ glyph (n % 10) → sets text at (fixed 10 i n) ≡ set text at d
digit-only text at i n h e = rw h (ap (set text at) (sym e))

pub digit-none : (text : List ℕ) (at base i n : ℕ) → i ≤ 0 → sets text at (fixed base i n) ≡ text
digit-none text at base i n h = let z : i ≡ 0 = omega arith in rw z

-- numbers of one, two and three digits
pub one-digit : (n : ℕ) → n < 10 → decimal n ≡ (48 + n) ∷ []
unfolding decimal_of
one-digit n h = rw (lt-ltb n 10 h)

pub two_digits : (n : ℕ) → 10 ≤ n → n < 100 → decimal n ≡ (48 + n / 10) ∷ (48 + n % 10) ∷ []
unfolding decimal_of
two_digits n h g = rw (le-ltb n 10 h, lt-ltb (n / 10) 10 (omega arith))

pub three-digits : (n : ℕ) → 100 ≤ n → n < 1000 → decimal n ≡ (48 + n / 100) ∷ (48 + n / 10 % 10) ∷ (48 + n % 10) ∷ []
unfolding decimal_of
three-digits n h g =
    let e : n / 10 / 10 ≡ n / 100 = omega arith in
    rw (le-ltb n 10 (omega arith), le-ltb (n / 10) 10 (omega arith), lt-ltb (n / 10 / 10) 10 (omega arith), e)

-- a byte in octal
pub octal : (b : ℕ) → b < 256 → (48 + b / 64) ∷ (48 + b / 8 % 8) ∷ (48 + b % 8) ∷ [] ≡ fixed 8 3 b
octal b h =
    let e : b / 8 / 8 % 8 ≡ b / 64 = omega arith in
    rw (e, lt-ltb (b / 64) 10 (omega arith), lt-ltb (b / 8 % 8) 10 (omega arith), lt-ltb (b % 8) 10 (omega arith))

-- how many decimal digits a number has
abbrev pub Counted : ℕ → ℕ → Type 0
Counted n k = (k ≡ length (decimal n)) × (decimal n ≡ fixed 10 k n) × (k ≤ 10)

pub counted-one : (n : ℕ) → n < 10 → Counted n 1
counted-one n h =
    let e = decimal-fixed 1 n (omega arith) (omega arith) (omega arith) (inl refl) in
    (sym (ap length e), e, omega arith)

pub counted : (k n : ℕ) → 1 ≤ k → k ≤ 10 → 10 ^ (k - 1) ≤ n → n < 10 ^ k → Counted n k
counted k n some few low high =
    let e = decimal-fixed k n (omega arith) some high (inr low) in
    (sym (ap length e ∙ fixed-length 10 k n), e, few)
