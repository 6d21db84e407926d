-- A float's text is read as the float, and what is read as a float is its text.
use Prim.Native.Nat.{ℕ, zero, suc, ◌+◌, ◌-◌, ◌*◌, ◌^◌, ◌≤◌, ◌<◌}
use mathlib.Core.Path.{◌≡◌, refl, sym, ap, ◌∙◌}
use mathlib.Core.Bool.{Bool, true, false, cond, ◌&&◌}
use mathlib.Core.List.{List, [], ◌∷◌, ◌++◌, append_assoc}
use mathlib.Core.Option.{Option, some}
use mathlib.Core.Option as option
use native.Mathlib.Omega.{arith}
use lib.Dec.{eqb, leb}
use lib.ListN.{length, take, drop, get_or, length-append, length-drop}
use lib.Seq.{length-take-le, take-add, drop-drop, drop-cons, drop_at, get_or-append-add, drop-append-add}
use borrow.Author.Tests.{leb-true, leb-false, le-leb, lt-leb, eq-eqb, ne_eqb, eqb-true, eqb-false, not-true}
use Rattle.digits.specs.Read.{Read, got, and_read}
use Rattle.digits.specs.Decimal.{decimal, is_decimal, decimal_at}
use Rattle.digits.specs.Fixed.{fixed, fixed_at}
use Rattle.digits.proofs.Judging.{Judged, judged-got, judged-test, judged-read, judged-digits, both_left, both_right}
use Rattle.digits.proofs.Decimals.{decimal-read, decimal-sound}
use Rattle.digits.proofs.Fixing.{fixed-length, fixed-read, fixed-sound}
use Rattle.list.specs.Strings.{negative}
use Rattle.text.specs.Text.{exponent_of, fraction_of, scale_of, lead_of}
use Rattle.text.specs.Form.{is_finite}
use Rattle.text.specs.Read.{Halves, halves, minus_scale, plus_scale, scale_at, small_scale, exponent_from, high_of, halves_of, float_from, is_float_frame, float_at}
use Rattle.text.proofs.Fronts.{Front, front-cons}

-- a scale's text behind its `p`
abbrev pub scale_tail : ℕ → List ℕ
scale_tail bits = cond (leb 1023 bits) (43 ∷ decimal (bits - 1023)) (45 ∷ decimal (1023 - bits))

-- a float's text behind its sign
abbrev pub float_tail : ℕ → ℕ → List ℕ
float_tail low high =
    48 ∷ 120 ∷ lead_of high ∷ 46 ∷ (fixed 16 5 (fraction_of high) ++ (fixed 16 8 low ++ (112 ∷ scale_tail (scale_of low high))))

-- above or below the scale 0
by-scale : (P : Type 0) (bits : ℕ) → (leb 1023 bits ≡ true → 1023 ≤ bits → P) → (leb 1023 bits ≡ false → bits < 1023 → P) → P
by-scale P bits plus minus = go (leb 1023 bits) refl
  where
    go : (b : Bool) → leb 1023 bits ≡ b → P
    go true e = plus e (leb-true 1023 bits e)
    go false e = minus e (leb-false 1023 bits e)

minus_is : (m count : ℕ) → 1 ≤ m → minus_scale m count ≡ got (1023 - m) (suc count)
minus_is zero count h = absurd (omega arith)
minus_is (suc m) count h = refl

scale-read :
    (bits : ℕ) (s : List ℕ) → 1 ≤ bits → bits ≤ 2046 → is_decimal (get_or s 0 0) ≡ false → scale_at (scale_tail bits ++ s) ≡ got bits (length (scale_tail bits))
unfolding scale_at
scale-read bits s l h d =
    by-scale _ bits
    (λ e f. let back : 1023 + (bits - 1023) ≡ bits = omega arith in
    rw e (ap (λ (r : Read ℕ). and_read r plus_scale) (decimal-read 1023 (bits - 1023) s (omega arith) (omega arith) (omega arith) d) ∙ rw back))
    (λ e f. let back : 1023 - (1023 - bits) ≡ bits = omega arith in
    rw e (ap (λ (r : Read ℕ). and_read r minus_scale) (decimal-read 1022 (1023 - bits) s (omega arith) (omega arith) (omega arith) d)
    ∙ (minus_is (1023 - bits) (length (decimal (1023 - bits))) (omega arith) ∙ rw back)))

-- the lead and the scale say the exponent
exponent-read : (low high : ℕ) → exponent_from (lead_of high) (fraction_of high) low (scale_of low high) ≡ some (exponent_of high)
exponent-read low high = go (eqb (exponent_of high) 0) refl
  where
    small : ℕ
    small = small_scale (fraction_of high) low

    go : (b : Bool) → eqb (exponent_of high) 0 ≡ b → exponent_from (cond b 48 49) (fraction_of high) low (cond b small (exponent_of high)) ≡ some (exponent_of high)
    go true e = rw (eqb-true (exponent_of high) 0 e, eq-eqb small small refl)
    go false e = refl

scale-bounds : (low high : ℕ) → exponent_of high ≤ 2046 → (1 ≤ scale_of low high) × (scale_of low high ≤ 2046)
scale-bounds low high h = go (eqb (exponent_of high) 0) (eqb low 0 && eqb (fraction_of high) 0) refl
  where
    go : (a b : Bool) → eqb (exponent_of high) 0 ≡ a → (1 ≤ cond a (cond b 1023 1) (exponent_of high)) × (cond a (cond b 1023 1) (exponent_of high) ≤ 2046)
    go true true e = (omega arith, omega arith)
    go true false e = (omega arith, omega arith)
    go false b e = let z = eqb-false (exponent_of high) 0 e in (omega arith, h)

-- the parts of a float's text behind its sign
float-parts :
    (sign lead fraction low scale count bits : ℕ) (a b z : List ℕ) → length a ≡ 5 → length b ≡ 8
    → fixed_at 16 5 (a ++ (b ++ (112 ∷ z))) ≡ some fraction → fixed_at 16 8 (b ++ (112 ∷ z)) ≡ some low → scale_at z ≡ got scale count
    → exponent_from lead fraction low scale ≡ some bits
    → float_at sign (48 ∷ 120 ∷ lead ∷ 46 ∷ (a ++ (b ++ (112 ∷ z)))) ≡ got (halves low (sign * 2 ^ 31 + (bits * 2 ^ 20 + fraction))) (sign + 18 + count)
unfolding float_at is_float_frame
float-parts sign lead fraction low scale count bits a b z la lb ea eb ez ee =
    let n : 13 ≡ length a + (length b + 0) = omega arith in
    let p : get_or (a ++ (b ++ (112 ∷ z))) 13 0 ≡ 112 =
    ap (λ (i : ℕ). get_or (a ++ (b ++ (112 ∷ z))) i 0) n ∙ (get_or-append-add a (b ++ (112 ∷ z)) (length b + 0) 0 ∙ get_or-append-add b (112 ∷ z) 0 0)
    in
    let k : 14 ≡ length a + (length b + 1) = omega arith in
    let m : drop 14 (a ++ (b ++ (112 ∷ z))) ≡ z =
    ap (λ (i : ℕ). drop i (a ++ (b ++ (112 ∷ z)))) k ∙ (drop-append-add a (b ++ (112 ∷ z)) (length b + 1) ∙ drop-append-add b (112 ∷ z) 1)
    in
    rw (p, ea, drop_at a (b ++ (112 ∷ z)) 5 la, eb, m, ez, ee)

-- 1 for a minus
abbrev pub sign_of : ℕ → ℕ
sign_of high = cond (negative high) 1 0

-- the parts of a number's 32 bits make it
high_is : (high : ℕ) → high < 2 ^ 32 → sign_of high * 2 ^ 31 + (exponent_of high * 2 ^ 20 + fraction_of high) ≡ high
high_is high h = go (negative high) refl
  where
    go : (b : Bool) → negative high ≡ b → cond b 1 0 * 2 ^ 31 + (exponent_of high * 2 ^ 20 + fraction_of high) ≡ high
    go true e = let l = leb-true 2147483648 high e in omega arith
    go false e = let l = leb-false 2147483648 high e in omega arith

finite-bound : (high : ℕ) → is_finite high ≡ true → exponent_of high ≤ 2046
unfolding is_finite
finite-bound high h =
    let z = eqb-false (exponent_of high) (2 ^ 11 - 1) (not-true (eqb (exponent_of high) (2 ^ 11 - 1)) h) in
    omega arith

tail-length : (low high : ℕ) → length (float_tail low high) ≡ 18 + length (scale_tail (scale_of low high))
tail-length low high =
    over (fixed 16 5 (fraction_of high)) (fixed 16 8 low) (scale_tail (scale_of low high)) (fixed-length 16 5 (fraction_of high)) (fixed-length 16 8 low)
  where
    over : (a b z : List ℕ) → length a ≡ 5 → length b ≡ 8 → length (48 ∷ 120 ∷ lead_of high ∷ 46 ∷ (a ++ (b ++ (112 ∷ z)))) ≡ 18 + length z
    over a b z la lb = rw (length-append a (b ++ (112 ∷ z)), length-append b (112 ∷ z), la, lb) (omega arith)

tail-append :
    (low high : ℕ) (s : List ℕ)
    → float_tail low high ++ s
    ≡ 48 ∷ 120 ∷ lead_of high ∷ 46 ∷ (fixed 16 5 (fraction_of high) ++ (fixed 16 8 low ++ (112 ∷ (scale_tail (scale_of low high) ++ s))))
tail-append low high s = over (fixed 16 5 (fraction_of high)) (fixed 16 8 low) (scale_tail (scale_of low high))
  where
    over : (a b z : List ℕ)
        → (48 ∷ 120 ∷ lead_of high ∷ 46 ∷ (a ++ (b ++ (112 ∷ z)))) ++ s ≡ 48 ∷ 120 ∷ lead_of high ∷ 46 ∷ (a ++ (b ++ (112 ∷ (z ++ s))))
    over a b z = rw (append_assoc a (b ++ (112 ∷ z)) s, append_assoc b (112 ∷ z) s)

tail-read :
    (low high : ℕ) (s : List ℕ) → low < 2 ^ 32 → high < 2 ^ 32 → is_finite high ≡ true → is_decimal (get_or s 0 0) ≡ false
    → float_at (sign_of high) (float_tail low high ++ s) ≡ got (halves low high) (sign_of high + length (float_tail low high))
tail-read low high s hl hh f d =
    let top = finite-bound high f in
    let b = scale-bounds low high top in
    let scale = scale_of low high in
    let z = scale_tail scale ++ s in
    let n : sign_of high + 18 + length (scale_tail scale) ≡ sign_of high + length (float_tail low high) = omega (arith, tail-length low high) in
    ap (λ (t : List ℕ). float_at (sign_of high) t) (tail-append low high s)
    ∙ (float-parts (sign_of high) (lead_of high) (fraction_of high) low scale (length (scale_tail scale)) (exponent_of high) (fixed 16 5 (fraction_of high)) (fixed 16 8 low) z
    (fixed-length 16 5 (fraction_of high)) (fixed-length 16 8 low)
    (fixed-read 16 (omega arith) (omega arith) 5 (fraction_of high) (fixed 16 8 low ++ (112 ∷ z)) (omega arith))
    (fixed-read 16 (omega arith) (omega arith) 8 low (112 ∷ z) (omega arith))
    (scale-read scale s b.0 b.1 d) (exponent-read low high)
    ∙ rw (high_is high hh, n))

-- a float's text behind its sign, with no digit behind it, is read as the float
pub float_read :
    (sign low high n : ℕ) (s : List ℕ) → sign ≡ sign_of high → n ≡ sign + length (float_tail low high) → low < 2 ^ 32 → high < 2 ^ 32
    → is_finite high ≡ true → is_decimal (get_or s 0 0) ≡ false → float_at sign (float_tail low high ++ s) ≡ got (halves low high) n
float_read sign low high n s e q hl hh f d = rw (q, e) (tail-read low high s hl hh f d)

-- what is read as a scale
abbrev ScaleFront : List ℕ → ℕ → ℕ → Type 0
ScaleFront s bits count = (1 ≤ bits) × (bits ≤ 2046) × Front s (scale_tail bits) count

plus-sound : (s : List ℕ) (e count : ℕ) → decimal_at 1023 s ≡ got e count → ScaleFront (43 ∷ s) (1023 + e) (suc count)
plus-sound s e count q =
    let f = decimal-sound 1023 s e count (omega arith) (omega arith) q in
    let back : 1023 + e - 1023 ≡ e = omega arith in
    (omega arith, omega arith, rw (le-leb 1023 (1023 + e) (omega arith), back) (front-cons 43 s (decimal e) count (f.1, f.2, f.3)))

minus-sound : (s : List ℕ) (e count : ℕ) → decimal_at 1022 s ≡ got e count → Judged (ScaleFront (45 ∷ s)) (minus_scale e count)
minus-sound s zero count q = tt
minus-sound s (suc e) count q =
    let f = decimal-sound 1022 s (suc e) count (omega arith) (omega arith) q in
    let back : 1023 - (1023 - suc e) ≡ suc e = omega arith in
    (omega arith, omega arith, rw (lt-leb 1023 (1023 - suc e) (omega arith), back) (front-cons 45 s (decimal (suc e)) count (f.1, f.2, f.3)))

scale-sound : (s : List ℕ) → Judged (ScaleFront s) (scale_at s)
unfolding scale_at
scale-sound [] = tt
scale-sound (c ∷ s) =
    judged-test (ScaleFront (c ∷ s)) (eqb c 43) _ _
    (λ e. rw (eqb-true c 43 e) (judged-read (ScaleFront (43 ∷ s)) (decimal_at 1023 s) plus_scale (plus-sound s)))
    (λ e. judged-test (ScaleFront (c ∷ s)) (eqb c 45) _ _
    (λ f. rw (eqb-true c 45 f) (judged-read (ScaleFront (45 ∷ s)) (decimal_at 1022 s) minus_scale (minus-sound s)))
    (λ f. tt))

-- the lead and the scale that say an exponent are those that are written for it
exponent-sound :
    (lead fraction low scale bits : ℕ) → 1 ≤ scale → scale ≤ 2046 → exponent_from lead fraction low scale ≡ some bits
    → (bits ≤ 2046) × (lead ≡ cond (eqb bits 0) 48 49) × (scale ≡ cond (eqb bits 0) (small_scale fraction low) bits)
exponent-sound lead fraction low scale bits l h = go (eqb lead 49) (eqb lead 48 && eqb scale (small_scale fraction low)) refl refl
  where
    go : (a b : Bool) → eqb lead 49 ≡ a → (eqb lead 48 && eqb scale (small_scale fraction low)) ≡ b
        → cond a (some scale) (cond b (some 0) option.none) ≡ some bits
        → (bits ≤ 2046) × (lead ≡ cond (eqb bits 0) 48 49) × (scale ≡ cond (eqb bits 0) (small_scale fraction low) bits)
    go true b e f q =
        let same : scale ≡ bits = cc in
        rw (ne_eqb bits 0 (λ z. omega arith)) (omega arith, eqb-true lead 49 e, same)
    go false true e f q =
        let z : bits ≡ 0 = cc in
        let x = eqb-true lead 48 (both_left (eqb lead 48) (eqb scale (small_scale fraction low)) f) in
        let y = eqb-true scale (small_scale fraction low) (both_right (eqb lead 48) (eqb scale (small_scale fraction low)) f) in
        rw z (omega arith, x, y)
    go false false e f q = absurd (let z : ◌≡◌ {A = ℕ} 0 1 = cc in omega arith)

-- the parts of a text of 18 characters and more
take-parts :
    (t : List ℕ) (k : ℕ) → 18 ≤ length t
    → take (18 + k) t
    ≡ get_or t 0 0 ∷ get_or t 1 0 ∷ get_or t 2 0 ∷ get_or t 3 0 ∷ (take 5 (drop 4 t) ++ (take 8 (drop 9 t) ++ (get_or t 17 0 ∷ take k (drop 18 t))))
take-parts [] k h = absurd (omega arith)
take-parts (c₀ ∷ []) k h = absurd (omega arith)
take-parts (c₀ ∷ c₁ ∷ []) k h = absurd (omega arith)
take-parts (c₀ ∷ c₁ ∷ c₂ ∷ []) k h = absurd (omega arith)
take-parts (c₀ ∷ c₁ ∷ c₂ ∷ c₃ ∷ t) k h =
    let n : 18 + k ≡ suc (suc (suc (suc (5 + (8 + suc k))))) = omega arith in
    rw (n, take-add 5 (8 + suc k) t, take-add 8 (suc k) (drop 5 t), drop-drop 8 5 t, drop-cons t 13 0 (omega arith))

-- the parts of bits that were put together
record Parts (sign bits fraction high : ℕ) : Type 0 where
  fits : high < 2 ^ 32
  exponent : exponent_of high ≡ bits
  rest : fraction_of high ≡ fraction
  minus : negative high ≡ eqb sign 1

high_parts : (sign bits fraction : ℕ) → sign ≤ 1 → bits ≤ 2046 → fraction < 2 ^ 20 → Parts sign bits fraction (sign * 2 ^ 31 + (bits * 2 ^ 20 + fraction))
high_parts zero bits fraction s h l =
    record {
      fits = omega arith;
      exponent = omega arith;
      rest = omega arith;
      minus = lt-leb 2147483648 (0 * 2 ^ 31 + (bits * 2 ^ 20 + fraction)) (omega arith);
    }
high_parts (suc zero) bits fraction s h l =
    record {
      fits = omega arith;
      exponent = omega arith;
      rest = omega arith;
      minus = le-leb 2147483648 (1 * 2 ^ 31 + (bits * 2 ^ 20 + fraction)) (omega arith);
    }
high_parts (suc (suc sign)) bits fraction s h l = absurd (omega arith)

-- what is read as a float behind its sign; `count` has the sign's character too
pub record FloatFront (sign : ℕ) (t : List ℕ) (h : Halves) (count : ℕ) : Type 0 where
  pub low_fits : h.low < 2 ^ 32
  pub high_fits : h.high < 2 ^ 32
  pub finite : is_finite h.high ≡ true
  pub minus : negative h.high ≡ eqb sign 1
  pub size : ℕ
  pub sum : count ≡ sign + size
  pub front : Front t (float_tail h.low h.high) size

scale-some : (bits : ℕ) → 1 ≤ length (scale_tail bits)
scale-some bits = by-scale _ bits (λ e l. rw e (omega arith)) (λ e l. rw e (omega arith))

tail-is :
    (low high bits fraction lead scale : ℕ) → exponent_of high ≡ bits → fraction_of high ≡ fraction → lead ≡ cond (eqb bits 0) 48 49
    → scale ≡ cond (eqb bits 0) (small_scale fraction low) bits
    → 48 ∷ 120 ∷ lead ∷ 46 ∷ (fixed 16 5 fraction ++ (fixed 16 8 low ++ (112 ∷ scale_tail scale))) ≡ float_tail low high
tail-is low high bits fraction lead scale e f l s = rw (l, s, e, f)

finite-is : (high bits : ℕ) → exponent_of high ≡ bits → bits ≤ 2046 → is_finite high ≡ true
unfolding is_finite
finite-is high bits e h = rw (e, ne_eqb bits 2047 (λ z. omega arith))

module _ (sign : ℕ) (t : List ℕ) (one : sign ≤ 1) (x : get_or t 1 0 ≡ 120) where
  parts-sound :
      (fraction low scale k : ℕ) → is_float_frame t ≡ true → fixed_at 16 5 (drop 4 t) ≡ some fraction → fixed_at 16 8 (drop 9 t) ≡ some low
      → ScaleFront (drop 18 t) scale k
      → take (18 + k) t ≡ 48 ∷ 120 ∷ get_or t 2 0 ∷ 46 ∷ (fixed 16 5 fraction ++ (fixed 16 8 low ++ (112 ∷ scale_tail scale)))
  unfolding is_float_frame
  parts-sound fraction low scale k frame a b c =
      let behind = both_right (eqb (get_or t 0 0) 48) (eqb (get_or t 3 0) 46 && eqb (get_or t 17 0) 112) frame in
      let first = eqb-true (get_or t 0 0) 48 (both_left (eqb (get_or t 0 0) 48) (eqb (get_or t 3 0) 46 && eqb (get_or t 17 0) 112) frame) in
      let point = eqb-true (get_or t 3 0) 46 (both_left (eqb (get_or t 3 0) 46) (eqb (get_or t 17 0) 112) behind) in
      let p = eqb-true (get_or t 17 0) 112 (both_right (eqb (get_or t 3 0) 46) (eqb (get_or t 17 0) 112) behind) in
      let u = (fixed-sound 16 (omega arith) (omega arith) 5 (drop 4 t) fraction a).0 in
      let v = (fixed-sound 16 (omega arith) (omega arith) 8 (drop 9 t) low b).0 in
      take-parts t k (omega (arith, length-drop 18 t, scale-some scale)) ∙ rw (first, x, point, p, u, v, c.2.0)

  float_is :
      (fraction low scale k bits : ℕ) → is_float_frame t ≡ true → fixed_at 16 5 (drop 4 t) ≡ some fraction → fixed_at 16 8 (drop 9 t) ≡ some low
      → ScaleFront (drop 18 t) scale k → exponent_from (get_or t 2 0) fraction low scale ≡ some bits
      → FloatFront sign t (halves low (sign * 2 ^ 31 + (bits * 2 ^ 20 + fraction))) (sign + 18 + k)
  float_is fraction low scale k bits frame a b c e =
      let q = exponent-sound (get_or t 2 0) fraction low scale bits c.0 c.1 e in
      let small : fraction < 2 ^ 20 = (fixed-sound 16 (omega arith) (omega arith) 5 (drop 4 t) fraction a).1 in
      let high = sign * 2 ^ 31 + (bits * 2 ^ 20 + fraction) in
      let p = high_parts sign bits fraction one q.0 small in
      let tail = tail-is low high bits fraction (get_or t 2 0) scale p.exponent p.rest q.1 q.2 in
      let text = parts-sound fraction low scale k frame a b c ∙ tail in
      let room : 18 + k ≤ length t = omega (arith, length-drop 18 t, scale-some scale) in
      record {
        low_fits = (fixed-sound 16 (omega arith) (omega arith) 8 (drop 9 t) low b).1;
        high_fits = p.fits;
        finite = finite-is high bits p.exponent q.0;
        minus = p.minus;
        size = 18 + k;
        sum = omega arith;
        front = (text, sym (length-take-le (18 + k) t room) ∙ ap length text, room);
      }

  pub float-sound : Judged (FloatFront sign t) (float_at sign t)
  unfolding float_at
  float-sound =
      judged-test (FloatFront sign t) (is_float_frame t) _ _
      (λ frame. judged-digits (FloatFront sign t) (fixed_at 16 5 (drop 4 t)) _
      (λ fraction a. judged-digits (FloatFront sign t) (fixed_at 16 8 (drop 9 t)) _
      (λ low b. judged-read (FloatFront sign t) (scale_at (drop 18 t)) (float_from sign (get_or t 2 0) fraction low)
      (λ scale k q. let c = judged-got (ScaleFront (drop 18 t)) (scale_at (drop 18 t)) scale k (scale-sound (drop 18 t)) q in
      by fraction low scale k (exponent_from (get_or t 2 0) fraction low scale) (λ bits e. float_is fraction low scale k bits frame a b c e)))))
      (λ frame. tt)
    where
      by : (fraction low scale k : ℕ) (o : Option ℕ)
          → ((bits : ℕ) → o ≡ some bits → FloatFront sign t (halves low (sign * 2 ^ 31 + (bits * 2 ^ 20 + fraction))) (sign + 18 + k))
          → Judged (FloatFront sign t) (halves_of low (sign + 18 + k) (high_of sign fraction o))
      by fraction low scale k (some bits) h = h bits refl
      by fraction low scale k option.none h = tt
