-- The walk from code to code of a part, and what stands at the front of its message.
use Prim.Native.Nat.{ℕ, zero, suc, ◌+◌, ◌-◌, ◌≤◌, ◌<◌}
use mathlib.Core.Path.{◌≡◌, refl, sym, ap, ap₂, subst, ◌∙◌}
use mathlib.Core.Bool.{false}
use mathlib.Core.List.{List, [], ◌∷◌, ◌++◌, append_assoc, append-nil}
use native.Mathlib.Nat.{zero-add}
use native.Mathlib.Omega.{arith}
use lib.Bits.{bit_xor}
use lib.ListN.{length, get_or, set, take, drop, length-append, length-take, length-drop, length-set, drop_of_length-le, take-append-drop}
use lib.Seq.{drop-cons, drop-drop, drop_at, take-add, take_all, set_at, sets-eq, length-take-le}
use Rattle.wire.specs.Area.{put_at}
use Rattle.wire.specs.Zero.{has_zero}
use Rattle.wire.proofs.Buffers.{put-fits}
use Rattle.packet.specs.Cobs.{plain, lacking, decoded_part}
use Rattle.packet.specs.Message.{xor_from}
use Rattle.packet.proofs.Zeros.{clash}
use Rattle.packet.proofs.Sums.{xor-clear}

pub length-plain : (k : ℕ) (e : List ℕ) → length (plain k e) ≡ length e
unfolding plain
length-plain k [] = refl
length-plain zero (c ∷ e) = ap suc (length-plain _ e)
length-plain (suc k) (b ∷ e) = ap suc (length-plain k e)

-- k bytes of a block stand for themselves; behind them is a code
plain-drop : (k : ℕ) (e : List ℕ) → drop k (plain k e) ≡ plain 0 (drop k e)
unfolding plain
plain-drop zero e = refl
plain-drop (suc k) [] = refl
plain-drop (suc k) (b ∷ e) = plain-drop k e

plain-take : (k : ℕ) (e : List ℕ) → take k (plain k e) ≡ take k e
unfolding plain
plain-take zero e = refl
plain-take (suc k) [] = refl
plain-take (suc k) (b ∷ e) = ap (λ (l : List ℕ). b ∷ l) (plain-take k e)

lacking-drop : (k : ℕ) (e : List ℕ) → lacking k e ≡ (k - length e) + lacking 0 (drop k e)
unfolding lacking
lacking-drop zero e = omega arith
lacking-drop (suc k) [] = omega arith
lacking-drop (suc k) (b ∷ e) = omega (arith, lacking-drop k e)

-- the bytes before i decoded, those from i on as they stand in the part
abbrev pub halfway : List ℕ → ℕ → List ℕ
halfway e i = take i (plain 0 e) ++ drop i e

-- the walk has come to i: a code stands there, or the part has ended
pub record Walk (e : List ℕ) (i : ℕ) : Type 0 where
  pub again : drop i (plain 0 e) ≡ plain 0 (drop i e)
  pub lack : lacking 0 e ≡ (i - length e) + lacking 0 (drop i e)

pub walk_start : (e : List ℕ) → Walk e 0
walk_start e = record { again = refl; lack = omega arith }

module _ (e : List ℕ) (i : ℕ) (w : Walk e i) (h : i < length e) (k : ℕ) (q : get_or e i 0 ≡ suc k) where
  abbrev R : List ℕ
  R = drop (suc i) e

  abbrev done : List ℕ
  done = take i (plain 0 e)

  here : drop i e ≡ suc k ∷ R
  here = drop-cons e i 0 h ∙ ap (λ (c : ℕ). c ∷ R) q

  there : drop (i + suc k) e ≡ drop k R
  there = sym (drop-drop (suc k) i e) ∙ ap (drop (suc k)) here

  decodes : drop i (plain 0 e) ≡ 0 ∷ plain k R
  unfolding plain
  decodes = w.again ∙ ap (plain 0) here

  step : Walk e (i + suc k)
  unfolding lacking
  step =
      let f : lacking 0 (drop i e) ≡ lacking k R = ap (lacking 0) here in
      record {
        again = sym (drop-drop (suc k) i (plain 0 e)) ∙ ap (drop (suc k)) decodes ∙ plain-drop k R ∙ sym (ap (plain 0) there);
        lack = omega (arith, w.lack, f, lacking-drop k R, ap (lacking 0) there, length-drop (suc i) e);
      }

  before-code : halfway e i ≡ done ++ suc k ∷ R
  before-code = ap (λ (l : List ℕ). done ++ l) here

  past-code : halfway e (i + suc k) ≡ done ++ 0 ∷ R
  past-code =
      ap₂ (λ (a b : List ℕ). a ++ b)
      (take-add i (suc k) (plain 0 e) ∙ ap (λ (l : List ℕ). done ++ l) (ap (take (suc k)) decodes ∙ ap (λ (l : List ℕ). 0 ∷ l) (plain-take k R))) there
      ∙ append_assoc done (0 ∷ take k R) (drop k R)
      ∙ ap (λ (l : List ℕ). done ++ 0 ∷ l) (take-append-drop k R)

  sum_step : xor_from 0 (halfway e (i + suc k)) ≡ bit_xor (xor_from 0 (halfway e i)) (suc k)
  sum_step = ap (xor_from 0) past-code ∙ xor-clear done R (suc k) 0 ∙ sym (ap (λ (l : List ℕ). bit_xor (xor_from 0 l) (suc k)) before-code)

-- one code further on
module _ (e : List ℕ) (i : ℕ) (w : Walk e i) (h : i < length e) (p : 1 ≤ get_or e i 0) where
  code : get_or e i 0 ≡ suc (get_or e i 0 - 1)
  code = omega arith

  pub walk-next : Walk e (i + get_or e i 0)
  walk-next = subst (λ (c : ℕ). Walk e (i + c)) (sym code) (step e i w h (get_or e i 0 - 1) code)

  pub sum-next : bit_xor (xor_from 0 (halfway e i)) (get_or e i 0) ≡ xor_from 0 (halfway e (i + get_or e i 0))
  sum-next = subst (λ (c : ℕ). bit_xor (xor_from 0 (halfway e i)) c ≡ xor_from 0 (halfway e (i + c))) (sym code) (sym (sum_step e i w h (get_or e i 0 - 1) code))

  here-next : (halfway e i ≡ take i (plain 0 e) ++ get_or e i 0 ∷ drop (suc i) e) × (halfway e (i + get_or e i 0) ≡ take i (plain 0 e) ++ 0 ∷ drop (suc i) e)
  here-next = subst (λ (c : ℕ). (halfway e i ≡ take i (plain 0 e) ++ c ∷ drop (suc i) e) × (halfway e (i + c) ≡ take i (plain 0 e) ++ 0 ∷ drop (suc i) e)) (sym code)
      (before-code e i w h (get_or e i 0 - 1) code, past-code e i w h (get_or e i 0 - 1) code)

halfway-end : (e : List ℕ) (i : ℕ) → length e ≤ i → halfway e i ≡ plain 0 e
halfway-end e i h =
    ap₂ (λ (a b : List ℕ). a ++ b) (take_all i (plain 0 e) (omega (arith, length-plain 0 e))) (drop_of_length-le e {i = i} h) ∙ append-nil (plain 0 e)

-- the first code adds nothing
sum-plain : (e : List ℕ) → xor_from 0 (plain 0 e) ≡ xor_from 0 (decoded_part e)
unfolding plain xor_from
sum-plain [] = refl
sum-plain (c ∷ e) = refl

pub walk_end : (e : List ℕ) (i : ℕ) → Walk e i → length e ≤ i → (i - length e ≡ lacking 0 e) × (xor_from 0 (halfway e i) ≡ xor_from 0 (decoded_part e))
unfolding lacking
walk_end e i w h =
    let g : lacking 0 (drop i e) ≡ 0 = ap (lacking 0) (drop_of_length-le e {i = i} h) in
    (omega (arith, w.lack, g), ap (xor_from 0) (halfway-end e i h) ∙ sum-plain e)

-- out, which was out₀, holds the message of e but for the codes from i on
pub record Fill (e out₀ out : List ℕ) (i : ℕ) : Type 0 where
  pub walk : Walk e i
  pub past : 1 ≤ i
  pub room : length e - 1 ≤ length out₀
  pub long : length out ≡ length out₀
  pub holds : out ≡ drop 1 (halfway e i) ++ drop (length e - 1) out₀

-- all but the first code is copied to the front
pub copied : (e out₀ : List ℕ) → length e - 1 ≤ length out₀ → put_at out₀ 0 (take (length e - 1) (drop 1 e)) ≡ drop 1 e ++ drop (length e - 1) out₀
copied e out₀ r =
    let l = length-drop 1 e in
    ap (λ (x : List ℕ). put_at out₀ 0 x) (take_all (length e - 1) (drop 1 e) (omega arith))
    ∙ put-fits out₀ 0 (drop 1 e) (omega arith) ∙ sets-eq (drop 1 e) out₀ 0 (omega arith)
    ∙ ap (λ (n : ℕ). drop 1 e ++ drop n out₀) (zero-add (length (drop 1 e)) ∙ l)

module _ (e out₀ out : List ℕ) (m : out ≡ drop 1 e ++ drop (length e - 1) out₀) (h : 1 ≤ length e) (r : length e - 1 ≤ length out₀) where
  pub copied-length : length out ≡ length out₀
  copied-length = rw m (simp (length-append, length-drop) (omega arith))

  pub copied_behind : drop (length e - 1) out ≡ drop (length e - 1) out₀
  copied_behind = ap (drop (length e - 1)) m ∙ drop_at (drop 1 e) (drop (length e - 1) out₀) (length e - 1) (length-drop 1 e)

  pub fill_start : 1 ≤ get_or e 0 0 → Fill e out out (get_or e 0 0)
  fill_start p = subst (λ (i : ℕ). Fill e out out i) (zero-add (get_or e 0 0)) record {
    walk = walk-next e 0 (walk_start e) (omega arith) p;
    past = omega arith;
    room = omega (arith, copied-length);
    long = refl;
    holds = m ∙ ap (λ (l : List ℕ). drop 1 e ++ l) (sym copied_behind)
        ∙ ap (λ (l : List ℕ). drop 1 l ++ drop (length e - 1) out) (sym (here-next e 0 (walk_start e) (omega arith) p).1);
  }

set-behind : (p : List ℕ) (c : ℕ) (r t : List ℕ) (i : ℕ) → length p ≡ i → 1 ≤ i → set (drop 1 (p ++ c ∷ r) ++ t) (i - 1) 0 ≡ drop 1 (p ++ 0 ∷ r) ++ t
set-behind [] c r t i l h = absurd (omega arith)
set-behind (x ∷ p) c r t i l h =
    ap (λ (y : List ℕ). set y (i - 1) 0) (append_assoc p (c ∷ r) t) ∙ set_at p c (r ++ t) 0 (i - 1) (omega arith) ∙ sym (append_assoc p (0 ∷ r) t)

pub fill-next : (e out₀ out : List ℕ) (i : ℕ) → Fill e out₀ out i → i < length e → 1 ≤ get_or e i 0 → Fill e out₀ (set out (i - 1) 0) (i + get_or e i 0)
fill-next e out₀ out i f h p =
    let b = here-next e i f.walk h p in
    let t = drop (length e - 1) out₀ in
    let l : length (take i (plain 0 e)) ≡ i = length-take-le i (plain 0 e) (omega (arith, length-plain 0 e)) in
    record {
      walk = walk-next e i f.walk h p;
      past = omega (arith, f.past);
      room = f.room;
      long = length-set out (i - 1) 0 ∙ f.long;
      holds = ap (λ (x : List ℕ). set x (i - 1) 0) (f.holds ∙ ap (λ (x : List ℕ). drop 1 x ++ t) b.0)
          ∙ set-behind (take i (plain 0 e)) (get_or e i 0) (drop (suc i) e) t i l f.past
          ∙ ap (λ (x : List ℕ). drop 1 x ++ t) (sym b.1);
    }

pub fill_one : (e out₀ out : List ℕ) (i : ℕ) → Fill e out₀ out i → i < length e → get_or e i 0 ≡ 1 → Fill e out₀ (set out (i - 1) 0) (i + 1)
fill_one e out₀ out i f h p = subst (λ (c : ℕ). Fill e out₀ (set out (i - 1) 0) (i + c)) p (fill-next e out₀ out i f h (omega arith))

pub fill_end : (e out₀ out : List ℕ) (i : ℕ) → Fill e out₀ out i → length e ≤ i → out ≡ decoded_part e ++ drop (length e - 1) out₀
fill_end e out₀ out i f h = f.holds ∙ ap (λ (x : List ℕ). drop 1 x ++ drop (length e - 1) out₀) (halfway-end e i h)

length-halfway : (e : List ℕ) (i : ℕ) → length (halfway e i) ≡ length e
length-halfway e i = simp (length-append, length-take, length-drop) (omega (arith, length-plain 0 e))

fill-behind : (e out₀ out : List ℕ) (i : ℕ) → Fill e out₀ out i → drop (length e - 1) out ≡ drop (length e - 1) out₀
fill-behind e out₀ out i f =
    ap (drop (length e - 1)) f.holds
    ∙ drop_at (drop 1 (halfway e i)) (drop (length e - 1) out₀) (length e - 1) (length-drop 1 (halfway e i) ∙ ap (λ (n : ℕ). n - 1) (length-halfway e i))

-- a fill may be taken up again from where it has come to
pub fill-again : (e out₀ out : List ℕ) (i : ℕ) → Fill e out₀ out i → Fill e out out i
fill-again e out₀ out i f = record {
  walk = f.walk;
  past = f.past;
  room = omega (arith, f.room, f.long);
  long = refl;
  holds = f.holds ∙ ap (λ (l : List ℕ). drop 1 (halfway e i) ++ l) (sym (fill-behind e out₀ out i f));
}

pub fill_on : (e out₀ out out' : List ℕ) (i j : ℕ) → Fill e out₀ out i → Fill e out out' j → Fill e out₀ out' j
fill_on e out₀ out out' i j f g = record {
  walk = g.walk;
  past = g.past;
  room = f.room;
  long = g.long ∙ f.long;
  holds = g.holds ∙ ap (λ (l : List ℕ). drop 1 (halfway e j) ++ l) (fill-behind e out₀ out i f);
}

-- The first two bytes of a message.

pub first-zero : (e : List ℕ) → 4 ≤ length e → get_or e 0 0 ≡ 1 → get_or (decoded_part e) 0 0 ≡ 0
unfolding plain
first-zero [] h p = absurd (omega arith)
first-zero (c ∷ []) h p = absurd (omega arith)
first-zero (c ∷ b ∷ e) h p = rw p

pub first-other : (e : List ℕ) → 4 ≤ length e → has_zero e ≡ false → (get_or e 0 0 ≡ 1 → ⊥) → get_or (decoded_part e) 0 0 ≡ get_or e 1 0
unfolding plain has_zero
first-other [] h z p = absurd (omega arith)
first-other (c ∷ []) h z p = absurd (omega arith)
first-other (zero ∷ b ∷ e) h z p = clash z
first-other (suc zero ∷ b ∷ e) h z p = absurd (p refl)
first-other (suc (suc c) ∷ b ∷ e) h z p = refl

pub second-two : (e : List ℕ) → 4 ≤ length e → get_or e 0 0 ≡ 2 → get_or (decoded_part e) 1 0 ≡ 0
unfolding plain
second-two [] h p = absurd (omega arith)
second-two (c ∷ []) h p = absurd (omega arith)
second-two (c ∷ b ∷ []) h p = absurd (omega arith)
second-two (c ∷ b ∷ d ∷ e) h p = rw p

pub second-ones : (e : List ℕ) → 4 ≤ length e → get_or e 0 0 ≡ 1 → get_or e 1 0 ≡ 1 → get_or (decoded_part e) 1 0 ≡ 0
unfolding plain
second-ones [] h p q = absurd (omega arith)
second-ones (c ∷ []) h p q = absurd (omega arith)
second-ones (c ∷ b ∷ []) h p q = absurd (omega arith)
second-ones (c ∷ b ∷ d ∷ e) h p q = rw (p, q)

pub second-late : (e : List ℕ) → 4 ≤ length e → has_zero e ≡ false → get_or e 0 0 ≡ 1 → (get_or e 1 0 ≡ 1 → ⊥) → get_or (decoded_part e) 1 0 ≡ get_or e 2 0
unfolding plain has_zero
second-late [] h z p q = absurd (omega arith)
second-late (c ∷ []) h z p q = absurd (omega arith)
second-late (c ∷ b ∷ []) h z p q = absurd (omega arith)
second-late (zero ∷ b ∷ d ∷ e) h z p q = clash z
second-late (suc c ∷ zero ∷ d ∷ e) h z p q = clash z
second-late (suc c ∷ suc zero ∷ d ∷ e) h z p q = absurd (q refl)
second-late (suc zero ∷ suc (suc b) ∷ d ∷ e) h z p q = refl
second-late (suc (suc c) ∷ suc (suc b) ∷ d ∷ e) h z p q = absurd (omega arith)

pub second-other : (e : List ℕ) → 4 ≤ length e → has_zero e ≡ false → (get_or e 0 0 ≡ 2 → ⊥) → (get_or e 0 0 ≡ 1 → ⊥) → get_or (decoded_part e) 1 0 ≡ get_or e 2 0
unfolding plain has_zero
second-other [] h z p q = absurd (omega arith)
second-other (c ∷ []) h z p q = absurd (omega arith)
second-other (c ∷ b ∷ []) h z p q = absurd (omega arith)
second-other (zero ∷ b ∷ d ∷ e) h z p q = clash z
second-other (suc zero ∷ b ∷ d ∷ e) h z p q = absurd (q refl)
second-other (suc (suc zero) ∷ b ∷ d ∷ e) h z p q = absurd (p refl)
second-other (suc (suc (suc c)) ∷ b ∷ d ∷ e) h z p q = refl
