-- The exclusive or of bytes: one byte further on, of two lists after one another, with a byte taken out, and that it tells two bytes apart.
use Prim.Native.Nat.{ℕ, zero, suc, ◌+◌, ◌-◌, ◌*◌, ◌/◌, ◌%◌, ◌≤◌, ◌<◌}
use mathlib.Core.Path.{◌≡◌, refl, sym, ap, ap₂, ◌∙◌}
use mathlib.Core.List.{List, [], ◌∷◌, ◌++◌}
use native.Mathlib.Numerals.{add-one}
use native.Mathlib.Omega.{arith}
use lib.Arith.{bin_ind}
use lib.Bits.{bit_xor, differ, xor_step, xor_comm, xor_self, xor_zero_l, xor_zero_r}
use lib.ListN.{length, take, drop, get_or, drop_of_length-le}
use lib.Seq.{drop-cons, split_at}
use Rattle.packet.specs.Message.{xor_from}

pub xor-next : (m : List ℕ) (i x : ℕ) → i < length m → xor_from x (drop i m) ≡ xor_from (bit_xor x (get_or m i 0)) (drop (i + 1) m)
unfolding xor_from
xor-next m i x h = rw (drop-cons m i 0, add-one)

pub xor-past : (m : List ℕ) (i x : ℕ) → length m ≤ i → xor_from x (drop i m) ≡ x
unfolding xor_from
xor-past m i x h = rw (drop_of_length-le m h)

pub xor-append : (p q : List ℕ) (x : ℕ) → xor_from x (p ++ q) ≡ xor_from (xor_from x p) q
unfolding xor_from
xor-append [] q x = refl
xor-append (b ∷ p) q x = xor-append p q (bit_xor x b)

-- the digits of two numbers
differ-one : (b : ℕ) → b < 2 → differ 1 b ≡ 1 - b
differ-one zero h = refl
differ-one (suc zero) h = refl
differ-one (suc (suc b)) h = absurd (omega arith)

differ-cancel : (a b c : ℕ) → a < 2 → b < 2 → c < 2 → differ a b ≡ differ a c → b ≡ c
differ-cancel zero b c ha hb hc e = e
differ-cancel (suc zero) b c ha hb hc e = omega (arith, differ-one b hb, differ-one c hc)
differ-cancel (suc (suc a)) b c ha hb hc e = absurd (omega arith)

differ-lt : (a b : ℕ) → a < 2 → b < 2 → differ a b < 2
differ-lt zero b ha hb = hb
differ-lt (suc zero) b ha hb = omega (arith, differ-one b hb)
differ-lt (suc (suc a)) b ha hb = absurd (omega arith)

pub xor-cancel : (a b c : ℕ) → bit_xor a b ≡ bit_xor a c → b ≡ c
xor-cancel = bin_ind (λ (a : ℕ). (b c : ℕ) → bit_xor a b ≡ bit_xor a c → b ≡ c)
    (λ b c e. sym (xor_zero_l b) ∙ e ∙ xor_zero_l c)
    (λ a ih b c e.
    let ba : a % 2 < 2 = omega arith in
    let bb : b % 2 < 2 = omega arith in
    let bc : c % 2 < 2 = omega arith in
    let p = sym (xor_step a b) ∙ e ∙ xor_step a c in
    let d : differ (a % 2) (b % 2) < 2 = differ-lt (a % 2) (b % 2) ba bb in
    let d' : differ (a % 2) (c % 2) < 2 = differ-lt (a % 2) (c % 2) ba bc in
    let h : b / 2 ≡ c / 2 = ih (b / 2) (c / 2) (omega (arith, p)) in
    let l : b % 2 ≡ c % 2 = differ-cancel (a % 2) (b % 2) (c % 2) ba bb bc (omega (arith, p)) in
    omega arith)

differ-assoc : (a b c : ℕ) → a < 2 → b < 2 → c < 2 → differ (differ a b) c ≡ differ a (differ b c)
differ-assoc zero b c ha hb hc = refl
differ-assoc (suc zero) zero c ha hb hc = refl
differ-assoc (suc zero) (suc zero) zero ha hb hc = refl
differ-assoc (suc zero) (suc zero) (suc zero) ha hb hc = refl
differ-assoc (suc zero) (suc zero) (suc (suc c)) ha hb hc = absurd (omega arith)
differ-assoc (suc zero) (suc (suc b)) c ha hb hc = absurd (omega arith)
differ-assoc (suc (suc a)) b c ha hb hc = absurd (omega arith)

-- the two digits of a sum
halves : (a b : ℕ) → (bit_xor a b / 2 ≡ bit_xor (a / 2) (b / 2)) × (bit_xor a b % 2 ≡ differ (a % 2) (b % 2))
halves a b =
    let ba : a % 2 < 2 = omega arith in
    let bb : b % 2 < 2 = omega arith in
    let d : differ (a % 2) (b % 2) < 2 = differ-lt (a % 2) (b % 2) ba bb in
    let p = xor_step a b in
    (omega (arith, p), omega (arith, p))

pub xor_assoc : (a b c : ℕ) → bit_xor (bit_xor a b) c ≡ bit_xor a (bit_xor b c)
xor_assoc = bin_ind (λ (a : ℕ). (b c : ℕ) → bit_xor (bit_xor a b) c ≡ bit_xor a (bit_xor b c))
    (λ b c. ap (λ (x : ℕ). bit_xor x c) (xor_zero_l b) ∙ sym (xor_zero_l (bit_xor b c)))
    (λ a ih b c.
    let l = halves a b in
    let r = halves b c in
    let high = ap (λ (x : ℕ). bit_xor x (c / 2)) l.0 ∙ ih (b / 2) (c / 2) ∙ ap (bit_xor (a / 2)) (sym r.0) in
    let low = ap (λ (x : ℕ). differ x (c % 2)) l.1 ∙ differ-assoc (a % 2) (b % 2) (c % 2) (omega arith) (omega arith) (omega arith) ∙ ap (differ (a % 2)) (sym r.1) in
    xor_step (bit_xor a b) c ∙ ap₂ (λ (x y : ℕ). x * 2 + y) high low ∙ sym (xor_step a (bit_xor b c)))

-- a byte put in front of all others comes last as well
pub xor-late : (q : List ℕ) (x c : ℕ) → xor_from (bit_xor x c) q ≡ bit_xor (xor_from x q) c
unfolding xor_from
xor-late [] x c = refl
xor-late (b ∷ q) x c =
    ap (λ (y : ℕ). xor_from y q) (xor_assoc x c b ∙ ap (bit_xor x) (xor_comm c b) ∙ sym (xor_assoc x b c)) ∙ xor-late q (bit_xor x b) c

-- a byte is taken out of a sum by adding it again
pub xor-clear : (p q : List ℕ) (c x : ℕ) → xor_from x (p ++ 0 ∷ q) ≡ bit_xor (xor_from x (p ++ c ∷ q)) c
unfolding xor_from
xor-clear p q c x =
    let y = xor_from x p in
    let twice : bit_xor (bit_xor (xor_from y q) c) c ≡ xor_from y q = xor_assoc (xor_from y q) c c ∙ ap (bit_xor (xor_from y q)) (xor_self c) ∙ xor_zero_r (xor_from y q) in
    xor-append p (0 ∷ q) x ∙ ap (λ (z : ℕ). xor_from z q) (xor_zero_r y)
    ∙ sym (ap (λ (z : ℕ). bit_xor z c) (xor-append p (c ∷ q) x ∙ xor-late q y c) ∙ twice)

-- a list and its last byte have the sum 0 together exactly where that byte is the sum of the others
module _ (m : List ℕ) (h : 1 ≤ length m) where
  abbrev rest : List ℕ
  rest = take (length m - 1) m

  abbrev last : ℕ
  last = get_or m (length m - 1) 0

  whole_sum : xor_from 0 m ≡ bit_xor (xor_from 0 rest) last
  unfolding xor_from
  whole_sum =
      let n : length m - 1 < length m = omega arith in
      let e : drop (suc (length m - 1)) m ≡ [] = drop_of_length-le m {i = suc (length m - 1)} (omega arith) in
      ap (xor_from 0) (split_at m (length m - 1) 0 n ∙ ap (λ (t : List ℕ). rest ++ last ∷ t) e) ∙ xor-append rest (last ∷ []) 0

  pub sum-zero : xor_from 0 rest ≡ last → xor_from 0 m ≡ 0
  sum-zero e = whole_sum ∙ ap (bit_xor (xor_from 0 rest)) (sym e) ∙ xor_self (xor_from 0 rest)

  pub zero-sum : xor_from 0 m ≡ 0 → xor_from 0 rest ≡ last
  zero-sum e = sym (xor-cancel (xor_from 0 rest) last (xor_from 0 rest) (sym whole_sum ∙ e ∙ sym (xor_self (xor_from 0 rest))))

same_start : (q : List ℕ) (x y : ℕ) → xor_from x q ≡ xor_from y q → x ≡ y
unfolding xor_from
same_start [] x y e = e
same_start (b ∷ q) x y e = xor-cancel b x y (xor_comm b x ∙ same_start q (bit_xor x b) (bit_xor y b) e ∙ xor_comm y b)

-- two lists that differ at most in one byte, with the same sum, have the same byte there
pub same_byte : (p q : List ℕ) (b c x : ℕ) → xor_from x (p ++ b ∷ q) ≡ xor_from x (p ++ c ∷ q) → b ≡ c
unfolding xor_from
same_byte p q b c x e =
    let y = xor_from x p in
    let f = sym (xor-append p (b ∷ q) x) ∙ e ∙ xor-append p (c ∷ q) x in
    xor-cancel y b c (same_start q (bit_xor y b) (bit_xor y c) f)
