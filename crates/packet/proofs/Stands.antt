-- Later bytes never change what earlier ones were found to be: every judgement but 1, which wants more bytes, stands whatever follows.
use Prim.Native.Nat.{ℕ, zero, suc, ◌+◌, ◌-◌, ◌≤◌, ◌<◌}
use mathlib.Core.Path.{◌≡◌, refl, sym, ap, ◌∙◌}
use mathlib.Core.Bool.{Bool, true, false, not, cond}
use mathlib.Core.List.{List, [], ◌∷◌, ◌++◌}
use mathlib.Core.Logic.{◌⊎◌, inl, inr}
use native.Mathlib.Decide.{dec_le, ℕ_discrete}
use native.Mathlib.Omega.{arith}
use lib.Dec.{eqb, ltb}
use lib.ListN.{length, get_or, take, drop, length-append, length-drop, take-append-drop, get_or-append}
use lib.Seq.{take_all, take-append-le, drop-append-le, take-append-add}
use Rattle.wire.specs.Zero.{has_zero}
use Rattle.wire.proofs.Zeros.{zero-append}
use Rattle.packet.specs.TypeTable.{allowed}
use Rattle.packet.specs.Cobs.{lacking, decoded_part}
use Rattle.packet.specs.Message.{xor_from, message_error}
use Rattle.packet.specs.Packet.{length_byte, part_present, front_error, packet_error, acceptance, decoded}
use Rattle.packet.proofs.FrontTests.{Front, front-none, front-mark, front-one, front-size, front-zero, front-short, front-good, front-passed}
use Rattle.packet.proofs.DecodeStages.{error-front, good-front, length_part, decoded-good, decoded-refused}
use Rattle.packet.proofs.Accepted.{framed-again}

-- the encoded bytes present are still there
zero-stays : (n : ℕ) (r later : List ℕ) → has_zero (take n r) ≡ true → has_zero (take n (r ++ later)) ≡ true
zero-stays n r later h = by (dec_le n (length r))
  where
    by : Dec (n ≤ length r) → has_zero (take n (r ++ later)) ≡ true
    by (yes l) = ap has_zero (take-append-le n r later l) ∙ h
    by (no g) =
        let e : n ≡ length r + (n - length r) = omega arith in
        let a : has_zero r ≡ true = ap has_zero (sym (take_all n r (omega arith))) ∙ h in
        ap (λ (k : ℕ). has_zero (take k (r ++ later))) e ∙ ap has_zero (take-append-add r later (n - length r))
        ∙ zero-append r (take (n - length r) later) ∙ rw a

-- behind a 00 and a length byte
some : (size : ℕ) (r : List ℕ) → length (0 ∷ size ∷ r) ≡ 0 → ⊥
some size r e = omega arith

more : (size : ℕ) (r : List ℕ) → length (0 ∷ size ∷ r) ≡ 1 → ⊥
more size r e = omega arith

module _ (size : ℕ) (r later : List ℕ) where
  abbrev S : List ℕ
  S = 0 ∷ size ∷ r

  abbrev T : List ℕ
  T = 0 ∷ size ∷ (r ++ later)

  size-stands : size < 4 → front_error T ≡ front_error S
  size-stands l = front-size T (some size (r ++ later)) refl (more size (r ++ later)) l ∙ sym (front-size S (some size r) refl (more size r) l)

  module _ (l : 4 ≤ size) where
    zero-stands : has_zero (take size r) ≡ true → front_error T ≡ front_error S
    zero-stands z = front-zero T (some size (r ++ later)) refl (more size (r ++ later)) l (zero-stays size r later z) ∙ sym (front-zero S (some size r) refl (more size r) l z)

    whole-stands : has_zero (take size r) ≡ false → size ≤ length r → front_error T ≡ front_error S
    whole-stands z w =
        front-good T (some size (r ++ later)) refl (more size (r ++ later)) l (ap has_zero (take-append-le size r later w) ∙ z) (omega (arith, length-append r later))
        ∙ sym (front-good S (some size r) refl (more size r) l z (omega arith))

pub front-stands : (s later : List ℕ) → (front_error s ≡ 1 → ⊥) → front_error (s ++ later) ≡ front_error s
front-stands [] later n = absurd (n (front-none [] refl))
front-stands (suc a ∷ s) later n =
    front-mark (suc a ∷ (s ++ later)) (λ e. omega arith) (λ e. omega arith) ∙ sym (front-mark (suc a ∷ s) (λ e. omega arith) (λ e. omega arith))
front-stands (zero ∷ []) later n = absurd (n (front-one (0 ∷ []) (λ e. omega arith) refl refl))
front-stands (zero ∷ size ∷ r) later n = sized (dec_le 4 size)
  where
    short : 4 ≤ size → has_zero (take size r) ≡ false → Dec (size ≤ length r) → front_error (0 ∷ size ∷ (r ++ later)) ≡ front_error (0 ∷ size ∷ r)
    short l z (yes w) = whole-stands size r later l z w
    short l z (no g) = absurd (n (front-short (0 ∷ size ∷ r) (some size r) refl (more size r) l z (omega arith)))

    zeroless : 4 ≤ size → (b : Bool) → has_zero (take size r) ≡ b → front_error (0 ∷ size ∷ (r ++ later)) ≡ front_error (0 ∷ size ∷ r)
    zeroless l true z = zero-stands size r later l z
    zeroless l false z = short l z (dec_le size (length r))

    sized : Dec (4 ≤ size) → front_error (0 ∷ size ∷ (r ++ later)) ≡ front_error (0 ∷ size ∷ r)
    sized (yes l) = zeroless l (has_zero (take size r)) refl
    sized (no g) = size-stands size r later (omega arith)

-- the encoded bytes of a whole packet
pub good-again : (s : List ℕ) → Front s → front_error s ≡ 0
good-again s f = front-good s (λ e. omega (arith, f.whole)) f.mark (λ e. omega (arith, f.least, f.whole)) f.least f.zeroless f.whole

pub length-stands : (s later : List ℕ) → Front s → length_byte (s ++ later) ≡ length_byte s
length-stands s later f = get_or-append s later 0 1 (omega (arith, f.least, f.whole))

pub part-stands : (s later : List ℕ) → Front s → part_present (s ++ later) ≡ part_present s
part-stands s later f =
    ap (λ (n : ℕ). take n (drop 2 (s ++ later))) (length-stands s later f)
    ∙ ap (take (length_byte s)) (drop-append-le 2 s later (omega (arith, f.whole)))
    ∙ take-append-le (length_byte s) (drop 2 s) later (omega (arith, length-drop 2 s, f.whole))

judged : (s later : List ℕ) → Front s → front_error (s ++ later) ≡ 0 → front_error s ≡ 0 → packet_error (s ++ later) ≡ packet_error s
unfolding packet_error
judged s later f e d = rw (e, d, part-stands s later f)

-- "Later bytes are ignored": an acceptance and every refusal but 1 stand whatever follows
pub stands : (s later : List ℕ) → (packet_error s ≡ 1 → ⊥) → packet_error (s ++ later) ≡ packet_error s
stands s later n = by (front_error s) refl
  where
    one : front_error s ≡ 1 → ⊥
    one e = n (error-front s 1 (sym e) (λ z. omega arith))

    by : (k : ℕ) → front_error s ≡ k → packet_error (s ++ later) ≡ packet_error s
    by zero e = judged s later (front-passed s e) (front-stands s later one ∙ e) e
    by (suc k) e =
        error-front (s ++ later) (suc k) (sym (front-stands s later one ∙ e)) (λ z. omega arith) ∙ sym (error-front s (suc k) (sym e) (λ z. omega arith))

-- so does every judgement of a packet that is all there
pub packet-stands : (s later : List ℕ) → Front s → packet_error (s ++ later) ≡ packet_error s
packet-stands s later f =
    let e = good-again s f in
    judged s later f (front-stands s later (λ q. omega arith) ∙ e) e

-- only 1 can change
pub only_one : (s later : List ℕ) → (packet_error s ≡ packet_error (s ++ later)) ⊎ (packet_error s ≡ 1)
only_one s later = by (ℕ_discrete (packet_error s) 1)
  where
    by : Dec (packet_error s ≡ 1) → (packet_error s ≡ packet_error (s ++ later)) ⊎ (packet_error s ≡ 1)
    by (yes e) = inr e
    by (no n) = inl (sym (stands s later n))

-- the reading stands too, with the type, the lengths and the message
pub reading-stands : (s later : List ℕ) → (packet_error s ≡ 1 → ⊥) → decoded (s ++ later) ≡ decoded s
unfolding acceptance
reading-stands s later n = by (packet_error s) refl
  where
    by : (k : ℕ) → packet_error s ≡ k → decoded (s ++ later) ≡ decoded s
    by zero e =
        let f = good-front s e in
        let same : acceptance (s ++ later) ≡ acceptance s = rw (part-stands s later f, length-stands s later f) in
        sym (decoded-good (s ++ later) (stands s later n ∙ e)) ∙ same ∙ decoded-good s e
    by (suc k) e =
        sym (decoded-refused (s ++ later) (suc k) (stands s later n ∙ e) (λ z. omega arith)) ∙ decoded-refused s (suc k) e (λ z. omega arith)

-- the numbers: the front gives 1 to 4, and only a packet that is all there gives 5 to 8
at-most : (b : Bool) (n k top : ℕ) → n ≤ top → k ≤ top → cond b n k ≤ top
at-most true n k top h g = h
at-most false n k top h g = g

pub front-most : (s : List ℕ) → front_error s ≤ 4
unfolding front_error
front-most s =
    at-most (eqb (length s) 0) 1 _ 4 (omega arith)
    (at-most (not (eqb (get_or s 0 0) 0)) 2 _ 4 (omega arith)
    (at-most (eqb (length s) 1) 1 _ 4 (omega arith)
    (at-most (ltb (length_byte s) 4) 3 _ 4 (omega arith)
    (at-most (has_zero (part_present s)) 4 _ 4 (omega arith)
    (at-most (ltb (length s) (length_byte s + 2)) 1 0 4 (omega arith) (omega arith))))))

message-most : (m : List ℕ) → message_error m ≤ 8
unfolding message_error
message-most m =
    at-most (not (eqb (get_or m 1 0) (length m - 3))) 6 _ 8 (omega arith)
    (at-most (not (eqb (xor_from 0 (take (length m - 1) m)) (get_or m (length m - 1) 0))) 7 _ 8 (omega arith)
    (at-most (not (allowed (get_or m 0 0) (length m - 3))) 8 0 8 (omega arith) (omega arith)))

pub error-most : (s : List ℕ) → packet_error s ≤ 8
unfolding packet_error
error-most s =
    at-most (not (eqb (front_error s) 0)) (front_error s) _ 8 (omega (arith, front-most s))
    (at-most (not (eqb (lacking 0 (part_present s)) 0)) 5 _ 8 (omega arith) (message-most (decoded_part (part_present s))))

pub late-front : (s : List ℕ) → 4 < packet_error s → Front s
late-front s h = by (front_error s) refl
  where
    by : (k : ℕ) → front_error s ≡ k → Front s
    by zero e = front-passed s e
    by (suc k) e = absurd (omega (arith, front-most s, error-front s (suc k) (sym e) (λ z. omega arith)))

-- and such a packet gives none of 1 to 4
Late : ℕ → Type 0
Late n = (n ≡ 0) ⊎ (5 ≤ n)

late-test : (b : Bool) (n k : ℕ) → 5 ≤ n → Late k → Late (cond b n k)
unfolding Late
late-test true n k h l = inr h
late-test false n k h l = l

message-late : (m : List ℕ) → Late (message_error m)
unfolding Late message_error
message-late m =
    late-test (not (eqb (get_or m 1 0) (length m - 3))) 6 _ (omega arith)
    (late-test (not (eqb (xor_from 0 (take (length m - 1) m)) (get_or m (length m - 1) 0))) 7 _ (omega arith)
    (late-test (not (allowed (get_or m 0 0) (length m - 3))) 8 0 (omega arith) (inl refl)))

pub late : (s : List ℕ) → Front s → (packet_error s ≡ 0) ⊎ (5 ≤ packet_error s)
unfolding Late packet_error
late s f =
    rw (good-again s f)
    (late-test (not (eqb (lacking 0 (part_present s)) 0)) 5 (message_error (decoded_part (part_present s))) (omega arith) (message-late (decoded_part (part_present s))))

-- the packet at the front alone: its 00, its length byte and its encoded bytes
pub packet-bytes : (s : List ℕ) → Front s → s ≡ (0 ∷ length_byte s ∷ part_present s) ++ drop (length_byte s + 2) s
packet-bytes s f = sym (take-append-drop (length_byte s + 2) s) ∙ ap (λ (l : List ℕ). l ++ drop (length_byte s + 2) s) (sym (framed-again s f))

pub packet-alone : (s : List ℕ) → Front s → packet_error (take (length_byte s + 2) s) ≡ packet_error s
packet-alone s f =
    let part = part_present s in
    let alone : List ℕ = 0 ∷ length_byte s ∷ part in
    let rest = drop (length_byte s + 2) s in
    let n = length_part s f in
    let p : take (length_byte s) part ≡ part = take_all (length_byte s) part (omega arith) in
    let g : Front alone = record { mark = refl; least = f.least; whole = omega arith; zeroless = ap has_zero p ∙ f.zeroless } in
    ap packet_error (sym (framed-again s f)) ∙ sym (packet-stands alone rest g) ∙ ap packet_error (sym (packet-bytes s f))
