-- A blob's text is read as the blob, and what is read as a blob is its text.
use Prim.Native.Nat.{ℕ, zero, suc, ◌+◌, ◌-◌, ◌≤◌, ◌<◌}
use mathlib.Core.Path.{◌≡◌, refl, sym, ap, ◌∙◌}
use mathlib.Core.Bool.{Bool, true, false}
use mathlib.Core.List.{List, [], ◌∷◌, ◌++◌, append_assoc}
use native.Mathlib.Omega.{arith}
use lib.Dec.{eqb}
use lib.ListN.{length, take, drop, get_or, length-append}
use lib.Seq.{drop-append_seam}
use borrow.Author.Tests.{eqb-true}
use Rattle.wire.specs.Number.{Bytes}
use Rattle.digits.specs.Read.{Read, got, wrong, and_read}
use Rattle.digits.specs.Decimal.{decimal, is_decimal, decimal_at}
use Rattle.digits.proofs.Judging.{Judged, judged-got, judged-all, judged-map, judged-test, judged-read}
use Rattle.digits.proofs.Decimals.{decimal-read, decimal-sound, decimal-first, decimal-some}
use Rattle.text.specs.Text.{gap, bytes_text}
use Rattle.text.specs.Read.{byte_at, bytes_at}
use Rattle.text.proofs.Fronts.{Front, front-cons, digit-high}

-- a byte with the space before it
abbrev byte_text : Bool → ℕ → List ℕ
byte_text first b = gap first ++ decimal b

byte-read :
    (first : Bool) (b : ℕ) (s : List ℕ) → b < 256 → is_decimal (get_or s 0 0) ≡ false
    → byte_at first (byte_text first b ++ s) ≡ got b (length (byte_text first b))
unfolding byte_at
byte-read true b s h d = decimal-read 255 b s (omega arith) (omega arith) (omega arith) d
byte-read false b s h d = rw (decimal-read 255 b s (omega arith) (omega arith) (omega arith) d)

-- it starts with no brace
byte-start : (first : Bool) (b : ℕ) (s : List ℕ) → eqb (get_or (byte_text first b ++ s) 0 0) 125 ≡ false
byte-start true b s = digit-high (get_or (decimal b ++ s) 0 0) 125 (decimal-first b s) (omega arith)
byte-start false b s = refl

byte-some : (first : Bool) (b : ℕ) → 1 ≤ length (byte_text first b)
byte-some true b = decimal-some b
byte-some false b = omega arith

-- what stands behind a byte is no digit
after-byte : (bs s : List ℕ) → is_decimal (get_or (bytes_text false bs ++ (125 ∷ s)) 0 0) ≡ false
unfolding is_decimal
after-byte [] s = refl
after-byte (b ∷ bs) s = refl

-- characters that were read already
pub bytes-skip :
    (first : Bool) (skip : ℕ) (s : List ℕ) → bytes_at first skip s ≡ and_read (bytes_at first 0 (drop skip s)) (λ bs count. got bs (skip + count))
unfolding bytes_at
bytes-skip first zero s = go (bytes_at first 0 s)
  where
    go : (r : Read (List ℕ)) → r ≡ and_read r (λ bs count. got bs (0 + count))
    go (got bs count) = let z : 0 + count ≡ count = omega arith in rw z
    go wrong = refl
bytes-skip first (suc skip) [] = refl
bytes-skip first (suc skip) (c ∷ s) =
    ap (λ (r : Read (List ℕ)). and_read r (λ bs count. got bs (suc count))) (bytes-skip first skip s) ∙ go (bytes_at first 0 (drop skip s))
  where
    go : (r : Read (List ℕ))
        → and_read (and_read r (λ bs count. got bs (skip + count))) (λ bs count. got bs (suc count)) ≡ and_read r (λ bs count. got bs (suc skip + count))
    go (got bs count) = let z : suc skip + count ≡ suc (skip + count) = omega arith in rw z
    go wrong = refl

-- one byte, then those behind it
pub bytes-step :
    (first : Bool) (b : ℕ) (text rest : List ℕ) (bs : List ℕ) (count : ℕ) → byte_at first (text ++ rest) ≡ got b (length text)
    → eqb (get_or (text ++ rest) 0 0) 125 ≡ false → 1 ≤ length text → bytes_at false 0 rest ≡ got bs count
    → bytes_at first 0 (text ++ rest) ≡ got (b ∷ bs) (length text + count)
unfolding bytes_at
bytes-step first b [] rest bs count e q h f = absurd (omega arith)
bytes-step first b (c ∷ text) rest bs count e q h f =
    let size : suc (length text) - 1 ≡ length text = omega arith in
    let sum : suc (length text) + count ≡ suc (length text + count) = omega arith in
    rw (q, e, size, bytes-skip false (length text) (text ++ rest), drop-append_seam text rest, f, sum)

-- a blob's text behind the opening brace is read as its bytes
pub bytes_read :
    (first : Bool) (bs s : List ℕ) → Bytes bs → bytes_at first 0 (bytes_text first bs ++ (125 ∷ s)) ≡ got bs (length (bytes_text first bs) + 1)
unfolding bytes_at
bytes_read first [] s h = refl
bytes_read first (b ∷ bs) s h =
    let rest = bytes_text false bs ++ (125 ∷ s) in
    let e =
    bytes-step first b (byte_text first b) rest bs (length (bytes_text false bs) + 1) (byte-read first b rest h.0 (after-byte bs s))
    (byte-start first b rest) (byte-some first b) (bytes_read false bs s h.1)
    in
    let n : length (byte_text first b) + (length (bytes_text false bs) + 1) ≡ length (byte_text first b) + length (bytes_text false bs) + 1 = omega arith in
    let lengths = length-append (byte_text first b) (bytes_text false bs) in
    rw (← append_assoc (gap first) (decimal b) (bytes_text false bs), append_assoc (byte_text first b) (bytes_text false bs) (125 ∷ s), lengths)
    (e ∙ rw n)

-- what is read as a byte
abbrev ByteFront : Bool → List ℕ → ℕ → ℕ → Type 0
ByteFront first s b count = (b < 256) × Front s (byte_text first b) count

number-front : (s : List ℕ) (b count : ℕ) → decimal_at 255 s ≡ got b count → ByteFront true s b count
number-front s b count e = let f = decimal-sound 255 s b count (omega arith) (omega arith) e in (omega arith, (f.1, f.2, f.3))

byte-sound : (first : Bool) (s : List ℕ) → Judged (ByteFront first s) (byte_at first s)
unfolding byte_at
byte-sound true s = judged-all (ByteFront true s) (decimal_at 255 s) (number-front s)
byte-sound false s = judged-test (ByteFront false s) (eqb (get_or s 0 0) 32) _ _ (spaced s) (λ e. tt)
  where
    spaced : (s : List ℕ) → eqb (get_or s 0 0) 32 ≡ true → Judged (ByteFront false s) (and_read (decimal_at 255 (drop 1 s)) (λ b count. got b (suc count)))
    spaced [] e = absurd (omega (arith, eqb-true 0 32 e))
    spaced (c ∷ s) e =
        rw (eqb-true c 32 e)
        (judged-read (ByteFront false (32 ∷ s)) (decimal_at 255 s) (λ b count. got b (suc count))
        (λ b count q. let f = number-front s b count q in (f.0, front-cons 32 s (decimal b) count f.1)))

-- what is read as a blob's bytes behind `skip` characters that were read already
abbrev BytesFront : Bool → ℕ → List ℕ → List ℕ → ℕ → Type 0
BytesFront first skip s bs count =
    Bytes bs × (take count s ≡ take skip s ++ (bytes_text first bs ++ (125 ∷ []))) × (count ≡ skip + (length (bytes_text first bs) + 1)) × (count ≤ length s)

bytes-join :
    (first : Bool) (c : ℕ) (s : List ℕ) (b size : ℕ) (bs : List ℕ) (count : ℕ) → ByteFront first (c ∷ s) b size → BytesFront false (size - 1) s bs count
    → BytesFront first 0 (c ∷ s) (b ∷ bs) (suc count)
bytes-join first c s b size bs count f r =
    let k = byte-some first b in
    let e : size ≡ suc (size - 1) = omega arith in
    let start : c ∷ take (size - 1) s ≡ byte_text first b = ap (λ (n : ℕ). take n (c ∷ s)) (sym e) ∙ f.1.0 in
    rw (← append_assoc (gap first) (decimal b) (bytes_text false bs), length-append (byte_text first b) (bytes_text false bs)) (
      (f.0, r.0),
      ap (λ (t : List ℕ). c ∷ t) r.1
          ∙ (ap (λ (t : List ℕ). t ++ (bytes_text false bs ++ (125 ∷ []))) start ∙ sym (append_assoc (byte_text first b) (bytes_text false bs) (125 ∷ []))),
      omega arith,
      omega arith,
    )

bytes-sound-at : (first : Bool) (skip : ℕ) (s : List ℕ) → Judged (BytesFront first skip s) (bytes_at first skip s)
unfolding bytes_at
bytes-sound-at first zero [] = tt
bytes-sound-at first (suc skip) [] = tt
bytes-sound-at first (suc skip) (c ∷ s) =
    judged-read (BytesFront first (suc skip) (c ∷ s)) (bytes_at first skip s) (λ bs count. got bs (suc count))
    (λ bs count e. let r = judged-got (BytesFront first skip s) (bytes_at first skip s) bs count (bytes-sound-at first skip s) e in
    (r.0, ap (λ (t : List ℕ). c ∷ t) r.1, omega arith, omega arith))
bytes-sound-at first zero (c ∷ s) =
    judged-test (BytesFront first 0 (c ∷ s)) (eqb c 125) _ _
    (λ q. rw (eqb-true c 125 q) (tt, refl, refl, omega arith))
    (λ q. judged-read (BytesFront first 0 (c ∷ s)) (byte_at first (c ∷ s)) _
    (λ b size e. judged-read (BytesFront first 0 (c ∷ s)) (bytes_at false (size - 1) s) (λ bs count. got (b ∷ bs) (suc count))
    (λ bs count g. bytes-join first c s b size bs count
    (judged-got (ByteFront first (c ∷ s)) (byte_at first (c ∷ s)) b size (byte-sound first (c ∷ s)) e)
    (judged-got (BytesFront false (size - 1) s) (bytes_at false (size - 1) s) bs count (bytes-sound-at false (size - 1) s) g))))

-- what is read as a blob, behind the opening brace
abbrev pub BlobFront : List ℕ → List ℕ → ℕ → Type 0
BlobFront s bs count = Bytes bs × Front s (bytes_text true bs ++ (125 ∷ [])) count

pub bytes-sound : (s : List ℕ) → Judged (BlobFront s) (bytes_at true 0 s)
bytes-sound s =
    judged-map (BytesFront true 0 s) (BlobFront s) (bytes_at true 0 s)
    (λ bs count r. (r.0, (r.1, rw (length-append (bytes_text true bs) (125 ∷ [])) (omega arith), r.3))) (bytes-sound-at true 0 s)
