-- Laws of numbers as bytes, once for every width.
use Prim.Native.Nat.{ℕ, zero, suc, ◌+◌, ◌*◌, ◌/◌, ◌%◌, ◌<◌, ◌≤◌, ◌^◌}
use mathlib.Core.Path.{◌≡◌, refl, ap, ◌∙◌}
use mathlib.Core.List.{List, [], ◌∷◌, ◌++◌}
use native.Mathlib.Omega.{arith}
use native.Mathlib.Nat.{add-zero, zero-add, mul_assoc, pow-succ'}
use lib.ListN.{length, take, drop, get_or, drop_of_length-le}
use lib.Seq.{drop-drop, get_or-drop, take-take}
use Rattle.wire.specs.Number.{le_value, le_bytes, number_at, Bytes}

pub length-le_bytes : (width x : ℕ) → length (le_bytes width x) ≡ width
length-le_bytes zero x = refl
length-le_bytes (suc width) x = ap suc (length-le_bytes width (x / 256))

pub le_bytes-bytes : (width x : ℕ) → Bytes (le_bytes width x)
le_bytes-bytes zero x = tt
le_bytes-bytes (suc width) x = (omega arith, le_bytes-bytes width (x / 256))

-- a number that fits the width is spelled by its bytes
pub value-of-bytes : (width x : ℕ) → x < 256 ^ width → le_value (le_bytes width x) ≡ x
value-of-bytes zero x h = omega arith
value-of-bytes (suc width) x h = simp (value-of-bytes width (x / 256) (omega arith)) (omega arith)

-- bytes are the bytes of the number that they spell
pub bytes-of-value : (bs : List ℕ) → Bytes bs → le_bytes (length bs) (le_value bs) ≡ bs
bytes-of-value [] h = refl
bytes-of-value (b ∷ bs) (h, r) =
    let e : (b + 256 * le_value bs) % 256 ≡ b = omega arith in
    let f : (b + 256 * le_value bs) / 256 ≡ le_value bs = omega arith in
    simp (e, f, bytes-of-value bs r)

-- bytes spell a number that fits their width
pub value-fits : (bs : List ℕ) → Bytes bs → le_value bs < 256 ^ length bs
value-fits [] h = omega arith
value-fits (b ∷ bs) (h, r) = let k = value-fits bs r in rw (pow-succ' 256 (length bs)) (omega arith)

front : (width : ℕ) (s : List ℕ) → le_value (take (suc width) s) ≡ get_or s 0 0 + 256 * le_value (take width (drop 1 s))
front zero [] = refl
front (suc width) [] = refl
front width (b ∷ s) = refl

-- the low byte, then the number of the bytes behind it
pub number_step : (width : ℕ) (s : List ℕ) (at : ℕ) → number_at (suc width) s at ≡ get_or s at 0 + 256 * number_at width s (at + 1)
number_step width s at = front width (drop at s) ∙ rw (get_or-drop, drop-drop, add-zero)

-- past the end a number is 0
pub number_past : (width : ℕ) (s : List ℕ) (at : ℕ) → length s ≤ at → number_at width s at ≡ 0
number_past width s at h = rw (drop_of_length-le s h) (nothing width)
  where
    nothing : (width : ℕ) → le_value (take width []) ≡ 0
    nothing zero = refl
    nothing (suc width) = refl

-- a number of two, four or eight bytes, taken apart
pub number-2 : (s : List ℕ) (at : ℕ) → number_at 2 s at ≡ get_or s at 0 + 256 * get_or s (at + 1) 0
number-2 s at = omega (arith, number_step 1 s at, number_step 0 s (at + 1))

pub number-4 :
    (s : List ℕ) (at : ℕ)
    → number_at 4 s at ≡ get_or s at 0 + 256 * (get_or s (at + 1) 0 + 256 * (get_or s (at + 2) 0 + 256 * get_or s (at + 3) 0))
number-4 s at =
    let two : at + 1 + 1 ≡ at + 2 = omega arith in
    let three : at + 2 + 1 ≡ at + 3 = omega arith in
    let a = number_step 3 s at in
    let b = rw two at (number_step 2 s (at + 1)) in
    let c = rw three at (number_step 1 s (at + 2)) in
    omega (arith, a, b, c, number_step 0 s (at + 3))

pub number-8 : (s : List ℕ) (at : ℕ) → number_at 8 s at ≡ number_at 4 s at + 4294967296 * number_at 4 s (at + 4)
number-8 s at =
    let two : at + 1 + 1 ≡ at + 2 = omega arith in
    let three : at + 2 + 1 ≡ at + 3 = omega arith in
    let four : at + 3 + 1 ≡ at + 4 = omega arith in
    let a = number_step 7 s at in
    let b = rw two at (number_step 6 s (at + 1)) in
    let c = rw three at (number_step 5 s (at + 2)) in
    let d = rw four at (number_step 4 s (at + 3)) in
    omega (arith, a, b, c, d, number-4 s at)

-- the number of a part that is as long as the number
pub part-number : (width n : ℕ) (s : List ℕ) (at : ℕ) → n ≡ width → number_at width (take n (drop at s)) 0 ≡ number_at width s at
part-number width n s at e = rw e (ap le_value (take-take width width (drop at s) (omega arith)))

-- the bytes of two numbers, one behind the other, are those of one number
pub bytes-joined : (a b x y : ℕ) → x < 256 ^ a → le_bytes (a + b) (x + 256 ^ a * y) ≡ le_bytes a x ++ le_bytes b y
bytes-joined zero b x y h =
    let e : x + 256 ^ 0 * y ≡ y = omega arith in
    rw (zero-add b, e)
bytes-joined (suc a) b x y h =
    let p : 256 ^ suc a ≡ 256 * 256 ^ a = pow-succ' 256 a in
    let n : suc a + b ≡ suc (a + b) = omega arith in
    let z : 256 ^ suc a * y ≡ 256 * (256 ^ a * y) = rw p (mul_assoc 256 (256 ^ a) y) in
    let q : (x + 256 ^ suc a * y) % 256 ≡ x % 256 = omega arith in
    let r : (x + 256 ^ suc a * y) / 256 ≡ x / 256 + 256 ^ a * y = omega arith in
    rw (n, q, r, bytes-joined a b (x / 256) y (omega arith))
