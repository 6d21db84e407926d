-- How long a text is: at most four characters for each byte of the list, so within the room that 20 asks for.
use Prim.Native.Nat.{ℕ, zero, suc, ◌+◌, ◌-◌, ◌*◌, ◌^◌, ◌≤◌, ◌<◌}
use mathlib.Core.Path.{◌≡◌, refl, ap}
use mathlib.Core.Bool.{Bool, true, false, cond, ◌&&◌}
use mathlib.Core.List.{List, [], ◌∷◌, ◌++◌, append-nil}
use native.Mathlib.Omega.{arith}
use lib.Dec.{eqb, leb}
use lib.ListN.{length, replicate, length-append, length-replicate}
use borrow.Author.Tests.{leb-true}
use Rattle.wire.specs.Number.{Bytes, le_bytes}
use Rattle.digits.specs.Decimal.{decimal, decimal_of}
use Rattle.digits.specs.Fixed.{fixed}
use Rattle.digits.proofs.Decimals.{decimal-most}
use Rattle.digits.proofs.Fixing.{fixed-length}
use Rattle.list.specs.Limits.{list_limit}
use Rattle.list.specs.Strings.{negative}
use Rattle.list.specs.Tree.{Value, Elements, int, vocab, float, str, blob, none, value, list}
use Rattle.list.specs.Bytes.{code_for, value_bytes, element_bytes, list_code_of, list_bytes}
use Rattle.list.specs.Legal.{LegalValue, Legal}
use Rattle.text.specs.Text.{text_room, gap, int_text, is_printed, is_marked, char_text, chars_text, bytes_text, blob_text}
use Rattle.text.specs.Text.{until_zero, letters, exponent_of, fraction_of, frame_text, sign_text, scale_text, scale_of, float_text, value_text, elements_text, list_text}
use Rattle.text.specs.Form.{WithText}

-- a test between two texts
cond-most : (b : Bool) (xs ys : List ℕ) (most : ℕ) → (b ≡ true → length xs ≤ most) → (b ≡ false → length ys ≤ most) → length (cond b xs ys) ≤ most
cond-most true xs ys most x y = x refl
cond-most false xs ys most x y = y refl

pub gap-most : (first : Bool) → length (gap first) ≤ 1
gap-most true = omega arith
gap-most false = omega arith

-- an int: ten digits and a minus
pub int-most : (n : ℕ) → n < 2 ^ 32 → length (int_text n) ≤ 11
int-most n h =
    cond-most (negative n) (45 ∷ decimal (2 ^ 32 - n)) (decimal n) 11
    (λ e. omega (arith, decimal-most 10 (2 ^ 32 - n) (omega arith) (omega arith) (omega (arith, leb-true 2147483648 n e))))
    (λ e. omega (arith, decimal-most 10 n (omega arith) (omega arith) (omega arith)))

-- a string: four characters for each byte, and its quotes
pub char-most : (b : ℕ) → length (char_text b) ≤ 4
char-most b =
    cond-most (is_printed b) (cond (is_marked b) (92 ∷ b ∷ []) (b ∷ [])) (92 ∷ fixed 8 3 b) 4
    (λ e. cond-most (is_marked b) (92 ∷ b ∷ []) (b ∷ []) 4 (λ q. omega arith) (λ q. omega arith))
    (λ e. omega (arith, fixed-length 8 3 b))

pub chars-most : (bs : List ℕ) → length (chars_text bs) ≤ 4 * length bs
chars-most [] = omega arith
chars-most (b ∷ bs) = simp length-append (omega (arith, char-most b, chars-most bs))

-- a blob: three digits and a space for each byte, and its braces
pub bytes_most : (first : Bool) (bs : List ℕ) → Bytes bs → length (bytes_text first bs) ≤ 4 * length bs
bytes_most first [] h = omega arith
bytes_most first (b ∷ bs) h =
    let k : length (decimal b) ≤ 3 = decimal-most 3 b (omega arith) (omega arith) (omega (arith, h.0)) in
    simp length-append (omega (arith, k, gap-most first, bytes_most false bs h.1))

-- a vocab: four letters and its brackets
pub until-zero-most : (bs : List ℕ) → length (until_zero bs) ≤ length bs
until-zero-most [] = omega arith
until-zero-most (b ∷ bs) =
    cond-most (eqb b 0) [] (b ∷ until_zero bs) (suc (length bs)) (λ e. omega arith) (λ e. omega (arith, until-zero-most bs))

pub letters-most : (n : ℕ) → length (letters n) ≤ 4
letters-most n = until-zero-most (le_bytes 4 n)

-- a float: a sign, 0x1. and 13 digits, p and a sign, four digits
pub sign-most : (high : ℕ) → length (sign_text high) ≤ 1
sign-most high = cond-most (negative high) (45 ∷ []) [] 1 (λ e. omega arith) (λ e. omega arith)

pub scale-most : (bits : ℕ) → bits < 2 ^ 11 → length (scale_text bits) ≤ 6
scale-most bits h =
    let few : (n : ℕ) → n < 2 ^ 11 → length (decimal n) ≤ 4 = λ n l. decimal-most 4 n (omega arith) (omega arith) (omega arith) in
    let k : length (cond (leb 1023 bits) (43 ∷ decimal (bits - 1023)) (45 ∷ decimal (1023 - bits))) ≤ 5 =
    cond-most (leb 1023 bits) (43 ∷ decimal (bits - 1023)) (45 ∷ decimal (1023 - bits)) 5
    (λ e. omega (arith, few (bits - 1023) (omega arith)))
    (λ e. omega (arith, few (1023 - bits) (omega arith))) in
    omega arith

cond_below : (b : Bool) (m n most : ℕ) → m < most → n < most → cond b m n < most
cond_below true m n most x y = x
cond_below false m n most x y = y

pub scale_small : (low high : ℕ) → scale_of low high < 2 ^ 11
scale_small low high =
    cond_below (eqb (exponent_of high) 0) (cond (eqb low 0 && eqb (fraction_of high) 0) 1023 1) (exponent_of high) (2 ^ 11)
    (cond_below (eqb low 0 && eqb (fraction_of high) 0) 1023 1 (2 ^ 11) (omega arith) (omega arith))
    (omega arith)

pub frame-length : (low high : ℕ) → length (frame_text low high) ≡ 17
frame-length low high = refl

pub float-most : (low high : ℕ) → length (float_text low high) ≤ 24
float-most low high =
    simp length-append (omega (arith, sign-most high, frame-length low high, scale-most (scale_of low high) (scale_small low high)))

-- a value with the space before it: four characters for each of its bytes
pub value-most : (v : Value) → LegalValue v → length (value_text v) + 1 ≤ 4 * length (value_bytes v)
value-most (int n) l = omega (arith, int-most n l)
value-most (vocab n) l = simp length-append (omega (arith, letters-most n))
value-most (float low high) l = omega (arith, float-most low high)
value-most (str bs) l = simp length-append (omega (arith, chars-most bs))
value-most (blob bs) l = simp length-append (omega (arith, bytes_most true bs l))

-- elements: four characters for each byte, whatever the code of their list
pub elements-most : (first : Bool) (code : ℕ) (es : Elements) → WithText es → length (elements_text first es) ≤ 4 * length (element_bytes code es)
elements-most first code none w = omega arith
elements-most first code (value v es) w =
    simp length-append (omega (arith, gap-most first, value-most v w.0, elements-most false code es w.2))
elements-most first code (list inner es) w =
    simp length-append (omega (
      arith,
      gap-most first,
      elements-most true (list_code_of inner) inner w.0,
      elements-most false code es w.1,
    ))

-- LAW: the text of a list and one character more, at any depth and size: at most four characters for each of its bytes
pub line-room : (es : Elements) → WithText es → length (list_text es) + 1 ≤ 4 * length (list_bytes es)
unfolding list_text list_bytes
line-room es w = omega (arith, elements-most true (list_code_of es) es w)

-- LAW: the text of a list, at any depth and size: at most four characters for each of its bytes
pub text-bound : (es : Elements) → WithText es → length (list_text es) ≤ 4 * length (list_bytes es)
text-bound es w = omega (arith, line-room es w)

-- LAW: "the text never passes 16,384 characters"
pub text-room : (es : Elements) → Legal list_limit es → WithText es → length (list_text es) ≤ text_room
text-room es l w = omega (arith, text-bound es w)

-- a blob whose bytes are all 255
decimal-top : decimal 255 ≡ 50 ∷ 53 ∷ 53 ∷ []
unfolding decimal_of
decimal-top = refl

bytes-top : (n : ℕ) → length (bytes_text false (replicate n 255)) ≡ 4 * n
bytes-top zero = omega arith
bytes-top (suc n) = rw decimal-top (omega (arith, bytes-top n))

bytes-top-first : (n : ℕ) → length (bytes_text true (replicate (suc n) 255)) ≡ 4 * n + 3
bytes-top-first n = rw decimal-top (omega (arith, bytes-top n))

blob-length : (bs : List ℕ) → length (blob_text bs) ≡ length (bytes_text true bs) + 2
blob-length bs = simp length-append (omega arith)

bytes-255 : (n : ℕ) → Bytes (replicate n 255)
bytes-255 zero = tt
bytes-255 (suc n) = (omega arith, bytes-255 n)

-- a list of one such blob
abbrev pub blob_list : ℕ → Elements
blob_list n = value (blob (replicate n 255)) none

pub blob-text : (n : ℕ) → length (list_text (blob_list (suc n))) ≡ 4 * n + 5
unfolding list_text
blob-text n =
    let bs : List ℕ = replicate (suc n) 255 in
    let e : length (blob_text bs ++ []) ≡ length (blob_text bs) = ap length (append-nil (blob_text bs)) in
    omega (arith, e, blob-length bs, bytes-top-first n)

blob-code : (n : ℕ) → list_code_of (blob_list n) ≡ 268
unfolding code_for
blob-code n = refl

pub blob-bytes : (n : ℕ) → length (list_bytes (blob_list n)) ≡ n + 12
unfolding list_bytes
blob-bytes n =
    let bs : List ℕ = replicate n 255 in
    let len : length bs ≡ n = length-replicate n 255 in
    rw (blob-code n, append-nil bs) (omega arith)

pub blob-with-text : (n : ℕ) → WithText (blob_list n)
blob-with-text n = (bytes-255 n, refl, tt)

pub blob-legal : (n limit : ℕ) → n + 12 ≤ limit → Legal limit (blob_list n)
blob-legal n limit h = ((bytes-255 n, tt), omega (arith, blob-bytes n))

-- LAW: the room is not wider than needed by more than 50: a legal list of 4,096 bytes whose text has 16,337 characters
pub near-room : Legal list_limit (blob_list 4084) × WithText (blob_list 4084) × (length (list_bytes (blob_list 4084)) ≡ list_limit)
    × (length (list_text (blob_list 4084)) ≡ 16337) × (text_room ≤ 16337 + 50)
near-room = (blob-legal 4084 list_limit (omega arith), blob-with-text 4084, blob-bytes 4084, blob-text 4083, omega arith)
