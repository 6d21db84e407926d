-- The text of a list: the text format of source document 002 as ticket a reads it. Characters are their ASCII codes.
use Rattle.std.specs.Prelude.{ℕ, ◌-◌, ◌*◌, ◌/◌, ◌%◌, ◌^◌, Bool, true, false, cond, ◌&&◌, ◌||◌, List, [], ◌∷◌, ◌++◌, eqb, leb}
use Rattle.wire.specs.Number.{le_bytes}
use Rattle.digits.specs.Decimal.{decimal}
use Rattle.digits.specs.Fixed.{fixed}
use Rattle.list.specs.Limits.{list_limit}
use Rattle.list.specs.Strings.{negative}
use Rattle.list.specs.Tree.{Value, Elements, int, vocab, float, str, blob, none, value, list}

-- "the text never passes 16,384 characters": four for each byte that a list may have
abbrev pub text_room : ℕ
text_room = 4 * list_limit

-- "one space between elements": none before the first
abbrev pub gap : Bool → List ℕ
gap true = []
gap false = 32 ∷ []

-- "NetInt is decimal, minus where negative, no leading zeros": of the 32 bits n
abbrev pub int_text : ℕ → List ℕ
int_text n = cond (negative n) (45 ∷ decimal (2 ^ 32 - n)) (decimal n)

-- "quote and backslash get a backslash, bytes below 32 or above 126 become a backslash and three octal digits"
unfoldable pub is_printed : ℕ → Bool
is_printed b = leb 32 b && leb b 126

unfoldable pub is_marked : ℕ → Bool
is_marked b = eqb b 34 || eqb b 92

abbrev pub char_text : ℕ → List ℕ
char_text b = cond (is_printed b) (cond (is_marked b) (92 ∷ b ∷ []) (b ∷ [])) (92 ∷ fixed 8 3 b)

abbrev pub chars_text : List ℕ → List ℕ
chars_text [] = []
chars_text (b ∷ bs) = char_text b ++ chars_text bs

-- "NetString is always quoted"
abbrev pub string_text : List ℕ → List ℕ
string_text bs = 34 ∷ (chars_text bs ++ (34 ∷ []))

-- "Blob bytes are decimal without leading zeros, one space between them, within { }."
abbrev pub bytes_text : Bool → List ℕ → List ℕ
bytes_text first [] = []
bytes_text first (b ∷ bs) = gap first ++ (decimal b ++ bytes_text false bs)

abbrev pub blob_text : List ℕ → List ℕ
blob_text bs = 123 ∷ (bytes_text true bs ++ (125 ∷ []))

-- "NetVocab stands within [ ], one to four bytes .., lowest first, zeros only above them": the bytes below the first zero
abbrev pub until_zero : List ℕ → List ℕ
until_zero [] = []
until_zero (b ∷ bs) = cond (eqb b 0) [] (b ∷ until_zero bs)

abbrev pub letters : ℕ → List ℕ
letters n = until_zero (le_bytes 4 n)

abbrev pub vocab_text : ℕ → List ℕ
vocab_text n = 91 ∷ (letters n ++ (93 ∷ []))

-- a float's 64 bits from the highest: its sign, 11 bits of exponent and 52 of fraction, 20 of these in the high half
abbrev pub exponent_of : ℕ → ℕ
exponent_of high = high / 2 ^ 20 % 2 ^ 11

abbrev pub fraction_of : ℕ → ℕ
fraction_of high = high % 2 ^ 20

-- "sign if negative"
abbrev pub sign_text : ℕ → List ℕ
sign_text high = cond (negative high) (45 ∷ []) []

-- "p, a signed decimal exponent": the exponent is what its bits say less 1023
abbrev pub scale_text : ℕ → List ℕ
scale_text bits = 112 ∷ cond (leb 1023 bits) (43 ∷ decimal (bits - 1023)) (45 ∷ decimal (1023 - bits))

-- "zero is 0x0.0000000000000p+0, subnormals start 0x0. and use p-1022": the exponent bits whose scale is written
abbrev pub scale_of : ℕ → ℕ → ℕ
scale_of low high = cond (eqb (exponent_of high) 0) (cond (eqb low 0 && eqb (fraction_of high) 0) 1023 1) (exponent_of high)

abbrev pub lead_of : ℕ → ℕ
lead_of high = cond (eqb (exponent_of high) 0) 48 49

-- "0x1. and 13 lower-case digits"
abbrev pub frame_text : ℕ → ℕ → List ℕ
frame_text low high = 48 ∷ 120 ∷ lead_of high ∷ 46 ∷ (fixed 16 5 (fraction_of high) ++ fixed 16 8 low)

abbrev pub float_text : ℕ → ℕ → List ℕ
float_text low high = sign_text high ++ (frame_text low high ++ scale_text (scale_of low high))

abbrev pub value_text : Value → List ℕ
value_text (int n) = int_text n
value_text (vocab n) = vocab_text n
value_text (float low high) = float_text low high
value_text (str bs) = string_text bs
value_text (blob bs) = blob_text bs

-- "inner lists stand in ( ), one space between elements"
abbrev pub elements_text : Bool → Elements → List ℕ
elements_text first none = []
elements_text first (value v es) = gap first ++ (value_text v ++ elements_text false es)
elements_text first (list inner es) = gap first ++ (40 ∷ (elements_text true inner ++ (41 ∷ elements_text false es)))

-- "The top list has no brackets"
unfoldable pub list_text : Elements → List ℕ
list_text es = elements_text true es
