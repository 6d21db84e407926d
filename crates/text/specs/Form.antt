-- Which lists have a text. 31: "no text form (infinities, NaNs, other vocabs)"
use Rattle.std.specs.Prelude.{ℕ, ◌-◌, ◌^◌, ◌≡◌, Bool, true, not, ◌&&◌, ◌||◌, List, [], ◌∷◌, eqb, leb, length}
use Rattle.wire.specs.Number.{le_value}
use Rattle.list.specs.Tree.{Value, Elements, int, vocab, float, str, blob, none, value, list}
use Rattle.list.specs.Legal.{LegalValue}
use Rattle.text.specs.Text.{letters, exponent_of}

-- "bytes from 33 to 126, neither [ nor ]"
unfoldable pub is_letter : ℕ → Bool
is_letter b = (leb 33 b && leb b 126) && not (eqb b 91 || eqb b 93)

abbrev pub all_letters : List ℕ → Bool
all_letters [] = true
all_letters (b ∷ bs) = is_letter b && all_letters bs

-- "one to four bytes .., zeros only above them": the bytes below the first zero are all that the number has
unfoldable pub is_vocab : ℕ → Bool
is_vocab n = not (eqb (length (letters n)) 0) && (all_letters (letters n) && eqb (le_value (letters n)) n)

-- neither an infinity nor a NaN: their exponent bits are all ones
unfoldable pub is_finite : ℕ → Bool
is_finite high = not (eqb (exponent_of high) (2 ^ 11 - 1))

abbrev pub has_form : Value → Bool
has_form (int n) = true
has_form (vocab n) = is_vocab n
has_form (float low high) = is_finite high
has_form (str bs) = true
has_form (blob bs) = true

abbrev pub all_have_form : Elements → Bool
all_have_form none = true
all_have_form (value v es) = has_form v && all_have_form es
all_have_form (list inner es) = all_have_form inner && all_have_form es

-- what has a text, at any depth and of any size: legal values that have a text form
abbrev pub WithText : Elements → Type 0
WithText none = Unit {0}
WithText (value v es) = LegalValue v × (has_form v ≡ true) × WithText es
WithText (list inner es) = WithText inner × WithText es
