-- The examples of source document 002 as text, the second with its strings quoted, and the texts of some floats, as one table of the definitions.
use Prim.Native.Nat.{ℕ}
use mathlib.Core.Path.{◌≡◌, refl}
use mathlib.Core.List.{List, [], ◌∷◌}
use mathlib.Core.Option as option
use Rattle.digits.specs.Decimal.{decimal_of, is_decimal, more_decimal, decimal_at}
use Rattle.list.proofs.Cases.{primes, two_lists}
use Rattle.text.specs.Text.{is_printed, is_marked, float_text, list_text}
use Rattle.text.specs.Read.{sign_size, int_at, number_at, value_at}
use Rattle.text.specs.Tokens.{element_at, token_at, tokens_at}
use Rattle.text.specs.Reading.{forests, reading}

-- 2 3 5 7 11 13 17 19
pub prime_text : List ℕ
prime_text =
    50 ∷ 32 ∷ 51 ∷ 32 ∷ 53 ∷ 32 ∷ 55 ∷ 32 ∷ 49 ∷ 49 ∷ 32 ∷ 49 ∷ 51 ∷ 32 ∷ 49 ∷ 55 ∷ 32 ∷ 49 ∷ 57 ∷ []

-- (91 92 93) ("this" "is" "a" "good list")
pub two_list_text : List ℕ
two_list_text =
    40 ∷ 57 ∷ 49 ∷ 32 ∷ 57 ∷ 50 ∷ 32 ∷ 57 ∷ 51 ∷ 41 ∷ 32 ∷ 40 ∷ 34 ∷ 116 ∷ 104 ∷ 105 ∷ 115 ∷ 34 ∷ 32 ∷ 34 ∷ 105 ∷ 115 ∷ 34 ∷ 32 ∷ 34 ∷ 97 ∷ 34 ∷ 32 ∷
    34 ∷ 103 ∷ 111 ∷ 111 ∷ 100 ∷ 32 ∷ 108 ∷ 105 ∷ 115 ∷ 116 ∷ 34 ∷ 41 ∷ []

pub written : (list_text primes ≡ prime_text) × (list_text two_lists ≡ two_list_text)
unfolding decimal_of is_printed is_marked list_text prime_text two_list_text
written = (refl, refl)

-- -0x0.0000000000000p+0, 0x0.0000000000001p-1022 and 0x1.fffffffffffffp+1023
pub floats :
    (float_text 0 2147483648
    ≡ 45 ∷ 48 ∷ 120 ∷ 48 ∷ 46 ∷ 48 ∷ 48 ∷ 48 ∷ 48 ∷ 48 ∷ 48 ∷ 48 ∷ 48 ∷ 48 ∷ 48 ∷ 48 ∷ 48 ∷ 48 ∷ 112 ∷ 43 ∷ 48 ∷ [])
    × (float_text 1 0
    ≡ 48 ∷ 120 ∷ 48 ∷ 46 ∷ 48 ∷ 48 ∷ 48 ∷ 48 ∷ 48 ∷ 48 ∷ 48 ∷ 48 ∷ 48 ∷ 48 ∷ 48 ∷ 48 ∷ 49 ∷ 112 ∷ 45 ∷ 49 ∷ 48 ∷ 50 ∷ 50 ∷ [])
    × (float_text 4294967295 2146435071
    ≡ 48 ∷ 120 ∷ 49 ∷ 46 ∷ 102 ∷ 102 ∷ 102 ∷ 102 ∷ 102 ∷ 102 ∷ 102 ∷ 102 ∷ 102 ∷ 102 ∷ 102 ∷ 102 ∷ 102 ∷ 112 ∷ 43 ∷ 49 ∷ 48 ∷ 50 ∷ 51 ∷ [])
unfolding decimal_of
floats = (refl, refl, refl)

-- one bracket lost, a space too many and a leading zero are no text
pub wrong : (reading (40 ∷ []) ≡ option.none) × (reading (40 ∷ 32 ∷ 41 ∷ []) ≡ option.none) × (reading (48 ∷ 49 ∷ []) ≡ option.none)
unfolding is_decimal more_decimal decimal_at sign_size int_at number_at value_at element_at token_at tokens_at forests reading
wrong = (refl, refl, refl)
