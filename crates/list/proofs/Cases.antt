-- 01's starred cases of lists, as one table of the definitions.
use Prim.Native.Nat.{ℕ, zero, suc}
use mathlib.Core.Path.{◌≡◌, refl}
use mathlib.Core.List.{List, [], ◌∷◌, ◌++◌}
use Rattle.wire.specs.Zero.{has_zero}
use Rattle.wire.specs.Equal.{same}
use Rattle.list.specs.Kind.{kind_of}
use Rattle.list.specs.Limits.{list_limit}
use Rattle.list.specs.Tree.{Elements, int, str, none, value, list}
use Rattle.list.specs.Bytes.{number, code_for, list_bytes}
use Rattle.list.specs.Rows.{row_count}
use Rattle.list.specs.Refusal.{refusal, refusal_at}
use Rattle.list.specs.Open.{still_open, open_from, open_at}
use Rattle.list.specs.Parse.{good, bad, item_fault, string_at, blob_at, value_at, typed_at, is_list_code, coded_at, mixed_at, body_at, list_at, parse}

-- "2 3 5 7 11 13 17 19"
abbrev pub primes : Elements
primes = value (int 2) (value (int 3) (value (int 5) (value (int 7) (value (int 11) (value (int 13) (value (int 17) (value (int 19) none)))))))

abbrev pub prime_bytes : List ℕ
prime_bytes = number 257 ++ number 8 ++ number 2 ++ number 3 ++ number 5 ++ number 7 ++ number 11 ++ number 13 ++ number 17 ++ number 19

-- (91 92 93) (this is a "good list")
abbrev this : List ℕ
this = 116 ∷ 104 ∷ 105 ∷ 115 ∷ []

abbrev is : List ℕ
is = 105 ∷ 115 ∷ []

abbrev a : List ℕ
a = 97 ∷ []

abbrev good_list : List ℕ
good_list = 103 ∷ 111 ∷ 111 ∷ 100 ∷ 32 ∷ 108 ∷ 105 ∷ 115 ∷ 116 ∷ []

abbrev pub two_lists : Elements
two_lists =
    list (value (int 91) (value (int 92) (value (int 93) none)))
    (list (value (str this) (value (str is) (value (str a) (value (str good_list) none)))) none)

abbrev pub two_list_bytes : List ℕ
two_list_bytes =
    number 256 ++ number 2 ++ number 257 ++ number 3 ++ number 91 ++ number 92 ++ number 93 ++ number 260 ++ number 4
    ++ number 5 ++ this ++ (0 ∷ []) ++ number 3 ++ is ++ (0 ∷ []) ++ number 2 ++ a ++ (0 ∷ []) ++ number 10 ++ good_list ++ (0 ∷ [])

pub cases :
    ((parse list_limit prime_bytes ≡ good primes 40) × (list_bytes primes ≡ prime_bytes) × (row_count primes ≡ 9))
    × ((parse list_limit two_list_bytes ≡ good two_lists 72) × (list_bytes two_lists ≡ two_list_bytes) × (row_count two_lists ≡ 10))
    × (parse list_limit (number 256 ++ number 0) ≡ good none 8)
    × (parse list_limit (number 257 ++ number 0) ≡ bad (refusal_at 24 0 1))
    × (parse list_limit (number 256 ++ number 1 ++ number 1 ++ number 5) ≡ bad (refusal_at 24 0 1))
    × (parse list_limit (number 512 ++ number 0) ≡ bad (refusal 22 0))
unfolding has_zero same kind_of code_for list_bytes item_fault string_at blob_at value_at typed_at is_list_code coded_at mixed_at body_at list_at parse
cases = ((refl, refl, refl), (refl, refl, refl), refl, refl, refl, refl)

-- DEPTHS, as reading gives them and as the bytes before the place count them

-- lists that each hold the next one, n of them and the code of another
abbrev nested : ℕ → List ℕ
nested zero = number 256
nested (suc n) = number 256 ++ number 1 ++ nested n

-- an int, an empty list, and ints of which the second is cut
abbrev cut_ints : List ℕ
cut_ints = number 256 ++ number 4 ++ number 1 ++ number 7 ++ number 256 ++ number 0 ++ number 257 ++ number 2 ++ number 5 ++ (1 ∷ [])

pub depths :
    -- no list is open at the outermost code, and one at its count
    (parse list_limit [] ≡ bad (refusal 21 0))
    × (parse list_limit (number 256) ≡ bad (refusal_at 21 4 1))
    -- a nested list's code, its count, its elements and its own fault
    × (parse list_limit (number 256 ++ number 1 ++ number 7) ≡ bad (refusal_at 26 8 1))
    × (parse list_limit (nested 1) ≡ bad (refusal_at 21 12 2))
    × (parse list_limit (number 256 ++ number 1 ++ number 257 ++ number 4294967295) ≡ bad (refusal_at 23 12 2))
    × (parse list_limit cut_ints ≡ bad (refusal_at 21 36 2))
    × (parse list_limit (number 260 ++ number 1 ++ number 0) ≡ bad (refusal_at 25 8 1))
    × (parse list_limit (number 268 ++ number 1 ++ number 4096) ≡ bad (refusal_at 28 12 1))
    × (parse list_limit (number 256 ++ number 1 ++ number 257 ++ number 0) ≡ bad (refusal_at 24 8 2))
    -- the eighth list's count, and the ninth list's code
    × (parse list_limit (nested 7) ≡ bad (refusal_at 21 60 8))
    × (parse list_limit (nested 8) ≡ bad (refusal_at 27 64 8))
unfolding has_zero same kind_of code_for item_fault string_at blob_at value_at typed_at is_list_code coded_at mixed_at body_at list_at parse
depths = (refl, refl, refl, refl, refl, refl, refl, refl, refl, refl, refl)

pub opens :
    (open_at (number 256) 4 ≡ 1)
    × (open_at cut_ints 0 ≡ 0) × (open_at cut_ints 12 ≡ 1) × (open_at cut_ints 16 ≡ 1) × (open_at cut_ints 20 ≡ 2) × (open_at cut_ints 24 ≡ 1)
    × (open_at cut_ints 28 ≡ 2) × (open_at cut_ints 36 ≡ 2)
    × (open_at (nested 8) 60 ≡ 8) × (open_at (nested 8) 64 ≡ 8)
unfolding kind_of still_open open_from open_at
opens = (refl, refl, refl, refl, refl, refl, refl, refl, refl, refl)
