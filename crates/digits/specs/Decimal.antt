-- Numbers in decimal, without leading zeros: written, and read from the front of characters.
use Rattle.std.specs.Prelude.{ℕ, zero, suc, ◌+◌, ◌-◌, ◌*◌, ◌/◌, ◌%◌, Bool, cond, ◌&&◌, List, [], ◌∷◌, ◌++◌, eqb, ltb, leb}
use Rattle.digits.specs.Read.{Read, got, wrong}

-- a number in decimal, with at most `most` digits
unfoldable pub decimal_of : ℕ → ℕ → List ℕ
decimal_of zero n = []
decimal_of (suc most) n = cond (ltb n 10) ((48 + n) ∷ []) (decimal_of most (n / 10) ++ ((48 + n % 10) ∷ []))

-- a number of 64 bits has at most 20 digits
abbrev pub digit_room : ℕ
digit_room = 20

-- a number of 64 bits in decimal
abbrev pub decimal : ℕ → List ℕ
decimal n = decimal_of digit_room n

-- `0` to `9`
unfoldable pub is_decimal : ℕ → Bool
is_decimal c = leb 48 c && leb c 57

-- the digits behind `count` of them that make `value`, as far as they go; wrong where the number passes the limit
unfoldable pub more_decimal : ℕ → ℕ → ℕ → List ℕ → Read ℕ
more_decimal limit value count [] = got value count
more_decimal limit value count (c ∷ s) =
    cond (is_decimal c)
    (cond (leb (10 * value + (c - 48)) limit) (more_decimal limit (10 * value + (c - 48)) (suc count) s) wrong)
    (got value count)

-- the number at the front, at most the limit; behind a leading zero nothing is read
unfoldable pub decimal_at : ℕ → List ℕ → Read ℕ
decimal_at limit [] = wrong
decimal_at limit (c ∷ s) = cond (eqb c 48) (got 0 1) (cond (is_decimal c) (more_decimal limit (c - 48) 1 s) wrong)
