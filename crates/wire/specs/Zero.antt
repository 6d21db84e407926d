-- Zeros among bytes ("a 00 among the encoded bytes present"; "No other zero stands in a string").
use Rattle.std.specs.Prelude.{ℕ, zero, suc, Bool, true, false, List, [], ◌∷◌}

-- is one of the bytes 00
unfoldable pub has_zero : List ℕ → Bool
has_zero [] = false
has_zero (zero ∷ bs) = true
has_zero (suc b ∷ bs) = has_zero bs

-- how many bytes stand before the first 00; all of them where there is none
unfoldable pub zero_at : List ℕ → ℕ
zero_at [] = 0
zero_at (zero ∷ bs) = 0
zero_at (suc b ∷ bs) = suc (zero_at bs)

-- is every byte 00
unfoldable pub all_zero : List ℕ → Bool
all_zero [] = true
all_zero (zero ∷ bs) = all_zero bs
all_zero (suc b ∷ bs) = false
