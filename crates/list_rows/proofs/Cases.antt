-- What rows and store describe in cases of 30 and of 01's examples, and how they are judged, as one table of the definitions.
use Prim.Native.Nat.{ℕ}
use mathlib.Core.Path.{◌≡◌, refl}
use mathlib.Core.List.{List, [], ◌∷◌, ◌++◌}
use mathlib.Core.Option.{some}
use mathlib.Core.Option as option
use Rattle.wire.specs.Zero.{has_zero}
use Rattle.wire.specs.Equal.{same}
use Rattle.list.specs.Kind.{kind_of}
use Rattle.list.specs.Tree.{none, value, str, blob}
use Rattle.list.specs.Bytes.{code_for, list_bytes}
use Rattle.list.specs.Rows.{list_rows, list_store}
use Rattle.list.specs.RowBytes.{packed, unpacked}
use Rattle.list.proofs.Cases.{primes, two_lists}
use Rattle.list_rows.specs.Described.{elements_of, describes, described, list_in}
use Rattle.list_rows.specs.Judge.{accepted, refused, fitting, judged, judging_of}

-- a list's row, an int's, and eight lists in one another
abbrev many : ℕ → List ℕ
many n = 256 ∷ n ∷ 0 ∷ []

abbrev number : ℕ → List ℕ
number n = 1 ∷ n ∷ 0 ∷ []

abbrev eight : List ℕ
eight = many 1 ++ many 1 ++ many 1 ++ many 1 ++ many 1 ++ many 1 ++ many 1 ++ many 0

pub cases :
    (list_in (packed (list_rows primes)) (list_store primes) ≡ some primes)
    × (list_in (packed (list_rows two_lists)) (list_store two_lists) ≡ some two_lists)
    × (list_in (packed (many 0)) [] ≡ some none)
    × (list_in (packed (many 2 ++ (4 ∷ 0 ∷ 2 ∷ 12 ∷ 2 ∷ 0 ∷ []))) (97 ∷ 98 ∷ []) ≡ some (value (str (97 ∷ 98 ∷ [])) (value (blob []) none)))
    × (list_in [] [] ≡ option.none)
    × (list_in (packed (256 ∷ 0 ∷ [])) [] ≡ option.none)
    × (list_in (packed (many 0) ++ (0 ∷ [])) [] ≡ option.none)
    × (list_in (packed (number 5)) [] ≡ option.none)
    × (list_in (packed (many 1)) [] ≡ option.none)
    × (list_in (packed (many 0 ++ number 5)) [] ≡ option.none)
    × (list_in (packed (many 1 ++ (257 ∷ 0 ∷ 0 ∷ []))) [] ≡ option.none)
    × (list_in (packed (many 1 ++ (1 ∷ 5 ∷ 1 ∷ []))) [] ≡ option.none)
    × (list_in (packed (256 ∷ 0 ∷ 1 ∷ [])) [] ≡ option.none)
    × (list_in (packed (many 1 ++ (12 ∷ 1 ∷ 0 ∷ []))) [] ≡ option.none)
    × (list_in (packed (many 1 ++ (12 ∷ 0 ∷ 4294967295 ∷ []))) (97 ∷ []) ≡ option.none)
    × (list_in (packed (many 1 ++ (12 ∷ 0 ∷ 1 ∷ []))) (97 ∷ 98 ∷ []) ≡ option.none)
    × (list_in (packed (many 1 ++ (4 ∷ 0 ∷ 1 ∷ []))) (0 ∷ []) ≡ option.none)
    × (judging_of (packed (list_rows primes)) (list_store primes) ≡ accepted 40)
    × (judging_of (packed (list_rows two_lists)) (list_store two_lists) ≡ accepted 72)
    × (judging_of (packed eight) [] ≡ accepted 64)
    × (judging_of (packed (many 1 ++ eight)) [] ≡ refused 27)
    × (judging_of (packed (many 1 ++ eight ++ number 5)) [] ≡ refused 30)
    × (judged 63 (list_in (packed eight) []) ≡ refused 28)
unfolding has_zero same kind_of code_for list_bytes unpacked elements_of describes described list_in fitting
cases =
    (refl, refl, refl, refl, refl, refl, refl, refl, refl, refl, refl, refl, refl, refl, refl, refl, refl, refl, refl, refl, refl, refl, refl)
