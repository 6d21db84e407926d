-- Lookups computed from the bytes alone: which list, which entry, where the value stands, and each refusal's list and place.
use Prim.Native.Nat.{ℕ}
use mathlib.Core.Path.{◌≡◌, refl}
use mathlib.Core.List.{List, [], ◌∷◌, ◌++◌}
use lib.ListN.{take}
use Rattle.wire.specs.Zero.{has_zero}
use Rattle.wire.specs.Equal.{same}
use Rattle.list.specs.Kind.{kind_of}
use Rattle.list.specs.Bytes.{number, code_for}
use Rattle.list.specs.Refusal.{refusal, refusal_at}
use Rattle.list.specs.Parse.{item_fault, string_at, blob_at, value_at, typed_at, is_list_code, coded_at, mixed_at, body_at, list_at, parse}
use Rattle.list_check.specs.Check.{whole}
use Rattle.setting.specs.Entry.{search_from}
use Rattle.setting.specs.declared.Owner.TheVariants.{Guest, House}
use Rattle.setting.specs.Lookup.{found, refused, missing, lookup}

-- strings of one character and of none, and an entry of the two
abbrev a : List ℕ
a = 97 ∷ []

abbrev b : List ℕ
b = 98 ∷ []

abbrev c : List ℕ
c = 99 ∷ []

abbrev one : List ℕ → List ℕ
one s = number 2 ++ s ++ (0 ∷ [])

abbrev empty : List ℕ
empty = number 1 ++ (0 ∷ [])

abbrev entry_bytes : List ℕ → List ℕ → List ℕ
entry_bytes k v = number 260 ++ number 2 ++ k ++ v

-- a = b, a = c, and the empty key
abbrev own : List ℕ
own = number 256 ++ number 3 ++ entry_bytes (one a) (one b) ++ entry_bytes (one a) (one c) ++ entry_bytes empty (one c)

-- an int, a list of three strings from a on, an entry within a list, c = the empty string, a = c
abbrev other : List ℕ
other =
    number 256 ++ number 5 ++ (number 1 ++ number 7) ++ (number 260 ++ number 3 ++ one b ++ one a ++ one a)
    ++ (number 256 ++ number 1 ++ entry_bytes (one b) (one a)) ++ entry_bytes (one c) empty ++ entry_bytes (one a) (one c)

-- two strings that are the whole list
abbrev bare : List ℕ
bare = entry_bytes (one a) (one b)

pub cases :
    (lookup own other a ≡ found Guest 26 1)
    × (lookup other own a ≡ found Guest 107 1)
    × (lookup bare own a ≡ found House 26 1)
    × (lookup own other [] ≡ found Guest 65 1)
    × (lookup own other c ≡ found House 88 0)
    × (lookup own other b ≡ missing)
    × (lookup own other (97 ∷ 0 ∷ []) ≡ missing)
    × (lookup (own ++ (0 ∷ [])) [] a ≡ refused Guest (refusal 29 67))
    × (lookup own (other ++ (0 ∷ [])) a ≡ refused House (refusal 29 109))
    × (lookup own [] a ≡ refused House (refusal 21 0))
    × (lookup [] [] a ≡ refused Guest (refusal 21 0))
    × (lookup own (take 66 own) a ≡ refused House (refusal_at 21 65 2))
unfolding has_zero same kind_of code_for item_fault string_at blob_at value_at typed_at is_list_code coded_at mixed_at body_at list_at parse whole search_from lookup
cases = (refl, refl, refl, refl, refl, refl, refl, refl, refl, refl, refl, refl)
