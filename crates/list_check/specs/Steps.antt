-- Internal: the steps of the checker, which the contracts of private functions cite.
use Rattle.std.specs.Prelude.{ℕ, zero, suc, ◌+◌, ◌*◌, ◌/◌, ◌%◌, ◌<◌, ◌≤◌, ◌≡◌, cond, List, [], ◌∷◌, eqb, ltb}
use Rattle.list.specs.Limits.{list_limit}
use Rattle.list.specs.declared.Kind.{Kind}
use Rattle.list.specs.Kind.{code_of, list_code, typed_code}
use Rattle.list.specs.Refusal.{Refusal, refusal, refusal_at, enclosed}
use Rattle.list.specs.Bytes.{code_for}
use Rattle.list.specs.Parse.{Parsed, good, bad, in_list, typed_at, finished}
use Rattle.list_check.specs.Check.{Verdict, accepted, refused, judged}

-- the lists that the checker's number counts around a refusal
abbrev pub depth_of : ℕ → ℕ
depth_of bits = bits / (256 * (2 * list_limit))

-- the number of a refusal in it
abbrev pub number_in : ℕ → ℕ
number_in bits = bits / (2 * list_limit) % 256

-- the numbers of the refusals that judging finds
abbrev pub IsFault : ℕ → Type 0
IsFault number = (20 < number) × (number ≤ 28)

-- what the checker's number says: an offset up to the limit, or a refusal
unfoldable pub told_by : ℕ → Verdict
told_by bits =
    cond (ltb list_limit bits)
    (refused (refusal_at (number_in bits) (bits % (2 * list_limit)) (depth_of bits)))
    (accepted bits)

-- a verdict on what stands in a list, seen from outside it
abbrev pub enclosing : Verdict → Verdict
enclosing (accepted end) = accepted end
enclosing (refused r) = refused (enclosed r)

-- a number that tells the refusal of what was to be read
abbrev pub Refuses : {A : Type 0} → ℕ → Parsed A → Type 0
Refuses bits (good a end) = ⊥
Refuses bits (bad r) = told_by bits ≡ refused r

-- the refusal of an item of n bytes that is not all there
abbrev pub missing_at : ℕ → ℕ → Refusal
missing_at at n = refusal (cond (ltb list_limit (at + n)) 28 21) at

-- the offset of the first zero, the length where there is none
unfoldable pub first_zero : List ℕ → ℕ
first_zero [] = 0
first_zero (zero ∷ bs) = 0
first_zero (suc b ∷ bs) = suc (first_zero bs)

-- behind the last element: the list's code 256, at `at`, must be the one that the elements call for
unfoldable pub close_of : ℕ → ℕ → ℕ → Verdict
close_of at seen end = cond (eqb list_code (code_for seen)) (accepted end) (refused (refusal_at 24 at 1))

-- a number that tells of a typed list of n elements, by the code of its kind
abbrev pub TypedAnswer : List ℕ → ℕ → ℕ → ℕ → ℕ → Type 0
TypedAnswer s at code n bits =
    (k : Kind) → code ≡ code_of k → told_by bits ≡ judged (in_list (finished (typed_code k) at (typed_at list_limit s k n (at + 8))))
