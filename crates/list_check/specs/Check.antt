-- Judging a list: its reading with the tree forgotten.
use Rattle.std.specs.Prelude.{ℕ, ◌≡◌, cond, List, eqb, length, Result, Ok, Err}
use Rattle.list.specs.Limits.{list_limit}
use Rattle.list.specs.declared.Refusal as code
use Rattle.list.specs.Refusal.{Refusal, refusal, refusal_of}
use Rattle.list.specs.Tree.{Elements}
use Rattle.list.specs.Parse.{Parsed, good, bad, and_then, parse}

-- what judging finds: where the list ends, or the number of the refusal, "the place of the item at fault" and "the number of lists open at
-- the fault"
pub data Verdict : Type 0 where
  accepted : (end : ℕ) → Verdict
  refused : Refusal → Verdict

-- the values for each case of the answer
abbrev pub verdict_of : Result ℕ code.Refusal → Verdict
verdict_of (Ok end) = accepted end
verdict_of (Err r) = refused (refusal_of r)

-- what was read is forgotten, the offset behind it stays
abbrev pub judged : {A : Type 0} → Parsed A → Verdict
judged (good a end) = accepted end
judged (bad r) = refused r

-- "The reader judges the list at the front": what judging promises
abbrev pub checking_of : List ℕ → Verdict
checking_of s = judged (parse list_limit s)

-- an area that is to be one list: "29, bytes left after a list, at the first of them, comes last";
-- "0 .. for 20 and 29"
unfoldable pub whole : List ℕ → Parsed Elements
whole s = and_then (parse list_limit s) (λ es end. cond (eqb end (length s)) (good es end) (bad (refusal 29 end)))

-- it is one
abbrev pub IsWhole : List ℕ → Type 0
IsWhole s = (es : Elements) × (end : ℕ) × (whole s ≡ good es end)

-- the fault of what was read, its number 0 where there is none
abbrev pub fault_of : {A : Type 0} → Parsed A → Refusal
fault_of (good a end) = refusal 0 0
fault_of (bad r) = r

-- what the code's answer says of it
abbrev pub found_of : {A : Type 0} → Result A code.Refusal → Refusal
found_of (Ok a) = refusal 0 0
found_of (Err r) = refusal_of r
