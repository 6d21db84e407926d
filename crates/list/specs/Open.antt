-- The lists that are open at an offset, counted from the front over the bytes before it, by codes, counts and lengths alone: a list is open
-- from its count to the end of its last element. No tree is made and no fault is looked for.
use Rattle.std.specs.Prelude.{ℕ, zero, suc, ◌+◌, ◌-◌, cond, List, [], ◌∷◌, eqb, ltb, length, Option, Some, None}
use Rattle.list.specs.declared.Kind.{Kind}
use Rattle.list.specs.declared.Kind.TheVariants.{Int, Float, Str, Blob, Vocab}
use Rattle.list.specs.Kind.{kind_of, size_of, list_code}
use Rattle.list.specs.Parse.{word}

-- the bytes of an element without its code: a string's and a blob's are its length and what that counts
abbrev pub value_size : List ℕ → ℕ → Kind → ℕ
value_size s at Int = size_of Int
value_size s at Vocab = size_of Vocab
value_size s at Float = size_of Float
value_size s at Str = size_of Str + word s at
value_size s at Blob = size_of Blob + word s at

-- an open list, by the kind that its code names (`None` for 256): its count comes next, or so many of its elements are still to come
pub data Open : Type 0 where
  uncounted : Option Kind → Open
  counted : Option Kind → ℕ → Open

-- a list of which no element is to come is closed, and with it each list whose last element it was
unfoldable pub still_open : List Open → List Open
still_open [] = []
still_open (uncounted elements ∷ lists) = uncounted elements ∷ lists
still_open (counted elements zero ∷ lists) = still_open lists
still_open (counted elements (suc left) ∷ lists) = counted elements (suc left) ∷ lists

-- where the next step begins, and the lists that are open there, the innermost first
pub record Position : Type 0 where
  pub next : ℕ
  pub lists : List Open

abbrev pub position : ℕ → List Open → Position
position next lists = record { next = next; lists = lists }

-- an element that follows its code: a value, or a list, of which the code is passed
abbrev pub past_code : List ℕ → ℕ → List Open → Option Kind → Position
past_code s at lists (Some k) = position (at + 4 + value_size s (at + 4) k) (still_open lists)
past_code s at lists None = position (at + 4) (uncounted (kind_of (word s at - list_code)) ∷ lists)

-- one step: a count, an element without a code, or one that follows its code; behind the outermost list nothing is passed
abbrev pub past_item : List ℕ → ℕ → List Open → Position
past_item s at (uncounted elements ∷ lists) = position (at + 4) (still_open (counted elements (word s at) ∷ lists))
past_item s at (counted (Some k) (suc left) ∷ lists) = position (at + value_size s at k) (still_open (counted (Some k) left ∷ lists))
past_item s at (counted None (suc left) ∷ lists) = past_code s at (counted None left ∷ lists) (kind_of (word s at))
past_item s at (counted elements zero ∷ lists) = position at (still_open lists)
past_item s at [] = position at []

-- from `at` on, at most `steps` steps: the lists that are open at the offset `to`
unfoldable pub open_from : ℕ → List ℕ → ℕ → ℕ → List Open → ℕ
open_from zero s to at lists = length lists
open_from (suc steps) s to at lists =
    cond (ltb to (past_item s at lists).next) (length lists) (open_from steps s to (past_item s at lists).next (past_item s at lists).lists)

-- "0 at the outermost code"; behind it the outermost list is open. A step passes a byte or more, so `to` of them are enough
unfoldable pub open_at : List ℕ → ℕ → ℕ
open_at s to = cond (ltb to 4) 0 (open_from to s to 4 (uncounted (kind_of (word s 0 - list_code)) ∷ []))

-- "for 24 the depth of the list at fault": that list, whose code is at the offset, is counted as well
abbrev pub own_list : ℕ → ℕ
own_list number = cond (eqb number 24) 1 0

-- "the number of lists open at the fault"
abbrev pub depth_at : List ℕ → ℕ → ℕ → ℕ
depth_at s number offset = own_list number + open_at s offset
