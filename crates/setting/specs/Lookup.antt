-- Looking up a key in a guest's settings list and the house's.
use Rattle.std.specs.Prelude.{ℕ, List, [], take, drop, Option, Some, None, Result, Ok, Err}
use Rattle.errors.specs.Number as error
use Rattle.list.specs.Refusal.{Refusal}
use Rattle.list.specs.Tree.{Elements}
use Rattle.list.specs.Parse.{Parsed, good, bad}
use Rattle.list_check.specs.Check.{whole}
use Rattle.setting.specs.declared.Owner.{Owner}
use Rattle.setting.specs.declared.Owner.TheVariants.{Guest, House}
use Rattle.setting.specs.declared.Located.{Located}
use Rattle.setting.specs.declared.Refused.{Refused}
use Rattle.setting.specs.Entry.{Search, at, nowhere, search_in}

-- what a lookup finds: the value's bytes in one of the lists, the refusal of one of them, or 33, "key in neither"
pub data Finding : Type 0 where
  found : Owner → (offset size : ℕ) → Finding
  refused : Owner → Refusal → Finding
  missing : Finding

-- "if an entry is there and otherwise that part of the house list"
abbrev pub choice : Search → Search → Finding
choice (at offset size) other = found Guest offset size
choice nowhere (at offset size) = found House offset size
choice nowhere nowhere = missing

-- "those of reading (never 20) the guest's list, then the house list, each the whole area": both are read, whichever has the key
abbrev pub decided : List ℕ → Parsed Elements → Parsed Elements → Finding
decided key (bad r) other = refused Guest r
decided key (good es end) (bad r) = refused House r
decided key (good es end) (good fs last) = choice (search_in key es) (search_in key fs)

unfoldable pub lookup : List ℕ → List ℕ → List ℕ → Finding
lookup g h key = decided key (whole g) (whole h)

-- 1 for the guest's list, 2 for the house's
abbrev pub number_of : Owner → ℕ
number_of Guest = 1
number_of House = 2

-- 0 for neither list
abbrev pub list_number : Option Owner → ℕ
list_number (Some o) = number_of o
list_number None = 0

-- a finding in numbers: the error, 0 for none, the list, and there the value's bytes, or the place and the depth of the fault
pub record Numbers : Type 0 where
  pub error : ℕ
  pub list : ℕ
  pub offset : ℕ
  pub length : ℕ
  pub depth : ℕ

-- no error, the list, and the value's bytes there
abbrev pub found_in : ℕ → ℕ → ℕ → Numbers
found_in list offset size = record { error = 0; list = list; offset = offset; length = size; depth = 0 }

-- "each .. named with the place"; "the settings lookup .. pass it on": the depth in that list
abbrev pub refused_in : ℕ → Refusal → Numbers
refused_in list r = record { error = r.number; list = list; offset = r.offset; length = 0; depth = r.depth }

-- 33 names no list, no place and no depth
abbrev pub missing_key : Numbers
missing_key = record { error = 33; list = 0; offset = 0; length = 0; depth = 0 }

abbrev pub numbers_of : Finding → Numbers
numbers_of (found o offset size) = found_in (number_of o) offset size
numbers_of (refused o r) = refused_in (number_of o) r
numbers_of missing = missing_key

-- what the code's answer says
abbrev pub numbers_in : Result Located Refused → Numbers
numbers_in (Ok l) = found_in (number_of l.list) l.offset l.length
numbers_in (Err r) = record { error = error.number_of r.error; list = list_number r.list; offset = r.offset; length = 0; depth = r.depth }

-- an answer with the bytes of the value
pub record Answer : Type 0 where
  pub error : ℕ
  pub list : ℕ
  pub offset : ℕ
  pub part : List ℕ
  pub depth : ℕ

abbrev pub answer : ℕ → ℕ → ℕ → List ℕ → ℕ → Answer
answer error list offset part depth = record { error = error; list = list; offset = offset; part = part; depth = depth }

-- the area of the one list or the other
abbrev pub area_of : Owner → List ℕ → List ℕ → List ℕ
area_of Guest g h = g
area_of House g h = h

-- "give back the bytes of its string, without the closing zero, as that part of the guest's list .. and otherwise that part of the house list"
abbrev pub given_back : List ℕ → List ℕ → Finding → List ℕ
given_back g h (found o offset size) = take size (drop offset (area_of o g h))
given_back g h (refused o r) = []
given_back g h missing = []

abbrev pub answer_of : List ℕ → List ℕ → Finding → Answer
answer_of g h f = answer (numbers_of f).error (numbers_of f).list (numbers_of f).offset (given_back g h f) (numbers_of f).depth
