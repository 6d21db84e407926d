-- Internal: the steps of the search over a list that was judged. Public contracts do not cite this file.
use Rattle.std.specs.Prelude.{ℕ, ◌+◌, ◌≤◌, ◌≡◌, Bool, true, cond, ◌&&◌, List, [], eqb, length, take, drop, Option, Some, None}
use Rattle.wire.specs.Equal.{same}
use Rattle.list.specs.declared.Kind.TheVariants.{Str}
use Rattle.list.specs.Limits.{list_limit}
use Rattle.list.specs.Kind.{list_code, typed_code}
use Rattle.list.specs.Strings.{terminator, string_size}
use Rattle.list.specs.Tree.{Elements}
use Rattle.list.specs.Parse.{Parsed, good, bad, word}
use Rattle.list_check.specs.Check.{whole}
use Rattle.list_skip.specs.Skip.{elements_end}
use Rattle.setting.specs.declared.entry.Span.{Span}
use Rattle.setting.specs.declared.entry.Turn.{Turn}
use Rattle.setting.specs.declared.entry.Turn.TheVariants.{Found, Next}
use Rattle.setting.specs.Entry.{Search, at, nowhere, search_in}
use Rattle.setting.specs.Lookup.{Numbers, lookup, numbers_of}

-- the search in what was read, and in an area
abbrev pub in_read : List ℕ → Parsed Elements → Search
in_read key (good es end) = search_in key es
in_read key (bad r) = nowhere

abbrev pub search_area : List ℕ → List ℕ → Search
search_area key s = in_read key (whole s)

-- the elements that may be entries: those of a list whose elements carry their codes
abbrev pub candidate_count : List ℕ → ℕ
candidate_count s = cond (eqb (word s 0) list_code) (word s 4) 0

-- what the code's answer says
abbrev pub span_of : Option Span → Search
span_of (Some p) = at p.offset p.length
span_of None = nowhere

abbrev pub found_at : ℕ → ℕ → Turn
found_at offset length = Found (record { offset = offset; length = length })

-- a list of strings, and two of them
unfoldable pub is_entry : List ℕ → ℕ → Bool
is_entry s pos = eqb (word s pos) (typed_code Str) && eqb (word s (pos + 4)) 2

-- in an entry at an offset: where the value's length stands, and its bytes
abbrev pub second_at : List ℕ → ℕ → ℕ
second_at s pos = pos + 12 + word s (pos + 8)

abbrev pub setting_at : List ℕ → ℕ → ℕ
setting_at s pos = second_at s pos + 4

-- both strings are there
pub record EntryHere (s : List ℕ) (pos : ℕ) : Type 0 where
  pub key : length terminator ≤ word s (pos + 8)
  pub setting : length terminator ≤ word s (second_at s pos)
  pub inside : setting_at s pos + word s (second_at s pos) ≤ length s
  pub short : length s ≤ list_limit

-- an entry's value if it has the key, else where the next element begins
unfoldable pub entry_turn : List ℕ → List ℕ → ℕ → Turn
entry_turn s key pos =
    cond (same (take (string_size (word s (pos + 8))) (drop (pos + 12) s)) key)
    (found_at (setting_at s pos) (string_size (word s (second_at s pos))))
    (Next (setting_at s pos + word s (second_at s pos)))

-- any element
pub record ElementHere (s : List ℕ) (pos : ℕ) : Type 0 where
  pub some : pos + 8 ≤ length s
  pub short : length s ≤ list_limit
  pub entry : is_entry s pos ≡ true → EntryHere s pos

unfoldable pub turn_of : List ℕ → List ℕ → ℕ → Turn
turn_of s key pos = cond (is_entry s pos) (entry_turn s key pos) (Next (elements_end s 1 pos))

-- what an answer names lies within its list; m and n are the lists' lengths
abbrev pub Within : Numbers → ℕ → ℕ → Type 0
Within l m n = (l.list ≡ 1 → l.offset + l.length ≤ m) × (l.list ≡ 2 → l.offset + l.length ≤ n)

-- that part of the list that an answer names
abbrev pub part_of : Numbers → List ℕ → List ℕ → List ℕ
part_of l g h = cond (eqb l.list 1) (take l.length (drop l.offset g)) (cond (eqb l.list 2) (take l.length (drop l.offset h)) [])

-- an answer in numbers is the lookup's, and lies within the list that it names
pub record LookedUp (g h key : List ℕ) (l : Numbers) : Type 0 where
  pub is : l ≡ numbers_of (lookup g h key)
  pub within : Within l (length g) (length h)
