-- The limits of 01's section "Lists", each named once.
use Rattle.std.specs.Prelude.{ℕ}

-- "A list has at most 4,096 bytes"
abbrev pub list_limit : ℕ
list_limit = 4096

-- "list area or store under 4,096"
abbrev pub store_room : ℕ
store_room = 4096

-- "rows under 3,072 numbers"
abbrev pub row_room : ℕ
row_room = 3072

-- "A list may stand inside a list to depth 8, the outermost being 1"
abbrev pub depth_limit : ℕ
depth_limit = 8

-- "rows of three 32-bit numbers": how many numbers a row has
abbrev pub row_numbers : ℕ
row_numbers = 3
