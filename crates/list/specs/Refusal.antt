-- A refusal of list reading.
use Rattle.std.specs.Prelude.{ℕ, suc, ◌+◌}
use Rattle.errors.specs.Number.{number_of}
use Rattle.list.specs.declared.Refusal as code

-- "Each refusal returns its number; the list reader and the run add the place of the item at fault, counted from the front";
-- "Each list-reading refusal is to carry the number of lists open at the fault"
pub record Refusal : Type 0 where
  pub number : ℕ
  pub offset : ℕ
  pub depth : ℕ

abbrev pub refusal_at : ℕ → ℕ → ℕ → Refusal
refusal_at number offset depth = record { number = number; offset = offset; depth = depth }

-- one that counts no list yet: `enclosed` adds each list around what was read
abbrev pub refusal : ℕ → ℕ → Refusal
refusal number offset = refusal_at number offset 0

-- the same refusal, with one list more open around what was read
abbrev pub enclosed : Refusal → Refusal
enclosed r = refusal_at r.number r.offset (suc r.depth)

-- the same refusal, of bytes that stand behind `size` others
abbrev pub moved : ℕ → Refusal → Refusal
moved size r = refusal_at r.number (size + r.offset) r.depth

-- what the code's answer says
abbrev pub refusal_of : code.Refusal → Refusal
refusal_of r = refusal_at (number_of r.error) r.offset r.depth
