-- What a lent buffer holds after a write ("Success changes no part of an area beyond what was written").
use Rattle.std.specs.Prelude.{ℕ, ◌+◌, cond, ◌&&◌, List, ◌++◌, eqb, leb, length, drop}
use Rattle.std.proofs.lemmas.List.Edits.{sets}

-- `xs` at the front, and beyond it what the buffer held
abbrev pub over : {A : Type 0} → List A → List A → List A
over xs area = xs ++ drop (length xs) area

-- `xs` from the offset `at` on where all of it fits, else the buffer as it was
abbrev pub put_at : {A : Type 0} → List A → ℕ → List A → List A
put_at area at xs = cond (leb (at + length xs) (length area)) (sets area at xs) area

-- the longest source that is copied in one move
abbrev pub block_size : ℕ
block_size = 65536

-- `xs` over a buffer of its length, where it is at most one block; else the buffer as it was
abbrev pub replaced : {A : Type 0} → List A → List A → List A
replaced area xs = cond (eqb (length area) (length xs) && leb (length xs) block_size) xs area
