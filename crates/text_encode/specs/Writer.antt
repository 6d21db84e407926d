-- Internal: what is written to a text area, one piece behind the other. Public contracts do not cite this file.
use Rattle.std.specs.Prelude.{ℕ, ◌+◌, ◌≤◌, ◌≡◌, List, length}
use Rattle.std.proofs.lemmas.List.Edits.{sets}
use Rattle.text_encode.specs.declared.writer.Writer.{Writer}

-- there is room for it
pub record HasRoom (w : Writer) (xs : List ℕ) : Type 0 where
  pub fits : w.end + length xs ≤ length w.text.now

-- it was written, behind what stood there
pub record Wrote (w v : Writer) (xs : List ℕ) : Type 0 where
  pub same_area : v.text.ghost_name ≡ w.text.ghost_name
  pub text : v.text.now ≡ sets w.text.now w.end xs
  pub end : v.end ≡ w.end + length xs
