-- A series of steps over the same bytes, "which nobody writes meanwhile".
use Rattle.std.specs.Prelude.{ℕ, ◌+◌, List, [], ◌∷◌}
use Rattle.list_decode.specs.Decode.{Outcome}
use Rattle.stream.specs.Step.{Found, accepted, ended, refused, step_of}

-- "At each step rows and store are lent in any size, holding anything"
pub record Lending : Type 0 where
  pub rows : List ℕ
  pub store : List ℕ

-- "the bytes taken there (0 for a refusal or the end)"
abbrev pub consumed_by : Found → ℕ
consumed_by (accepted consumed rows stored) = consumed
consumed_by ended = 0
consumed_by (refused r) = 0

-- "each later one the previous place plus the bytes taken there"; the first step is at `offset`
unfoldable pub series : List ℕ → ℕ → List Lending → List (Outcome Found)
series s offset [] = []
series s offset (l ∷ ls) =
    step_of s offset l.rows l.store ∷ series s (offset + consumed_by (step_of s offset l.rows l.store).answer) ls
