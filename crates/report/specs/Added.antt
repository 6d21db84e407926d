-- Internal: text that is put together piece by piece in a buffer.
use Rattle.std.specs.Prelude.{ℕ, ◌+◌, ◌≡◌, List, ◌++◌, length, take}

-- the first `to` bytes are now the first `at` bytes of before, and then `x`
pub record Added (old : List ℕ) (at : ℕ) (new : List ℕ) (to : ℕ) (x : List ℕ) : Type 0 where
  pub front : take to new ≡ take at old ++ x
  pub size : to ≡ at + length x
