-- Internal: areas that hold a legal list's rows and store bytes at their front.
use Rattle.std.specs.Prelude.{ℕ, ◌*◌, ◌≤◌, ◌≡◌, List, length, take}
use Rattle.list.specs.Limits.{list_limit}
use Rattle.list.specs.Tree.{Elements}
use Rattle.list.specs.Rows.{list_rows, list_store}
use Rattle.list.specs.RowBytes.{packed}
use Rattle.list.specs.Legal.{Legal}

-- m rows and u store bytes are those of a legal list
pub record Held (rows : List ℕ) (m : ℕ) (store : List ℕ) (u : ℕ) (es : Elements) : Type 0 where
  pub legal : Legal list_limit es
  pub few : 12 * m ≤ length rows
  pub rows_are : take (12 * m) rows ≡ packed (list_rows es)
  pub fits : u ≤ length store
  pub store_is : take u store ≡ list_store es
