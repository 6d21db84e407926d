-- Internal: how deep lists stand in one another, found row by row. Of the innermost open list `left` elements are still to come, and `outer`
-- says the same of the lists around it, the inner before the outer.
use Rattle.std.specs.Prelude.{ℕ, zero, suc, Bool, true, false, cond, List, [], ◌∷◌, eqb, leb, length}
use Rattle.list.specs.Kind.{list_code}
use Rattle.list.specs.Limits.{depth_limit}
use Rattle.list.specs.RowBytes.{row_at}
use Rattle.list_rows.specs.Row.{rows_from}

-- what is next: where an element is to come, `element` of the lists around it and of how many come behind it; else `close` of how many are still
-- to come around the list that ends here and of what is next there, or `end` behind the outermost list
unfoldable pub next_in : {A : Type 0} → (ℕ → A → A) → A → (List ℕ → ℕ → A) → List ℕ → ℕ → A
next_in close end element [] zero = end
next_in close end element [] (suc left) = element [] left
next_in close end element (n ∷ outer) zero = close n (next_in close end element outer n)
next_in close end element (n ∷ outer) (suc left) = element (n ∷ outer) left

-- does one of these rows open a list that stands too deep?
unfoldable pub deep_from : List ℕ → List ℕ → ℕ → Bool
deep_from [] outer left = false
deep_from (a ∷ []) outer left = false
deep_from (a ∷ b ∷ []) outer left = false
deep_from (a ∷ b ∷ c ∷ rows) outer left =
    next_in (λ n deep. deep) false
    (λ around n. cond (eqb a list_code) (cond (leb depth_limit (suc (length around))) true (deep_from rows (n ∷ around) b)) (deep_from rows around n))
    outer left

-- the same of all rows of a list, whose first is its own
unfoldable pub too_deep : List ℕ → Bool
too_deep rows = deep_from (rows_from rows 1) [] (row_at rows 0).second
