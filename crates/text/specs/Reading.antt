-- Reading a text: the list whose text it is, if there is one.
use Rattle.std.specs.Prelude.{List, [], ◌∷◌, ℕ, true}
use Rattle.std.proofs.Math.Option.{Option, some}
use Rattle.std.proofs.Math.Option as option
use Rattle.list.specs.Tree.{Value, Elements, none, value, list}
use Rattle.text.specs.Tokens.{Token, opening, closing, item, tokens_at}

-- elements behind a token, from the front: those up to the next closing bracket that nothing opened, then those behind it, and so on
abbrev pub value_before : Value → List Elements → Option (List Elements)
value_before v [] = option.none
value_before v (es ∷ behind) = some (value v es ∷ behind)

abbrev pub list_before : List Elements → Option (List Elements)
list_before [] = option.none
list_before (inner ∷ []) = option.none
list_before (inner ∷ es ∷ behind) = some (list inner es ∷ behind)

abbrev pub and_forests : Option (List Elements) → (List Elements → Option (List Elements)) → Option (List Elements)
and_forests (some behind) go = go behind
and_forests option.none go = option.none

abbrev pub before : Token → Option (List Elements) → Option (List Elements)
before (item v) behind = and_forests behind (value_before v)
before closing behind = and_forests behind (λ more. some (none ∷ more))
before opening behind = and_forests behind list_before

unfoldable pub forests : List Token → Option (List Elements)
forests [] = some (none ∷ [])
forests (t ∷ ts) = before t (forests ts)

-- every bracket has its other
abbrev pub whole : Option (List Elements) → Option Elements
whole (some (es ∷ [])) = some es
whole (some (es ∷ es' ∷ behind)) = option.none
whole (some []) = option.none
whole option.none = option.none

abbrev pub tree_of : Option (List Token) → Option Elements
tree_of (some ts) = whole (forests ts)
tree_of option.none = option.none

-- 32: "the whole area is not such a text, whatever its depth or size"
unfoldable pub reading : List ℕ → Option Elements
reading s = tree_of (tokens_at true 0 s)
