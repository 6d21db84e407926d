-- A list's text as tokens: brackets and the elements between them, with one space where one must stand.
use Rattle.std.specs.Prelude.{ℕ, zero, suc, ◌-◌, Bool, true, false, cond, List, [], ◌∷◌, ◌++◌, eqb}
use Rattle.std.proofs.Math.Option.{Option, some}
use Rattle.std.proofs.Math.Option as option
use Rattle.digits.specs.Read.{Read, got, wrong, and_read}
use Rattle.list.specs.Tree.{Value, Elements, none, value, list}
use Rattle.text.specs.Read.{value_at}

pub data Token : Type 0 where
  opening closing : Token
  item : Value → Token

-- straight behind an opening bracket no space stands
abbrev pub opens : Token → Bool
opens opening = true
opens closing = false
opens (item v) = false

-- an element's first token
abbrev pub item_token : Value → ℕ → Read Token
item_token v count = got (item v) count

unfoldable pub element_at : List ℕ → Read Token
element_at [] = wrong
element_at (c ∷ s) = cond (eqb c 40) (got opening 1) (and_read (value_at (c ∷ s)) item_token)

-- the token at the front, with the space before it; `first` where an element that comes would be its list's first
abbrev pub spaced : Token → ℕ → Read Token
spaced t count = got t (suc count)

unfoldable pub token_at : Bool → List ℕ → Read Token
token_at first [] = wrong
token_at first (c ∷ s) =
    cond (eqb c 41) (got closing 1)
    (cond first (element_at (c ∷ s)) (cond (eqb c 32) (and_read (element_at s) spaced) wrong))

-- all tokens; `skip` characters were read already
abbrev pub token_then : Token → Option (List Token) → Option (List Token)
token_then t (some ts) = some (t ∷ ts)
token_then t option.none = option.none

abbrev pub tokens_then : (Bool → ℕ → Option (List Token)) → Read Token → Option (List Token)
tokens_then more (got t count) = token_then t (more (opens t) (count - 1))
tokens_then more wrong = option.none

unfoldable pub tokens_at : Bool → ℕ → List ℕ → Option (List Token)
tokens_at first skip [] = some []
tokens_at first (suc skip) (c ∷ s) = tokens_at first skip s
tokens_at first zero (c ∷ s) = tokens_then (λ next skip. tokens_at next skip s) (token_at first (c ∷ s))

-- the tokens of a list's elements
abbrev pub tokens_of : Elements → List Token
tokens_of none = []
tokens_of (value v es) = item v ∷ tokens_of es
tokens_of (list inner es) = opening ∷ (tokens_of inner ++ (closing ∷ tokens_of es))
