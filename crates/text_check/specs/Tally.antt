-- Internal: depth and size of a list, found token by token. Only the innermost open list can still turn out to be a typed one, since a
-- list that holds a list is none: so what is known of it is enough. Public contracts do not cite this file.
use Rattle.std.specs.Prelude.{ℕ, suc, ◌+◌, ◌-◌, max, cond, List, [], ◌∷◌, eqb, length}
use Rattle.std.proofs.Math.Option.{Option, some}
use Rattle.std.proofs.Math.Option as option
use Rattle.list.specs.Kind.{code_of, list_code}
use Rattle.list.specs.Tree.{kind}
use Rattle.list.specs.Bytes.{value_bytes, common}
use Rattle.text.specs.Tokens.{Token, opening, closing, item}

-- how many lists are open, the most that ever were, the code that the elements of the innermost have in common, the bytes that the codes of
-- its elements take if it turns out to be none of one kind, and the bytes of all that was read without these
pub record Tally : Type 0 where
  pub depth : ℕ
  pub deepest : ℕ
  pub seen : ℕ
  pub pending : ℕ
  pub size : ℕ

abbrev pub tally : ℕ → ℕ → ℕ → ℕ → ℕ → Tally
tally depth deepest seen pending size = record { depth = depth; deepest = deepest; seen = seen; pending = pending; size = size }

-- the outermost list, with its code and its count
abbrev pub started : Tally
started = tally 1 1 0 0 8

-- an element of a code, with the bytes that it has without it
unfoldable pub with_value : Tally → ℕ → ℕ → Tally
with_value t code payload =
    cond (eqb (common t.seen code) list_code)
    (tally t.depth t.deepest list_code 0 (t.size + (t.pending + 4 + payload)))
    (tally t.depth t.deepest (common t.seen code) (t.pending + 4) (t.size + payload))

-- a list within makes its list one of no kind
unfoldable pub with_opening : Tally → Tally
with_opening t = tally (suc t.depth) (max (suc t.depth) t.deepest) 0 0 (t.size + (t.pending + 8))

unfoldable pub with_closing : Tally → Tally
with_closing t = tally (t.depth - 1) t.deepest list_code 0 t.size

abbrev pub with_token : Tally → Token → Tally
with_token t opening = with_opening t
with_token t closing = with_closing t
with_token t (item v) = with_value t (code_of (kind v)) (length (value_bytes v))

-- all tokens; none where a bracket closes the outermost list, or one is left open
abbrev pub at_end : Tally → Option Tally
at_end t = cond (eqb t.depth 1) (some t) option.none

unfoldable pub tallied : Tally → List Token → Option Tally
tallied t [] = at_end t
tallied t (token ∷ tokens) = cond (eqb (with_token t token).depth 0) option.none (tallied (with_token t token) tokens)
