-- Which lists are legal.
use Rattle.std.specs.Prelude.{ℕ, zero, suc, ◌-◌, ◌^◌, ◌≤◌, ◌<◌, ◌≡◌, List, [], ◌∷◌, length}
use Rattle.wire.specs.Number.{Bytes}
use Rattle.list.specs.Limits.{depth_limit}
use Rattle.list.specs.Tree.{Value, Elements, int, vocab, float, str, blob, none, value, list}
use Rattle.list.specs.Bytes.{list_bytes}

-- "No other zero stands in a string."
abbrev pub NoZero : List ℕ → Type 0
NoZero [] = Unit {0}
NoZero (b ∷ bs) = (b ≡ 0 → ⊥) × NoZero bs

-- numbers are 32 bits and bytes are bytes; "NetVocab 9 (any 32 bits)"
abbrev pub LegalValue : Value → Type 0
LegalValue (int n) = n < 2 ^ 32
LegalValue (vocab n) = n < 2 ^ 32
LegalValue (float low high) = (low < 2 ^ 32) × (high < 2 ^ 32)
LegalValue (str bs) = Bytes bs × NoZero bs
LegalValue (blob bs) = Bytes bs

-- the elements' values are legal, and at most `depth` lists stand in one another among them
abbrev pub LegalElements : ℕ → Elements → Type 0
LegalElements depth none = Unit {0}
LegalElements depth (value v es) = LegalValue v × LegalElements depth es
LegalElements zero (list inner es) = ⊥
LegalElements (suc depth) (list inner es) = LegalElements depth inner × LegalElements (suc depth) es

-- "to depth 8, the outermost being 1"; "A list has at most 4,096 bytes": `limit` of them
abbrev pub Legal : ℕ → Elements → Type 0
Legal limit es = LegalElements (depth_limit - 1) es × (length (list_bytes es) ≤ limit)
