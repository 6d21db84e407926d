-- A list as a tree: what its bytes and its rows stand for.
use Rattle.std.specs.Prelude.{ℕ, zero, suc, List}
use Rattle.list.specs.declared.Kind.{Kind}
use Rattle.list.specs.declared.Kind.TheVariants.{Int, Float, Str, Blob, Vocab}

-- an element that is no list; numbers are their 32 bits, a float's its low and its high half
pub data Value : Type 0 where
  int vocab : ℕ → Value
  float : ℕ → ℕ → Value
  str blob : List ℕ → Value

-- the elements of a list, in order
pub data Elements : Type 0 where
  none : Elements
  value : Value → Elements → Elements
  list : Elements → Elements → Elements

abbrev pub kind : Value → Kind
kind (int n) = Int
kind (vocab n) = Vocab
kind (float low high) = Float
kind (str bs) = Str
kind (blob bs) = Blob

-- the number of elements of a list
abbrev pub count : Elements → ℕ
count none = zero
count (value v es) = suc (count es)
count (list inner es) = suc (count es)
