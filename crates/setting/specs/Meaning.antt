-- What a settings list says of a key, by its tree alone, and what a lookup says of it.
use Rattle.std.specs.Prelude.{ℕ, ◌+◌, ◌≤◌, ◌≡◌, cond, List, length, take, drop}
use Rattle.wire.specs.Equal.{same}
use Rattle.list.specs.Tree.{Elements, none, value, list}
use Rattle.setting.specs.Entry.{Entry, entry, other, entry_of}
use Rattle.setting.specs.declared.Owner.{Owner}
use Rattle.setting.specs.declared.Owner.TheVariants.{Guest, House}
use Rattle.setting.specs.Lookup.{Finding, found, missing}

-- the value of a key, or that there is none
pub data Meaning : Type 0 where
  is : List ℕ → Meaning
  unset : Meaning

-- an entry with the key has its value; else what is said behind it counts
abbrev pub said_by : List ℕ → Entry → Meaning → Meaning
said_by key (entry k v) later = cond (same k key) (is v) later
said_by key other later = later

-- "the first with the key counts"
unfoldable pub meaning : List ℕ → Elements → Meaning
meaning key none = unset
meaning key (value v es) = meaning key es
meaning key (list inner es) = said_by key (entry_of inner) (meaning key es)

-- the bytes v stand in s from an offset on
pub record Spelled (s v : List ℕ) (offset : ℕ) : Type 0 where
  pub inside : offset + length v ≤ length s
  pub bytes : take (length v) (drop offset s) ≡ v

-- a lookup found the bytes v: "as that part of the guest's list .. not a copy"
pub record FoundIn (o : Owner) (s v : List ℕ) (f : Finding) : Type 0 where
  pub offset : ℕ
  pub answers : f ≡ found o offset (length v)
  pub spelled : Spelled s v offset

-- what a lookup must find in two lists of these bytes, by what their trees say
abbrev pub Right : Meaning → Meaning → List ℕ → List ℕ → Finding → Type 0
Right (is v) m g h f = FoundIn Guest g v f
Right unset (is v) g h f = FoundIn House h v f
Right unset unset g h f = f ≡ missing
