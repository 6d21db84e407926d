-- The search by its first element: what that gives, and the search behind it.
use Prim.Native.Nat.{ℕ, ◌+◌, ◌<◌}
use mathlib.Core.Path.{◌≡◌, sym, ap}
use mathlib.Core.List.{List}
use native.Mathlib.Omega.{arith}
use lib.ListN.{length}
use Rattle.list.specs.Kind.{list_code}
use Rattle.list.specs.Tree.{Elements, none, value, list, count}
use Rattle.list.specs.Bytes.{element_bytes}
use Rattle.setting.specs.declared.entry.Span.{Span}
use Rattle.setting.specs.declared.entry.Turn.{Turn}
use Rattle.setting.specs.declared.entry.Turn.TheVariants.{Next}
use Rattle.setting.specs.Steps.{found_at}
use Rattle.setting.specs.Entry.{Search, at, nowhere, or_else, entry_of, in_entry, search_from}

-- the first element by itself, and those behind it
abbrev pub alone : Elements → Elements
alone none = none
alone (value v es) = value v none
alone (list inner es) = list inner none

abbrev pub behind : Elements → Elements
behind none = none
behind (value v es) = es
behind (list inner es) = es

-- what the first element gives, by the tree
abbrev pub or_next : Search → ℕ → Turn
or_next (at offset size) next = found_at offset size
or_next nowhere next = Next next

abbrev pub first_of : List ℕ → ℕ → Elements → Search
first_of key pos none = nowhere
first_of key pos (value v es) = nowhere
first_of key pos (list inner es) = in_entry key pos (entry_of inner)

abbrev pub next_of : ℕ → Elements → ℕ
next_of pos es = pos + length (element_bytes list_code (alone es))

-- a search is that in the first element, then that behind it
pub search-found : (key : List ℕ) (pos : ℕ) (es : Elements) (offset size : ℕ) → or_next (first_of key pos es) (next_of pos es) ≡ found_at offset size
    → search_from list_code key pos es ≡ at offset size
unfolding search_from
search-found key pos none offset size e = absurd (let z : ◌≡◌ {A = ℕ} 0 1 = cc in omega arith)
search-found key pos (value v es) offset size e = absurd (let z : ◌≡◌ {A = ℕ} 0 1 = cc in omega arith)
search-found key pos (list inner es) offset size e = go (in_entry key pos (entry_of inner)) e
  where
    go : (x : Search) → or_next x (next_of pos (list inner es)) ≡ found_at offset size → or_else x (search_from list_code key (next_of pos (list inner es)) es) ≡ at offset size
    go (at o n) h =
        let p : ◌≡◌ {A = Span} (record { offset = o; length = n }) (record { offset = offset; length = size }) = cc in
        rw (ap (λ (span : Span). span.offset) p, ap (λ (span : Span). span.length) p)
    go nowhere h = absurd (let z : ◌≡◌ {A = ℕ} 0 1 = cc in omega arith)

pub search-next : (key : List ℕ) (pos : ℕ) (es : Elements) (next : ℕ) → or_next (first_of key pos es) (next_of pos es) ≡ Next next → 0 < count es
    → (next ≡ next_of pos es) × (search_from list_code key pos es ≡ search_from list_code key next (behind es))
unfolding search_from
search-next key pos none next e some = absurd (omega arith)
search-next key pos (value v es) next e some = let p : next_of pos (value v es) ≡ next = cc in (sym p, rw p)
search-next key pos (list inner es) next e some = go (in_entry key pos (entry_of inner)) e
  where
    go : (x : Search) → or_next x (next_of pos (list inner es)) ≡ Next next
        → (next ≡ next_of pos (list inner es)) × (or_else x (search_from list_code key (next_of pos (list inner es)) es) ≡ search_from list_code key next es)
    go (at o n) h = absurd (let z : ◌≡◌ {A = ℕ} 0 1 = cc in omega arith)
    go nowhere h = let p : next_of pos (list inner es) ≡ next = cc in (sym p, rw p)
