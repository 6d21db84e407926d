-- A value is found exactly where the tree has an entry with the key, and its bytes are those of that entry's second string.
use Prim.Native.Nat.{ℕ, zero, suc, ◌+◌, ◌≤◌}
use mathlib.Core.Path.{◌≡◌, refl, sym, ap, ◌∙◌}
use mathlib.Core.Bool.{Bool, true, false, cond}
use mathlib.Core.List.{List, ◌++◌}
use mathlib.Core.Logic.{⊎_elim}
use native.Mathlib.Omega.{arith}
use lib.ListN.{length}
use Rattle.wire.specs.Number.{Bytes}
use Rattle.wire.specs.Equal.{same}
use Rattle.wire.specs.Zero.{has_zero}
use Rattle.wire.proofs.Equal.{same-equal}
use Rattle.list.specs.declared.Kind.{Kind}
use Rattle.list.specs.Limits.{list_limit}
use Rattle.list.specs.Kind.{list_code}
use Rattle.list.specs.Tree.{Elements, none, value, list, count}
use Rattle.list.specs.Bytes.{number, element_bytes, list_code_of, list_bytes}
use Rattle.list.specs.Legal.{LegalElements, Legal}
use Rattle.list.specs.Refusal.{Refusal}
use Rattle.list.specs.Parse.{Parsed, good, bad}
use Rattle.list.specs.Open.{depth_at}
use Rattle.list.proofs.Codes.{code_is, AllKind, CodeIs, mixed, typed}
use Rattle.list.proofs.Complete.{no_zero}
use Rattle.list.proofs.Items.{Stands, stands-front, stands-behind}
use Rattle.setting.specs.Entry.{Search, at, nowhere, or_else, entry, entry_of, before, in_entry, search_from, search_in}
use Rattle.setting.specs.declared.Owner.{Owner}
use Rattle.setting.specs.declared.Owner.TheVariants.{Guest, House}
use Rattle.setting.specs.Lookup.{Finding, found, refused, choice, decided, lookup, number_of, answer, area_of, answer_of}
use Rattle.setting.specs.Meaning.{Meaning, is, unset, said_by, meaning, Spelled, FoundIn, Right}
use Rattle.list_check.specs.Check.{whole}
use Rattle.list_check.proofs.Whole.{whole-list, whole-spells, fault-open}
use Rattle.setting.proofs.Entries.{entry_tree, entry-or-other}
use Rattle.setting.proofs.Walk.{next_of}
use Rattle.setting.proofs.Standing.{entry-setting, stands-next}
use Rattle.setting.proofs.Search.{typed-nowhere}

-- a search in the bytes s and a meaning agree
abbrev pub Agree : List ℕ → Search → Meaning → Type 0
Agree s (at offset size) (is v) = (size ≡ length v) × Spelled s v offset
Agree s (at offset size) unset = ⊥
Agree s nowhere (is v) = ⊥
Agree s nowhere unset = Unit {0}

module _ (s : List ℕ) (short : length s ≤ list_limit) (key : List ℕ) where
  -- an entry, before elements of which a search and a meaning agree
  entry-agree : (k v : List ℕ) (es : Elements) (pos : ℕ) (later : Search) (m : Meaning) → Stands s pos (element_bytes list_code (list (entry_tree k v) es))
      → Agree s later m → Agree s (or_else (in_entry key pos (entry k v)) later) (said_by key (entry k v) m)
  entry-agree k v es pos later m h a = go (same k key)
    where
      go : (b : Bool) → Agree s (or_else (cond b (at (pos + length (before k v)) (length v)) nowhere) later) (cond b (is v) m)
      go true = let e = entry-setting s short k v es pos h in (refl, record { inside = e.0; bytes = e.1 })
      go false = a

  -- a list before them
  list-agree : (inner es : Elements) (pos : ℕ) (later : Search) (m : Meaning) → Stands s pos (element_bytes list_code (list inner es))
      → Agree s later m → Agree s (or_else (in_entry key pos (entry_of inner)) later) (said_by key (entry_of inner) m)
  list-agree inner es pos later m h a = ⊎_elim
      (λ i.
      let h₁ : Stands s pos (element_bytes list_code (list (entry_tree i.key i.setting) es)) = rw i.is at h in
      rw i.is (entry-agree i.key i.setting es pos later m h₁ a))
      (λ o. rw o a)
      (entry-or-other inner)

  -- elements that carry their codes
  mixed-agree : (es : Elements) (pos : ℕ) → Stands s pos (element_bytes list_code es) → Agree s (search_from list_code key pos es) (meaning key es)
  unfolding search_from meaning
  mixed-agree none pos h = tt
  mixed-agree (value v es) pos h = mixed-agree es (next_of pos (value v es)) (stands-next s short (value v es) pos h)
  mixed-agree (list inner es) pos h =
      let next : ℕ = next_of pos (list inner es) in
      list-agree inner es pos (search_from list_code key next es) (meaning key es) h (mixed-agree es next (stands-next s short (list inner es) pos h))

-- elements of one kind have no value for any key
typed-unset : (k : Kind) (key : List ℕ) (es : Elements) → AllKind k es → meaning key es ≡ unset
unfolding meaning
typed-unset k key none a = refl
typed-unset k key (value v es) a = typed-unset k key es a.1
typed-unset k key (list inner es) a = absurd a

-- the elements of a list stand behind its code and its count
list-elements : (es : Elements) → Stands (list_bytes es) 8 (element_bytes (list_code_of es) es)
unfolding list_bytes
list-elements es =
    let x : List ℕ = element_bytes (list_code_of es) es in
    stands-behind (list_bytes es) 0 (number (list_code_of es) ++ number (count es)) x (stands-front (list_bytes es))

-- LAW: in the bytes of a legal list a value is found exactly where its tree has an entry with the key, and these are its bytes
pub found-exactly : (key : List ℕ) (es : Elements) → Legal list_limit es → Agree (list_bytes es) (search_in key es) (meaning key es)
found-exactly key es l = go (code_is es)
  where
    front : Stands (list_bytes es) 8 (element_bytes (list_code_of es) es)
    front = list-elements es

    go : CodeIs es → Agree (list_bytes es) (search_in key es) (meaning key es)
    go (mixed e) =
        let h : Stands (list_bytes es) 8 (element_bytes list_code es) = rw e at front in
        let a : Agree (list_bytes es) (search_from list_code key 8 es) (meaning key es) = mixed-agree (list_bytes es) l.1 key es 8 h in
        rw e a
    go (typed k e a) = rw (typed-nowhere k (list_code_of es) key 8 es a, typed-unset k key es a) tt

-- LAW: two legal lists are answered by what their trees say
pub lists-answered : (key : List ℕ) (es fs : Elements) → Legal list_limit es → Legal list_limit fs
    → Right (meaning key es) (meaning key fs) (list_bytes es) (list_bytes fs) (lookup (list_bytes es) (list_bytes fs) key)
unfolding lookup
lists-answered key es fs l m =
    rw (whole-list es l, whole-list fs m) (go (search_in key es) (meaning key es) (search_in key fs) (meaning key fs) (found-exactly key es l) (found-exactly key fs m))
  where
    go : (x : Search) (p : Meaning) (y : Search) (q : Meaning) → Agree (list_bytes es) x p → Agree (list_bytes fs) y q
        → Right p q (list_bytes es) (list_bytes fs) (choice x y)
    go (at o n) (is v) y q a b = record { offset = o; answers = ap (found Guest o) a.0; spelled = a.1 }
    go (at o n) unset y q a b = absurd a
    go nowhere (is v) y q a b = absurd a
    go nowhere unset (at o n) (is v) a b = record { offset = o; answers = ap (found House o) b.0; spelled = b.1 }
    go nowhere unset (at o n) unset a b = absurd b
    go nowhere unset nowhere (is v) a b = absurd b
    go nowhere unset nowhere unset a b = refl

-- LAW: where neither list is refused, both areas hold the bytes of a legal list and no more
pub accepted-lists : (g h key : List ℕ) → Bytes g → Bytes h → ((o : Owner) (r : Refusal) → lookup g h key ≡ refused o r → ⊥)
    → ((es : Elements) × Legal list_limit es × (g ≡ list_bytes es)) × ((fs : Elements) × Legal list_limit fs × (h ≡ list_bytes fs))
unfolding lookup
accepted-lists g h key bg bh fine = go (whole g) refl (whole h) refl fine
  where
    go : (x : Parsed Elements) → whole g ≡ x → (y : Parsed Elements) → whole h ≡ y → ((o : Owner) (r : Refusal) → decided key x y ≡ refused o r → ⊥)
        → ((es : Elements) × Legal list_limit es × (g ≡ list_bytes es)) × ((fs : Elements) × Legal list_limit fs × (h ≡ list_bytes fs))
    go (bad r) e y f no-fault = absurd (no-fault Guest r refl)
    go (good es m) e (bad r) f no-fault = absurd (no-fault House r refl)
    go (good es m) e (good fs n) f no-fault =
        let p = whole-spells g es m bg e in
        let q = whole-spells h fs n bh f in
        ((es, p.0, p.1), (fs, q.0, q.1))

-- LAW: a refusal has the depth of the lists open at its fault in the list that it names
pub refused-depth : (g h key : List ℕ) (o : Owner) (r : Refusal) → lookup g h key ≡ refused o r → r.depth ≡ depth_at (area_of o g h) r.number r.offset
unfolding lookup
refused-depth g h key o r e = go (whole g) refl (whole h) refl e
  where
    chosen : (x y : Search) → choice x y ≡ refused o r → r.depth ≡ depth_at (area_of o g h) r.number r.offset
    chosen (at i n) y q = absurd (let z : ◌≡◌ {A = ℕ} 0 1 = cc in omega arith)
    chosen nowhere (at i n) q = absurd (let z : ◌≡◌ {A = ℕ} 0 1 = cc in omega arith)
    chosen nowhere nowhere q = absurd (let z : ◌≡◌ {A = ℕ} 0 1 = cc in omega arith)

    go : (x : Parsed Elements) → whole g ≡ x → (y : Parsed Elements) → whole h ≡ y → decided key x y ≡ refused o r
        → r.depth ≡ depth_at (area_of o g h) r.number r.offset
    go (bad f) p y q w = let i : f ≡ r = cc in let j : Guest ≡ o = cc in rw (← j, ← i) (fault-open g f p)
    go (good es m) p (bad f) q w = let i : f ≡ r = cc in let j : House ≡ o = cc in rw (← j, ← i) (fault-open h f q)
    go (good es m) p (good fs n) q w = chosen (search_in key es) (search_in key fs) w

-- LAW: the part that is given back is that string
pub found-answer : (o : Owner) (g h v : List ℕ) (f : Finding) (w : FoundIn o (area_of o g h) v f) → answer_of g h f ≡ answer 0 (number_of o) w.offset v 0
found-answer o g h v f w = ap (answer_of g h) w.answers ∙ ap (λ (part : List ℕ). answer 0 (number_of o) w.offset part 0) w.spelled.bytes

-- no legal string has a zero
unset-entry : (key : List ℕ) (inner : Elements) (m : Meaning) (d : ℕ) → has_zero key ≡ true → LegalElements d inner → m ≡ unset → said_by key (entry_of inner) m ≡ unset
unset-entry key inner m d z l u = ⊎_elim (λ i. rw i.is (go i.key i.setting (rw i.is at l) (same i.key key) refl)) (λ o. rw o u) (entry-or-other inner)
  where
    go : (k v : List ℕ) → LegalElements d (entry_tree k v) → (b : Bool) → same k key ≡ b → cond b (is v) m ≡ unset
    go k v p true e =
        let n : has_zero k ≡ false = no_zero k p.0.1 in
        let f : has_zero key ≡ false = ap has_zero (sym (same-equal k key e)) ∙ n in
        absurd (let t : ◌≡◌ {A = ℕ} 0 1 = cc in omega arith)
    go k v p false e = u

-- LAW: a key with a zero is in no legal list
pub zero-key : (key : List ℕ) (es : Elements) (d : ℕ) → has_zero key ≡ true → LegalElements d es → meaning key es ≡ unset
unfolding meaning
zero-key key none d z l = refl
zero-key key (value v es) d z l = zero-key key es d z l.1
zero-key key (list inner es) zero z l = absurd l
zero-key key (list inner es) (suc d) z l = unset-entry key inner (meaning key es) d z l.0 (zero-key key es (suc d) z l.1)
