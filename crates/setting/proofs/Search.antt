-- The search in a list that was judged, element by element.
use Prim.Native.Nat.{ℕ, ◌+◌, ◌-◌, ◌≤◌, ◌<◌}
use mathlib.Core.Path.{◌≡◌, refl, sym, ap, ◌∙◌}
use mathlib.Core.Bool.{Bool, true, false, cond}
use mathlib.Core.List.{List, ◌++◌}
use native.Mathlib.Omega.{arith}
use lib.Dec.{eqb}
use lib.ListN.{length}
use borrow.Author.Tests.{eqb-true, eqb-false}
use Rattle.wire.specs.Number.{Bytes}
use Rattle.list.specs.declared.Kind.{Kind}
use Rattle.list.specs.Limits.{list_limit}
use Rattle.list.specs.Kind.{list_code}
use Rattle.list.specs.Tree.{Elements, none, value, list, count}
use Rattle.list.specs.Bytes.{number, element_bytes, list_code_of, list_bytes}
use Rattle.list.specs.Legal.{Legal}
use Rattle.list.specs.Parse.{word}
use Rattle.list.proofs.Codes.{code_is, code-good, AllKind, CodeIs, mixed, typed}
use Rattle.list.proofs.Complete.{count-le}
use Rattle.list.proofs.Items.{Stands, stands-behind, word_of}
use Rattle.setting.specs.declared.entry.Turn.TheVariants.{Next}
use Rattle.setting.specs.Entry.{at, nowhere, search_from, search_in}
use Rattle.setting.specs.Steps.{in_read, search_area, candidate_count, found_at, ElementHere, turn_of}
use Rattle.list_check.specs.Check.{IsWhole}
use Rattle.list_check.proofs.Whole.{whole-spells}
use Rattle.setting.proofs.Walk.{behind, or_next, first_of, next_of, search-found, search-next}
use Rattle.setting.proofs.Standing.{element-here, element-gives, stands-next, count-behind}

-- a list of one kind has no lists, so no entry
pub typed-nowhere : (k : Kind) (code : ℕ) (key : List ℕ) (pos : ℕ) (es : Elements) → AllKind k es → search_from code key pos es ≡ nowhere
unfolding search_from
typed-nowhere k code key pos none a = refl
typed-nowhere k code key pos (value v es) a = typed-nowhere k code key (pos + length (element_bytes code (value v none))) es a.1
typed-nowhere k code key pos (list inner es) a = absurd a

-- where there are candidates, the elements carry their codes
pub some-candidates : (s : List ℕ) (n : ℕ) → n ≡ candidate_count s → 0 < n → (word s 0 ≡ list_code) × (n ≡ word s 4)
some-candidates s n e some = go (eqb (word s 0) list_code) refl e
  where
    go : (b : Bool) → eqb (word s 0) list_code ≡ b → n ≡ cond b (word s 4) 0 → (word s 0 ≡ list_code) × (n ≡ word s 4)
    go true q r = (eqb-true (word s 0) list_code q, r)
    go false q r = absurd (omega arith)

-- the elements from `pos` on, and that the search among them is the whole search
pub record Left (s key : List ℕ) (left pos : ℕ) : Type 0 where
  pub elements : Elements
  pub many : left ≡ count elements
  pub stands : Stands s pos (element_bytes list_code elements)
  pub same : search_from list_code key pos elements ≡ search_area key s
  pub short : length s ≤ list_limit

module _ (s key : List ℕ) (w : IsWhole s) (all : Bytes s) where
  abbrev es : Elements
  es = w.0

  spells : Legal list_limit es × (s ≡ list_bytes es)
  spells = whole-spells s es w.1 all w.2

  area : search_area key s ≡ search_in key es
  area = ap (in_read key) w.2

  front : Stands s 0 (number (list_code_of es) ++ (number (count es) ++ element_bytes (list_code_of es) es))
  unfolding list_bytes
  front = record { inside = omega arith; reads = spells.1 }

  code_at : word s 0 ≡ list_code_of es
  code_at = word_of s 0 (list_code_of es) _ (code-good es).1 front

  -- another code than 256
  no-entries : (word s 0 ≡ list_code → ⊥) → nowhere ≡ search_area key s
  no-entries other = go (code_is es)
    where
      go : CodeIs es → nowhere ≡ search_area key s
      go (mixed e) = absurd (other (code_at ∙ e))
      go (typed k e a) = sym (area ∙ typed-nowhere k (list_code_of es) key 8 es a)

  -- all elements of a list whose elements carry codes
  pub all_left : word s 0 ≡ list_code → (left : ℕ) → left ≡ word s 4 → Left s key left 8
  unfolding list_bytes
  all_left e left n =
      let c : list_code_of es ≡ list_code = sym code_at ∙ e in
      let x : List ℕ = element_bytes (list_code_of es) es in
      let len : length s ≡ length (list_bytes es) = ap length spells.1 in
      let h₄ : Stands s 4 (number (count es) ++ x) = stands-behind s 0 (number (list_code_of es)) (number (count es) ++ x) front in
      let h₈ : Stands s 8 x = stands-behind s 4 (number (count es)) x h₄ in
      let few = count-le (list_code_of es) es in
      record {
        elements = es;
        many = n ∙ word_of s 4 (count es) x (omega (arith, spells.0.1)) h₄;
        stands = rw c at h₈;
        same = sym (area ∙ ap (λ (k : ℕ). search_from k key 8 es) c);
        short = omega (arith, spells.0.1);
      }

module _ (s key : List ℕ) (left pos : ℕ) (l : Left s key left pos) where
  pub none_left : left ≤ 0 → nowhere ≡ search_area key s
  unfolding search_from
  none_left z = go l.elements refl
    where
      go : (es : Elements) → l.elements ≡ es → nowhere ≡ search_area key s
      go none e = sym (ap (search_from list_code key pos) e) ∙ l.same
      go (value v es) e = absurd (let c = ap count e in omega (arith, l.many))
      go (list inner es) e = absurd (let c = ap count e in omega (arith, l.many))

  module _ (some : 0 < left) where
    any : 0 < count l.elements
    any = omega (arith, l.many)

    pub turn-here : ElementHere s pos
    turn-here = element-here s l.short l.elements pos any l.stands

    gives : turn_of s key pos ≡ or_next (first_of key pos l.elements) (next_of pos l.elements)
    gives = element-gives s l.short key l.elements pos any l.stands

    pub turn-found : (offset size : ℕ) → turn_of s key pos ≡ found_at offset size → at offset size ≡ search_area key s
    turn-found offset size e = sym (search-found key pos l.elements offset size (sym gives ∙ e)) ∙ l.same

    pub turn-next : (next : ℕ) → turn_of s key pos ≡ Next next → Left s key (left - 1) next
    turn-next next e =
        let n = search-next key pos l.elements next (sym gives ∙ e) any in
        record {
          elements = behind l.elements;
          many = omega (arith, l.many, count-behind l.elements any);
          stands = rw n.0 (stands-next s l.short l.elements pos l.stands);
          same = sym n.1 ∙ l.same;
          short = l.short;
        }

-- where there are none, the list has no entry
pub no-candidates : (s key : List ℕ) → IsWhole s → Bytes s → candidate_count s ≡ 0 → search_area key s ≡ nowhere
no-candidates s key w all z = go (eqb (word s 0) list_code) refl z
  where
    go : (b : Bool) → eqb (word s 0) list_code ≡ b → cond b (word s 4) 0 ≡ 0 → search_area key s ≡ nowhere
    go true q r = sym (none_left s key (word s 4) 8 (all_left s key w all (eqb-true (word s 0) list_code q) (word s 4) refl) (omega arith))
    go false q r = sym (no-entries s key w all (eqb-false (word s 0) list_code q))
