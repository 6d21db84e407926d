-- Elements that stand in the bytes of a list that was judged: what the bytes give at each is what the tree gives.
use Prim.Native.Nat.{ℕ, ◌+◌, ◌≤◌, ◌<◌}
use mathlib.Core.Path.{◌≡◌, refl, sym, ap, ◌∙◌}
use mathlib.Core.Bool.{Bool, true, false, cond}
use mathlib.Core.List.{List, [], ◌++◌, append_assoc, append-nil}
use mathlib.Core.Logic.{⊎_elim}
use native.Mathlib.Omega.{arith}
use lib.Dec.{eqb}
use lib.ListN.{length, take, drop, length-append}
use borrow.Author.Tests.{ne_eqb, eqb-true}
use Rattle.wire.specs.Equal.{same}
use Rattle.wire.proofs.Chains.{and_left, and_right}
use Rattle.list.specs.declared.Kind.TheVariants.{Str}
use Rattle.list.specs.Limits.{list_limit}
use Rattle.list.specs.Kind.{code_of, list_code, typed_code}
use Rattle.list.specs.Strings.{terminator, string_length, string_size}
use Rattle.list.specs.Tree.{Value, Elements, str, none, value, list, kind, count}
use Rattle.list.specs.Bytes.{number, value_bytes, element_bytes, list_code_of}
use Rattle.list.specs.Parse.{word}
use Rattle.list.proofs.Codes.{code-low, code-all, code-good}
use Rattle.list.proofs.Complete.{count-le}
use Rattle.list.proofs.RowBound.{value-size}
use Rattle.list.proofs.Items.{Stands, stands-length, stands-behind, stands-take, word_of}
use Rattle.list_skip.specs.Skip.{elements_end}
use Rattle.list_skip.proofs.Steps.{elements-end}
use Rattle.setting.specs.declared.entry.Turn.TheVariants.{Next}
use Rattle.setting.specs.Entry.{at, nowhere, entry, other, entry_of, before, in_entry}
use Rattle.setting.specs.Steps.{is_entry, EntryHere, ElementHere, second_at, setting_at, entry_turn, turn_of, found_at}
use Rattle.setting.proofs.Entries.{entry_tree, IsEntry, entry-or-other, code-entry}
use Rattle.setting.proofs.Walk.{alone, behind, or_next, first_of, next_of}

-- the bytes of the first element, then those of the others
first-behind : (es : Elements) → element_bytes list_code es ≡ element_bytes list_code (alone es) ++ element_bytes list_code (behind es)
first-behind none = refl
first-behind (value v es) =
    ap (λ (l : List ℕ). number (code_of (kind v)) ++ l) (ap (λ (l : List ℕ). l ++ element_bytes list_code es) (sym (append-nil (value_bytes v))))
first-behind (list inner es) =
    let x : List ℕ = element_bytes (list_code_of inner) inner in
    ap (λ (l : List ℕ). number (list_code_of inner) ++ (number (count inner) ++ (l ++ element_bytes list_code es))) (sym (append-nil x))

-- two strings, each of a length, its bytes and its end
strings : (m k n v z y : List ℕ) → ((m ++ (k ++ z)) ++ ((n ++ (v ++ z)) ++ [])) ++ y ≡ m ++ (k ++ (z ++ (n ++ (v ++ (z ++ y)))))
strings m k n v z y = simp (append_assoc, append-nil)

-- the bytes of an entry, piece by piece
pub layout : (k v : List ℕ) (es : Elements) → element_bytes list_code (list (entry_tree k v) es)
    ≡ number (typed_code Str) ++ (number 2 ++ (number (string_length (length k)) ++ (k ++ (terminator
    ++ (number (string_length (length v)) ++ (v ++ (terminator ++ element_bytes list_code es)))))))
layout k v es =
    let m : List ℕ = number (string_length (length k)) in
    let n : List ℕ = number (string_length (length v)) in
    ap (λ (c : ℕ). number c ++ (number 2 ++ (element_bytes c (entry_tree k v) ++ element_bytes list_code es))) (code-all Str (str k) (value (str v) none) (refl, (refl, tt)))
    ∙ ap (λ (l : List ℕ). number (typed_code Str) ++ (number 2 ++ l)) (strings m k n v terminator (element_bytes list_code es))

-- how many bytes it has
pub entry-size : (k v : List ℕ) → length (element_bytes list_code (list (entry_tree k v) none)) ≡ 8 + (4 + string_length (length k)) + (4 + string_length (length v))
entry-size k v = ap length (layout k v none) ∙ simp length-append (omega arith)

-- what stands before its value
pub before-size : (k v : List ℕ) → length (before k v) ≡ 8 + (4 + string_length (length k)) + 4
before-size k v = simp length-append (omega arith)

module _ (s : List ℕ) (short : length s ≤ list_limit) where
  -- what is read of an entry
  record EntryRead (pos : ℕ) (k v : List ℕ) : Type 0 where
    code : word s pos ≡ typed_code Str
    two : word s (pos + 4) ≡ 2
    key-length : word s (pos + 8) ≡ string_length (length k)
    key-bytes : take (length k) (drop (pos + 12) s) ≡ k
    value-length : word s (second_at s pos) ≡ string_length (length v)
    inside : setting_at s pos + string_length (length v) ≤ length s
    value-bytes : take (length v) (drop (setting_at s pos) s) ≡ v

  entry_read : (k v : List ℕ) (es : Elements) (pos : ℕ) → Stands s pos (element_bytes list_code (list (entry_tree k v) es)) → EntryRead pos k v
  entry_read k v es pos h =
      let behind-key : ℕ = pos + 12 + length k + length terminator in
      let y : List ℕ = terminator ++ element_bytes list_code es in
      let x : List ℕ = number (string_length (length v)) ++ (v ++ y) in
      let w : List ℕ = number (string_length (length k)) ++ (k ++ (terminator ++ x)) in
      let h₀ : Stands s pos (number (typed_code Str) ++ (number 2 ++ w)) = rw (layout k v es) at h in
      let h₄ : Stands s (pos + 4) (number 2 ++ w) = stands-behind s pos (number (typed_code Str)) (number 2 ++ w) h₀ in
      let e₈ : pos + 4 + 4 ≡ pos + 8 = omega arith in
      let h₈ : Stands s (pos + 8) w = rw e₈ at (stands-behind s (pos + 4) (number 2) w h₄) in
      let e₁₂ : pos + 8 + 4 ≡ pos + 12 = omega arith in
      let h₁₂ : Stands s (pos + 12) (k ++ (terminator ++ x)) = rw e₁₂ at (stands-behind s (pos + 8) (number (string_length (length k))) (k ++ (terminator ++ x)) h₈) in
      let hₓ : Stands s behind-key x = stands-behind s (pos + 12 + length k) terminator x (stands-behind s (pos + 12) k (terminator ++ x) h₁₂) in
      let hᵥ : Stands s (behind-key + 4) (v ++ y) = stands-behind s behind-key (number (string_length (length v))) (v ++ y) hₓ in
      let f = stands-length s (behind-key + 4 + length v) terminator (element_bytes list_code es) (stands-behind s (behind-key + 4) v y hᵥ) in
      let first : word s (pos + 8) ≡ string_length (length k) = word_of s (pos + 8) (string_length (length k)) (k ++ (terminator ++ x)) (omega arith) h₈ in
      let second : second_at s pos ≡ behind-key = omega arith in
      record {
        code = word_of s pos (typed_code Str) (number 2 ++ w) (omega arith) h₀;
        two = word_of s (pos + 4) 2 w (omega arith) h₄;
        key-length = first;
        key-bytes = stands-take s (pos + 12) k (terminator ++ x) h₁₂;
        value-length = ap (word s) second ∙ word_of s behind-key (string_length (length v)) (v ++ y) (omega arith) hₓ;
        inside = omega arith;
        value-bytes = ap (λ (n : ℕ). take (length v) (drop (n + 4) s)) second ∙ stands-take s (behind-key + 4) v y hᵥ;
      }

  -- so its strings are there
  entry_here : (pos : ℕ) (k v : List ℕ) → EntryRead pos k v → EntryHere s pos
  entry_here pos k v r = record { key = omega (arith, r.key-length); setting = omega (arith, r.value-length); inside = omega (arith, r.inside, r.value-length); short = short }

  is-entry : (pos : ℕ) (k v : List ℕ) → EntryRead pos k v → is_entry s pos ≡ true
  unfolding is_entry
  is-entry pos k v r = rw (r.code, r.two)

  turn-entry : (key : List ℕ) (pos : ℕ) → is_entry s pos ≡ true → turn_of s key pos ≡ entry_turn s key pos
  unfolding turn_of
  turn-entry key pos e = rw e

  -- the value's bytes
  pub entry-setting : (k v : List ℕ) (es : Elements) (pos : ℕ) → Stands s pos (element_bytes list_code (list (entry_tree k v) es))
      → (pos + length (before k v) + length v ≤ length s) × (take (length v) (drop (pos + length (before k v)) s) ≡ v)
  entry-setting k v es pos h =
      let r = entry_read k v es pos h in
      let offset : setting_at s pos ≡ pos + length (before k v) = omega (arith, r.key-length, before-size k v) in
      (omega (arith, r.inside), ap (λ (n : ℕ). take (length v) (drop n s)) (sym offset) ∙ r.value-bytes)

  -- an entry gives its value, or where the next element begins
  entry_gives : (key k v : List ℕ) (pos : ℕ) → EntryRead pos k v
      → entry_turn s key pos ≡ or_next (in_entry key pos (entry k v)) (next_of pos (list (entry_tree k v) none))
  unfolding entry_turn
  entry_gives key k v pos r =
      let size : string_size (word s (pos + 8)) ≡ length k = omega (arith, r.key-length) in
      let offset : setting_at s pos ≡ pos + length (before k v) = omega (arith, r.key-length, before-size k v) in
      let some : string_size (word s (second_at s pos)) ≡ length v = omega (arith, r.value-length) in
      let end : setting_at s pos + word s (second_at s pos) ≡ next_of pos (list (entry_tree k v) none) = omega (arith, r.key-length, r.value-length, entry-size k v) in
      rw (size, r.key-bytes, some, end, offset) (go (same k key))
    where
      go : (b : Bool) → cond b (found_at (pos + length (before k v)) (length v)) (Next (next_of pos (list (entry_tree k v) none)))
          ≡ or_next (cond b (at (pos + length (before k v)) (length v)) nowhere) (next_of pos (list (entry_tree k v) none))
      go true = refl
      go false = refl

  -- the code of a value is none of an entry
  value-no-entry : (v : Value) (es : Elements) (pos : ℕ) → Stands s pos (element_bytes list_code (value v es)) → is_entry s pos ≡ false
  unfolding is_entry
  value-no-entry v es pos h =
      let c : ℕ = code_of (kind v) in
      let w : word s pos ≡ c = word_of s pos c (value_bytes v ++ element_bytes list_code es) (omega (arith, (code-low (kind v)).1)) h in
      rw (ne_eqb (word s pos) (typed_code Str) (λ e. omega (arith, (code-low (kind v)).1)))

  -- a list with an entry's code and count is an entry
  list-entry : (inner es : Elements) (pos : ℕ) → Stands s pos (element_bytes list_code (list inner es)) → is_entry s pos ≡ true → IsEntry inner
  unfolding is_entry
  list-entry inner es pos h e =
      let code : ℕ = list_code_of inner in
      let y : List ℕ = element_bytes code inner ++ element_bytes list_code es in
      let x : List ℕ = number (count inner) ++ y in
      let h₄ : Stands s (pos + 4) x = stands-behind s pos (number code) x h in
      let few : count inner ≤ length s = omega (
        arith,
        count-le code inner,
        stands-length s (pos + 4 + 4) (element_bytes code inner) (element_bytes list_code es)
            (stands-behind s (pos + 4) (number (count inner)) y h₄),
      ) in
      let w : word s pos ≡ code = word_of s pos code x (code-good inner).1 h in
      let n : word s (pos + 4) ≡ count inner = word_of s (pos + 4) (count inner) y (omega arith) h₄ in
      let a = eqb-true (word s pos) (typed_code Str) (and_left (eqb (word s pos) (typed_code Str)) (eqb (word s (pos + 4)) 2) e) in
      let b = eqb-true (word s (pos + 4)) 2 (and_right (eqb (word s pos) (typed_code Str)) (eqb (word s (pos + 4)) 2) e) in
      code-entry inner (sym w ∙ a) (sym n ∙ b)

  -- an element has a code and a number or more
  value-some : (v : Value) (es : Elements) (pos : ℕ) → Stands s pos (element_bytes list_code (value v es)) → pos + 8 ≤ length s
  value-some v es pos h =
      omega (arith, stands-length s pos (number (code_of (kind v)) ++ value_bytes v) (element_bytes list_code es) h, value-size v)

  list-some : (inner es : Elements) (pos : ℕ) → Stands s pos (element_bytes list_code (list inner es)) → pos + 8 ≤ length s
  list-some inner es pos h =
      omega (arith, stands-length s pos (number (list_code_of inner) ++ number (count inner)) (element_bytes (list_code_of inner) inner ++ element_bytes list_code es) h)

  -- what the turn at an element asks for
  pub element-here : (es : Elements) (pos : ℕ) → 0 < count es → Stands s pos (element_bytes list_code es) → ElementHere s pos
  element-here none pos some h = absurd (omega arith)
  element-here (value v es) pos some h = record {
    some = value-some v es pos h;
    short = short;
    entry = λ e. absurd (let n = value-no-entry v es pos h in let z : ◌≡◌ {A = ℕ} 0 1 = cc in omega arith);
  }
  element-here (list inner es) pos some h = record {
    some = list-some inner es pos h;
    short = short;
    entry = λ e.
        let i = list-entry inner es pos h e in
        let h₁ : Stands s pos (element_bytes list_code (list (entry_tree i.key i.setting) es)) = rw i.is at h in
        entry_here pos i.key i.setting (entry_read i.key i.setting es pos h₁);
  }

  -- the first element ends where the next begins
  one_end : (es : Elements) (pos : ℕ) → 0 < count es → Stands s pos (element_bytes list_code es) → elements_end s 1 pos ≡ next_of pos es
  one_end none pos some h = absurd (omega arith)
  one_end (value v es) pos some h = elements-end s short (value v none) pos (element_bytes list_code es) (rw (first-behind (value v es)) at h)
  one_end (list inner es) pos some h = elements-end s short (list inner none) pos (element_bytes list_code es) (rw (first-behind (list inner es)) at h)

  -- another element gives where the next begins
  other-gives : (key : List ℕ) (pos next : ℕ) → is_entry s pos ≡ false → elements_end s 1 pos ≡ next → turn_of s key pos ≡ Next next
  unfolding turn_of
  other-gives key pos next e n = rw (e, n)

  -- the turn at an element gives what the tree gives
  pub element-gives : (key : List ℕ) (es : Elements) (pos : ℕ) → 0 < count es → Stands s pos (element_bytes list_code es)
      → turn_of s key pos ≡ or_next (first_of key pos es) (next_of pos es)
  element-gives key none pos some h = absurd (omega arith)
  element-gives key (value v es) pos some h = other-gives key pos _ (value-no-entry v es pos h) (one_end (value v es) pos some h)
  element-gives key (list inner es) pos some h = ⊎_elim found missed (entry-or-other inner)
    where
      found : IsEntry inner → turn_of s key pos ≡ or_next (first_of key pos (list inner es)) (next_of pos (list inner es))
      found i =
          let k : List ℕ = i.key in
          let v : List ℕ = i.setting in
          let r = entry_read k v es pos (rw i.is at h) in
          rw i.is (turn-entry key pos (is-entry pos k v r) ∙ entry_gives key k v pos r)

      missed : entry_of inner ≡ other → turn_of s key pos ≡ or_next (first_of key pos (list inner es)) (next_of pos (list inner es))
      missed o = rw o (other-gives key pos _ (no-entry (is_entry s pos) refl) (one_end (list inner es) pos some h))
        where
          no-entry : (b : Bool) → is_entry s pos ≡ b → b ≡ false
          no-entry false e = refl
          no-entry true e =
              let i = list-entry inner es pos h e in
              absurd (let c : entry i.key i.setting ≡ other = sym (ap entry_of i.is) ∙ o in let z : ◌≡◌ {A = ℕ} 0 1 = cc in omega arith)

  -- behind it stand the other elements
  pub stands-next : (es : Elements) (pos : ℕ) → Stands s pos (element_bytes list_code es) → Stands s (next_of pos es) (element_bytes list_code (behind es))
  stands-next es pos h = stands-behind s pos (element_bytes list_code (alone es)) (element_bytes list_code (behind es)) (rw (first-behind es) at h)

pub count-behind : (es : Elements) → 0 < count es → count es ≡ 1 + count (behind es)
count-behind none h = absurd (omega arith)
count-behind (value v es) h = omega arith
count-behind (list inner es) h = omega arith
