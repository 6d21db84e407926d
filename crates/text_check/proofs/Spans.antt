-- The bytes of a string and of a blob, one after the other.
use Prim.Native.Nat.{ℕ, zero, suc, ◌+◌, ◌-◌, ◌≤◌, ◌<◌}
use mathlib.Core.Path.{◌≡◌, refl, sym, ap, ◌∙◌}
use mathlib.Core.Bool.{Bool, true, false, not, ◌&&◌}
use mathlib.Core.List.{List, [], ◌∷◌}
use native.Mathlib.Omega.{arith}
use native.Mathlib.Numerals.{add-one}
use lib.Dec.{eqb}
use lib.ListN.{length, get_or, drop, drop_of_length-le}
use lib.Seq.{drop-cons, drop-drop}
use borrow.Author.Tests.{eq-eqb, ne_eqb}
use Rattle.std.specs.Prelude as std
use Rattle.std.specs.Prelude.{Some, None}
use Rattle.digits.specs.Read.{Read, got, wrong, and_read}
use Rattle.text.specs.Text.{is_printed, is_marked}
use Rattle.text.specs.Read.{escape_at, char_at, chars_at, byte_at, bytes_at}
use Rattle.text.proofs.Strings.{chars-skip}
use Rattle.text.proofs.Blobs.{bytes-skip}
use Rattle.text_value.specs.Answers.{Within}
use Rattle.text_check.specs.Answers.{size_read, counted}

-- what is read where `stored` bytes and `gone` characters were read before it
abbrev pub further : ℕ → ℕ → Read (List ℕ) → Read ℕ
further stored gone r = and_read r (λ bs count. got (stored + length bs) (gone + count))

got_same : {A : Type 0} (a b : A) (m n : ℕ) → a ≡ b → m ≡ n → got a m ≡ got b n
got_same a b m n h k = rw (h, k)

pub further-start : (at : ℕ) (r : Read (List ℕ)) → and_read r counted ≡ further 0 (at - at) r
further-start at (got bs n) = got_same (length bs) (0 + length bs) n (at - at + n) (omega arith) (omega arith)
further-start at wrong = refl

further-more : (stored gone b n gone' : ℕ) (r : Read (List ℕ)) → gone' ≡ gone + n
    → further stored gone (and_read r (λ bs count. got (b ∷ bs) (n + count))) ≡ further (stored + 1) gone' r
further-more stored gone b n gone' (got bs count) h =
    got_same (stored + suc (length bs)) (stored + 1 + length bs) (gone + (n + count)) (gone' + count) (omega arith) (omega arith)
further-more stored gone b n gone' wrong h = refl

-- the bytes behind one of n characters, as all readers with `skip` find them
module _ (all : ℕ → List ℕ → Read (List ℕ)) (skips : (skip : ℕ) (s : List ℕ) → all skip s ≡ and_read (all 0 (drop skip s)) (λ bs count. got bs (skip + count))) where
  behind-one : (c : ℕ) (s : List ℕ) (b n : ℕ) → 1 ≤ n
      → and_read (all (n - 1) s) (λ bs count. got (b ∷ bs) (suc count)) ≡ and_read (all 0 (drop n (c ∷ s))) (λ bs count. got (b ∷ bs) (n + count))
  behind-one c s b zero h = absurd (omega arith)
  behind-one c s b (suc n) h =
      let e : suc n - 1 ≡ n = omega arith in
      ap (λ (k : ℕ). and_read (all k s) (λ bs count. got (b ∷ bs) (suc count))) e
      ∙ ap (λ (r : Read (List ℕ)). and_read r (λ bs count. got (b ∷ bs) (suc count))) (skips n s) ∙ go (all 0 (drop n s))
    where
      go : (r : Read (List ℕ))
          → and_read (and_read r (λ bs count. got bs (n + count))) (λ bs count. got (b ∷ bs) (suc count)) ≡ and_read r (λ bs count. got (b ∷ bs) (suc n + count))
      go (got bs count) = got_same (b ∷ bs) (b ∷ bs) (suc (n + count)) (suc n + count) refl (omega arith)
      go wrong = refl

-- one byte of a string, then those behind it
chars-one : (c : ℕ) (s : List ℕ) (b n : ℕ) → eqb c 34 ≡ false → char_at (c ∷ s) ≡ got b n → 1 ≤ n
    → chars_at 0 (c ∷ s) ≡ and_read (chars_at 0 (drop n (c ∷ s))) (λ bs count. got (b ∷ bs) (n + count))
unfolding chars_at
chars-one c s b n q e h = rw (q, e) (behind-one chars_at chars-skip c s b n h)

chars-none : (c : ℕ) (s : List ℕ) → eqb c 34 ≡ false → char_at (c ∷ s) ≡ wrong → chars_at 0 (c ∷ s) ≡ wrong
unfolding chars_at
chars-none c s q e = rw (q, e)

chars-quote : (s : List ℕ) → chars_at 0 (34 ∷ s) ≡ got [] 1
unfolding chars_at
chars-quote s = refl

pub chars-empty : chars_at 0 [] ≡ wrong
unfolding chars_at
chars-empty = refl

-- one byte of a blob, then those behind it
bytes_one : (first : Bool) (c : ℕ) (s : List ℕ) (b n : ℕ) → eqb c 125 ≡ false → byte_at first (c ∷ s) ≡ got b n → 1 ≤ n
    → bytes_at first 0 (c ∷ s) ≡ and_read (bytes_at false 0 (drop n (c ∷ s))) (λ bs count. got (b ∷ bs) (n + count))
unfolding bytes_at
bytes_one first c s b n q e h = rw (q, e) (behind-one (bytes_at false) (bytes-skip false) c s b n h)

bytes-none : (first : Bool) (c : ℕ) (s : List ℕ) → eqb c 125 ≡ false → byte_at first (c ∷ s) ≡ wrong → bytes_at first 0 (c ∷ s) ≡ wrong
unfolding bytes_at
bytes-none first c s q e = rw (q, e)

bytes-brace : (first : Bool) (s : List ℕ) → bytes_at first 0 (125 ∷ s) ≡ got [] 1
unfolding bytes_at
bytes-brace first s = refl

pub bytes-empty : (first : Bool) → bytes_at first 0 [] ≡ wrong
unfolding bytes_at
bytes-empty first = refl

-- a turn of a loop at character i: `all` reads from there on, `next` behind one byte, which is `one`
module _
    (end : ℕ) (s : List ℕ) (at i stored : ℕ) (all next : List ℕ → Read (List ℕ)) (one : List ℕ → Read ℕ)
    (more : (c : ℕ) (t : List ℕ) (b n : ℕ) → eqb c end ≡ false → one (c ∷ t) ≡ got b n → 1 ≤ n
    → all (c ∷ t) ≡ and_read (next (drop n (c ∷ t))) (λ bs count. got (b ∷ bs) (n + count)))
    (nothing : (c : ℕ) (t : List ℕ) → eqb c end ≡ false → one (c ∷ t) ≡ wrong → all (c ∷ t) ≡ wrong)
    (ends : (t : List ℕ) → all (end ∷ t) ≡ got [] 1)
    (W : Read ℕ) (inv : W ≡ further stored (i - at) (all (drop i s))) (from : at ≤ i) (long : i < length s) where
  front : drop i s ≡ get_or s i 0 ∷ drop (suc i) s
  front = drop-cons s i 0 long

  pub turn_end : get_or s i 0 ≡ end → W ≡ got stored (i - at + 1)
  turn_end e =
      inv ∙ ap (λ (l : List ℕ). further stored (i - at) (all l)) (front ∙ ap (λ (c : ℕ). c ∷ drop (suc i) s) e)
      ∙ ap (further stored (i - at)) (ends (drop (suc i) s)) ∙ got_same (stored + 0) stored (i - at + 1) (i - at + 1) (omega arith) refl

  pub turn-none : (get_or s i 0 ≡ end → ⊥) → one (drop i s) ≡ wrong → W ≡ wrong
  turn-none q e =
      inv ∙ ap (λ (l : List ℕ). further stored (i - at) (all l)) front
      ∙ ap (further stored (i - at)) (nothing (get_or s i 0) (drop (suc i) s) (ne_eqb (get_or s i 0) end q) (ap one (sym front) ∙ e))

  pub turn_more : (get_or s i 0 ≡ end → ⊥) → (b n : ℕ) → one (drop i s) ≡ got b n → 1 ≤ n → W ≡ further (stored + 1) (i + n - at) (next (drop (i + n) s))
  turn_more q b n e h =
      let x = more (get_or s i 0) (drop (suc i) s) b n (ne_eqb (get_or s i 0) end q) (ap one (sym front) ∙ e) h in
      inv ∙ ap (λ (l : List ℕ). further stored (i - at) (all l)) front
      ∙ ap (further stored (i - at)) (x ∙ ap (λ (l : List ℕ). and_read (next (drop n l)) (λ bs count. got (b ∷ bs) (n + count))) (sym front))
      ∙ further-more stored (i - at) b n (i + n - at) (next (drop n (drop i s))) (omega arith)
      ∙ ap (λ (l : List ℕ). further (stored + 1) (i + n - at) (next l)) (drop-drop n i s)

-- what no size says, and one
pub read_none : {A : Type 0} (r : Read A) → None ≡ size_read r → r ≡ wrong
read_none (got a n) h = absurd (cc)
read_none wrong h = refl

pub read_some : {A : Type 0} (at end n : ℕ) (r : Read A) → Within at end r → Some n ≡ size_read r → (a : A) × (r ≡ got a n) × (1 ≤ n) × (at + n ≤ end)
read_some at end n (got a count) w h = let k : n ≡ count = cc in (a, got_same a a count n refl (sym k), omega arith, omega arith)
read_some at end n wrong w h = absurd (cc)

-- THE SIZES OF ONE BYTE
pub sized : (at end : ℕ) (r q : Read ℕ) (n : std.Option ℕ) → r ≡ q → Within at end r → n ≡ size_read r → (n ≡ size_read q) × Within at end q
sized at end r q n e w h = (h ∙ ap size_read e, rw e at w)

pub within-less : (at end : ℕ) (r : Read ℕ) → Within (at + 1) (end + 1) r → Within at end r
within-less at end (got a n) w = (w.0, omega arith)
within-less at end wrong w = tt

module _ (s : List ℕ) (at : ℕ) (long : at < length s) where
  here : drop at s ≡ get_or s at 0 ∷ drop (suc at) s
  here = drop-cons s at 0 long

  pub char-escape : get_or s at 0 ≡ 92 → char_at (drop at s) ≡ escape_at (drop (at + 1) s)
  unfolding char_at
  char-escape e = rw (here, add-one at, eq-eqb (get_or s at 0) 92 e)

  pub char-plain : (get_or s at 0 ≡ 92 → ⊥) → (is_printed (get_or s at 0) && not (is_marked (get_or s at 0))) ≡ true → char_at (drop at s) ≡ got (get_or s at 0) 1
  unfolding char_at
  char-plain q e = rw (here, ne_eqb (get_or s at 0) 92 q, e)

  pub char-none : (get_or s at 0 ≡ 92 → ⊥) → (is_printed (get_or s at 0) && not (is_marked (get_or s at 0))) ≡ false → char_at (drop at s) ≡ wrong
  unfolding char_at
  char-none q e = rw (here, ne_eqb (get_or s at 0) 92 q, e)

-- THE LOOPS
module _ (s : List ℕ) (at i stored : ℕ) (from : at ≤ i) (inv : and_read (chars_at 0 (drop at s)) counted ≡ further stored (i - at) (chars_at 0 (drop i s))) where
  pub string-open : length s ≤ i → wrong ≡ and_read (chars_at 0 (drop at s)) counted
  string-open h = sym (inv ∙ rw (drop_of_length-le s h, chars-empty))

  pub string-end : i < length s → get_or s i 0 ≡ 34 → got stored (i - at + 1) ≡ and_read (chars_at 0 (drop at s)) counted
  string-end h e = sym (turn_end 34 s at i stored (chars_at 0) (chars_at 0) char_at chars-one chars-none chars-quote _ inv from h e)

  pub string-wrong : i < length s → (get_or s i 0 ≡ 34 → ⊥) → None ≡ size_read (char_at (drop i s)) → wrong ≡ and_read (chars_at 0 (drop at s)) counted
  string-wrong h q e =
      sym (turn-none 34 s at i stored (chars_at 0) (chars_at 0) char_at chars-one chars-none chars-quote _ inv from h q (read_none (char_at (drop i s)) e))

  pub string-turn : (n : ℕ) → i < length s → (get_or s i 0 ≡ 34 → ⊥) → Some n ≡ size_read (char_at (drop i s)) → Within i (length s) (char_at (drop i s))
      → (1 ≤ n) × (i + n ≤ length s) × (and_read (chars_at 0 (drop at s)) counted ≡ further (stored + 1) (i + n - at) (chars_at 0 (drop (i + n) s)))
  string-turn n h q e w =
      let r = read_some i (length s) n (char_at (drop i s)) w e in
      (r.2, r.3, turn_more 34 s at i stored (chars_at 0) (chars_at 0) char_at chars-one chars-none chars-quote _ inv from h q r.0 n r.1 r.2)

-- a blob's byte is the first while none is stored
module _
    (s : List ℕ) (at i stored : ℕ) (from : at ≤ i)
    (inv : and_read (bytes_at true 0 (drop at s)) counted ≡ further stored (i - at) (bytes_at (eqb stored 0) 0 (drop i s))) where
  abbrev first : Bool
  first = eqb stored 0

  pub blob-open : length s ≤ i → wrong ≡ and_read (bytes_at true 0 (drop at s)) counted
  blob-open h = sym (inv ∙ rw (drop_of_length-le s h, bytes-empty (eqb stored 0)))

  pub blob-end : i < length s → get_or s i 0 ≡ 125 → got stored (i - at + 1) ≡ and_read (bytes_at true 0 (drop at s)) counted
  blob-end h e =
      sym (turn_end 125 s at i stored (bytes_at first 0) (bytes_at false 0) (byte_at first) (bytes_one first) (bytes-none first) (bytes-brace first) _ inv from h e)

  pub blob-wrong : i < length s → (get_or s i 0 ≡ 125 → ⊥) → None ≡ size_read (byte_at (eqb stored 0) (drop i s))
      → wrong ≡ and_read (bytes_at true 0 (drop at s)) counted
  blob-wrong h q e =
      sym (turn-none 125 s at i stored (bytes_at first 0) (bytes_at false 0) (byte_at first) (bytes_one first) (bytes-none first) (bytes-brace first) _ inv from h q
      (read_none (byte_at first (drop i s)) e))

  pub blob-turn : (n : ℕ) → i < length s → (get_or s i 0 ≡ 125 → ⊥) → Some n ≡ size_read (byte_at (eqb stored 0) (drop i s))
      → Within i (length s) (byte_at (eqb stored 0) (drop i s))
      → (1 ≤ n) × (i + n ≤ length s)
      × (and_read (bytes_at true 0 (drop at s)) counted ≡ further (stored + 1) (i + n - at) (bytes_at (eqb (stored + 1) 0) 0 (drop (i + n) s)))
  blob-turn n h q e w =
      let r = read_some i (length s) n (byte_at first (drop i s)) w e in
      let f : eqb (stored + 1) 0 ≡ false = ne_eqb (stored + 1) 0 (λ k. omega arith) in (
        r.2,
        r.3,
        turn_more 125 s at i stored (bytes_at first 0) (bytes_at false 0) (byte_at first) (bytes_one first) (bytes-none first) (bytes-brace first) _ inv from h q
            r.0 n r.1 r.2
            ∙ rw f,
      )
