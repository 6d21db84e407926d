-- Strings and blobs, copied byte by byte from their characters to the store.
use Prim.Native.Nat.{ℕ, suc, ◌+◌, ◌-◌, ◌≤◌, ◌<◌}
use mathlib.Core.Path.{◌≡◌, refl, sym, ap, ◌∙◌}
use mathlib.Core.Bool.{Bool, true, false, cond}
use mathlib.Core.List.{List, [], ◌∷◌}
use native.Mathlib.Omega.{arith}
use native.Mathlib.Numerals.{add-one}
use native.Mathlib.Nat.{add-zero, zero-add}
use lib.Dec.{eqb}
use lib.ListN.{length, get_or, drop, set, drop_of_length-le, length-drop, length-set}
use lib.Seq.{sets, drop-drop}
use borrow.Author.Tests.{eq-eqb, ne_eqb}
use Rattle.digits.specs.Read.{Read, got, wrong, and_read}
use Rattle.digits.specs.Decimal.{decimal_at}
use Rattle.digits.proofs.Judging.{judged-got}
use Rattle.text.specs.Text.{char_text}
use Rattle.text.specs.Read.{char_at, chars_at, spaced_byte, byte_at, bytes_at}
use Rattle.text.proofs.Fronts.{Front}
use Rattle.text.proofs.Strings.{chars-skip, char-some, char-sound}
use Rattle.text.proofs.Blobs.{bytes-skip}
use Rattle.text_value.specs.Answers.{Within, AtMost}
use Rattle.text_value.proofs.Decimals.{first_char}
use Rattle.text_value.proofs.Bounds.{decimal-bounds}
use Rattle.list_decode.proofs.Writing.{Left, left-all}
use Rattle.text_decode.specs.declared.known.Known.{Known}
use Rattle.text_decode.specs.Pieces.{is_got, size_read, read_or, KnownAs, BytesPut}
use Rattle.text_decode.proofs.Knowns.{Got, got_of, of-got, no_read, got-first, lt_of, known_is, decimal-inside}

-- one byte of some characters, then those behind it
pub record Turn (now : Read (List ℕ)) (b size : ℕ) (next : Read (List ℕ)) : Type 0 where
  pub then : now ≡ and_read next (λ bs n. got (b ∷ bs) (size + n))

turn-skip : (b size : ℕ) (r : Read (List ℕ)) → 1 ≤ size
    → and_read (and_read r (λ bs n. got bs (size - 1 + n))) (λ bs n. got (b ∷ bs) (suc n)) ≡ and_read r (λ bs n. got (b ∷ bs) (size + n))
turn-skip b size (got bs n) h = let e : suc (size - 1 + n) ≡ size + n = omega arith in rw e
turn-skip b size wrong h = refl

-- characters from an offset on
at_drop : (c : ℕ) (s : List ℕ) (size : ℕ) → 1 ≤ size → drop (size - 1) s ≡ drop size (c ∷ s)
at_drop c s size h = let e : suc (size - 1) ≡ size = omega arith in ap (λ (k : ℕ). drop k (c ∷ s)) e

chars-turn : (s : List ℕ) (b size : ℕ) → (get_or s 0 0 ≡ 34 → ⊥) → 1 ≤ size → char_at s ≡ got b size → Turn (chars_at 0 s) b size (chars_at 0 (drop size s))
unfolding chars_at char_at
chars-turn [] b size q h e = absurd (let z : ◌≡◌ {A = ℕ} 0 1 = cc in omega arith)
chars-turn (c ∷ s) b size q h e = record {
  then =
      rw (ne_eqb c 34 q)
      (ap (λ (r : Read ℕ). and_read r (λ b size. and_read (chars_at (size - 1) s) (λ bs count. got (b ∷ bs) (suc count)))) e
      ∙ ap (λ (r : Read (List ℕ)). and_read r (λ bs count. got (b ∷ bs) (suc count))) (chars-skip (size - 1) s)
      ∙ turn-skip b size (chars_at 0 (drop (size - 1) s)) h
      ∙ ap (λ (l : List ℕ). and_read (chars_at 0 l) (λ bs n. got (b ∷ bs) (size + n))) (at_drop c s size h));
}

bytes-turn : (first : Bool) (s : List ℕ) (b size : ℕ) → 0 < length s → (get_or s 0 0 ≡ 125 → ⊥) → 1 ≤ size → byte_at first s ≡ got b size
    → Turn (bytes_at first 0 s) b size (bytes_at false 0 (drop size s))
unfolding bytes_at
bytes-turn first [] b size some q h e = absurd (omega arith)
bytes-turn first (c ∷ s) b size some q h e = record {
  then =
      rw (ne_eqb c 125 q)
      (ap (λ (r : Read ℕ). and_read r (λ b size. and_read (bytes_at false (size - 1) s) (λ bs count. got (b ∷ bs) (suc count)))) e
      ∙ ap (λ (r : Read (List ℕ)). and_read r (λ bs count. got (b ∷ bs) (suc count))) (bytes-skip false (size - 1) s)
      ∙ turn-skip b size (bytes_at false 0 (drop (size - 1) s)) h
      ∙ ap (λ (l : List ℕ). and_read (bytes_at false 0 l) (λ bs n. got (b ∷ bs) (size + n))) (at_drop c s size h));
}

-- a byte was read where bytes were
chars-first : (s : List ℕ) → (get_or s 0 0 ≡ 34 → ⊥) → is_got (chars_at 0 s) ≡ true → is_got (char_at s) ≡ true
unfolding chars_at char_at
chars-first [] q h = h
chars-first (c ∷ s) q h = got-first (char_at (c ∷ s)) _ (rw (ne_eqb c 34 q) at h)

bytes-first : (first : Bool) (s : List ℕ) → (get_or s 0 0 ≡ 125 → ⊥) → is_got (bytes_at first 0 s) ≡ true → is_got (byte_at first s) ≡ true
unfolding bytes_at
bytes-first first [] q h = absurd (let z : ◌≡◌ {A = ℕ} 0 1 = cc in omega arith)
bytes-first first (c ∷ s) q h = got-first (byte_at first (c ∷ s)) _ (rw (ne_eqb c 125 q) at h)

-- the end
chars-end : (s : List ℕ) → get_or s 0 0 ≡ 34 → chars_at 0 s ≡ got [] 1
unfolding chars_at
chars-end [] q = absurd (omega arith)
chars-end (c ∷ s) q = rw (eq-eqb c 34 q)

bytes-end : (first : Bool) (s : List ℕ) → get_or s 0 0 ≡ 125 → bytes_at first 0 s ≡ got [] 1
unfolding bytes_at
bytes-end first [] q = absurd (omega arith)
bytes-end first (c ∷ s) q = rw (eq-eqb c 125 q)

-- nothing is read past the end
pub chars_inside : (text : List ℕ) (pos : ℕ) → is_got (chars_at 0 (drop pos text)) ≡ true → pos < length text
unfolding chars_at
chars_inside text pos h = lt_of pos (length text) (λ l. let e = rw (drop_of_length-le text l) at h in let z : ◌≡◌ {A = ℕ} 0 1 = cc in omega arith)

bytes_inside : (first : Bool) (text : List ℕ) (pos : ℕ) → is_got (bytes_at first 0 (drop pos text)) ≡ true → pos < length text
unfolding bytes_at
bytes_inside first text pos h = lt_of pos (length text) (λ l. let e = rw (drop_of_length-le text l) at h in let z : ◌≡◌ {A = ℕ} 0 1 = cc in omega arith)

-- WHERE THE COPYING STANDS: what is left of the bytes to read and to write
pub record Copying (all : Read (List ℕ)) (at used : ℕ) (kept : List ℕ) (now : Read (List ℕ)) (pos end : ℕ) (store : List ℕ) : Type 0 where
  pub rest : Got now
  pub ends : pos + rest.count ≡ at + size_read all
  pub left : Left kept used (read_or [] all) store end rest.is

pub copying-start : (all : Read (List ℕ)) (at used : ℕ) (store : List ℕ) → is_got all ≡ true → Copying all at used store all at used store
copying-start (got bs n) at used store h = record { rest = record { is = bs; count = n; same = refl }; ends = refl; left = left-all store used bs }
copying-start wrong at used store h = absurd (let z : ◌≡◌ {A = ℕ} 0 1 = cc in omega arith)

module _ {all : Read (List ℕ)} {at used : ℕ} {kept : List ℕ} {now : Read (List ℕ)} {pos end : ℕ} {store : List ℕ}
    (x : Copying all at used kept now pos end store) where
  pub copying-got : is_got now ≡ true
  copying-got = of-got x.rest.same

  module _ (b size : ℕ) (next : Read (List ℕ)) (t : Turn now b size next) where
    rest-is : Got next
    rest-is = got_of next (got-first next _ (rw t.then at copying-got))

    both-are : (x.rest.is ≡ b ∷ rest-is.is) × (x.rest.count ≡ size + rest-is.count)
    both-are =
        let e : got x.rest.is x.rest.count ≡ got (b ∷ rest-is.is) (size + rest-is.count) =
        sym x.rest.same ∙ t.then ∙ ap (λ (r : Read (List ℕ)). and_read r (λ bs n. got (b ∷ bs) (size + n))) rest-is.same in
        (cc, cc)

    pub copying-room : used + length (read_or [] all) ≤ length kept → end < length store
    copying-room h = omega (arith, x.left.ends, x.left.size, ap length both-are.0)

    pub copying-turn : (pos' : ℕ) → pos' ≡ pos + size → Copying all at used kept next pos' (end + 1) (set store end b)
    copying-turn pos' p =
        let e : length x.rest.is ≡ suc (length rest-is.is) = ap length both-are.0 in
        record {
          rest = rest-is;
          ends = omega (arith, p, x.ends, both-are.1);
          left = record {
            same = x.left.same ∙ ap (sets store end) both-are.0 ∙ rw (add-one end);
            ends = omega (arith, x.left.ends, e);
            size = length-set store end b ∙ x.left.size;
          };
        }

  pub copying-done : now ≡ got [] 1 → BytesPut all at kept used (record { pos = pos + 1; used = end }) store
  copying-done e =
      let f : got x.rest.is x.rest.count ≡ got [] 1 = sym x.rest.same ∙ e in
      let g : x.rest.is ≡ [] = cc in
      let n : x.rest.count ≡ 1 = cc in
      record {
        pos = omega (arith, x.ends, n);
        end = omega (arith, x.left.ends, ap length g);
        holds = sym (x.left.same ∙ ap (sets store end) g);
      }

-- A CHARACTER OF A STRING and what is behind it
pub record StringTurn (text : List ℕ) (pos : ℕ) : Type 0 where
  pub b : ℕ
  pub size : ℕ
  pub there : char_at (drop pos text) ≡ got b size
  pub small : b < 256
  pub some-chars : 1 ≤ size
  pub fits : pos + size ≤ length text
  pub turn : Turn (chars_at 0 (drop pos text)) b size (chars_at 0 (drop (pos + size) text))

pub string-turn : (text : List ℕ) (pos : ℕ) → (get_or text pos 0 ≡ 34 → ⊥) → is_got (chars_at 0 (drop pos text)) ≡ true → StringTurn text pos
string-turn text pos q h =
    let s : List ℕ = drop pos text in
    let n : get_or s 0 0 ≡ 34 → ⊥ = λ e. q (sym (first_char text pos) ∙ e) in
    let g : Got (char_at s) = got_of (char_at s) (chars-first s n h) in
    let w = judged-got (λ b n. (b < 256) × (b ≡ 0 → ⊥) × Front s (char_text b) n) (char_at s) g.is g.count (char-sound s) g.same in
    let k : 1 ≤ g.count = omega (arith, w.2.1, char-some g.is) in
    let t = chars-turn s g.is g.count n k g.same in
    record {
      b = g.is;
      size = g.count;
      there = g.same;
      small = w.0;
      some-chars = k;
      fits = omega (arith, w.2.2, length-drop pos text);
      turn = record { then = t.then ∙ ap (λ (l : List ℕ). and_read (chars_at 0 l) (λ bs n. got (g.is ∷ bs) (g.count + n))) (drop-drop g.count pos text) };
    }

pub string-next : {all : Read (List ℕ)} {at used : ℕ} {kept text : List ℕ} {pos end : ℕ} {store : List ℕ}
    → Copying all at used kept (chars_at 0 (drop pos text)) pos end store → (t : StringTurn text pos) {b to : ℕ} → b ≡ t.b → to ≡ pos + t.size
    → Copying all at used kept (chars_at 0 (drop to text)) to (end + 1) (set store end b)
string-next x t e f = rw (e, f) (copying-turn x t.b t.size _ t.turn _ refl)

pub string-end : (text : List ℕ) (pos : ℕ) → get_or text pos 0 ≡ 34 → chars_at 0 (drop pos text) ≡ got [] 1
string-end text pos e = chars-end (drop pos text) (first_char text pos ∙ e)

-- A BYTE OF A BLOB, behind its space unless it is the first, and what is behind it
pub record BlobTurn (first : Bool) (text : List ℕ) (pos : ℕ) : Type 0 where
  pub gap : ℕ
  pub from : cond first pos (pos + 1) ≡ pos + gap
  pub b : ℕ
  pub k : ℕ
  pub there : decimal_at 255 (drop (pos + gap) text) ≡ got b k
  pub small : b < 256
  pub some-chars : 1 ≤ k
  pub fits : pos + gap + k ≤ length text
  pub turn : Turn (bytes_at first 0 (drop pos text)) b (gap + k) (bytes_at false 0 (drop (pos + gap + k) text))

-- what the byte's own reading says
record ByteRead (first : Bool) (text : List ℕ) (pos : ℕ) : Type 0 where
  gap : ℕ
  from : cond first pos (pos + 1) ≡ pos + gap
  b : ℕ
  k : ℕ
  digits : decimal_at 255 (drop (pos + gap) text) ≡ got b k
  whole : byte_at first (drop pos text) ≡ got b (gap + k)

byte-read : (first : Bool) (text : List ℕ) (pos : ℕ) → is_got (byte_at first (drop pos text)) ≡ true → ByteRead first text pos
unfolding byte_at
byte-read true text pos h =
    let g = got_of (decimal_at 255 (drop pos text)) h in
    record { gap = 0; from = rw (add-zero pos); b = g.is; k = g.count; digits = rw (add-zero pos) g.same; whole = rw (zero-add g.count) g.same }
byte-read false text pos h = go (eqb (get_or text pos 0) 32) refl
  where
    spaced : Bool → Read ℕ
    spaced b = cond b (and_read (decimal_at 255 (drop (pos + 1) text)) spaced_byte) wrong

    is : (b : Bool) → eqb (get_or text pos 0) 32 ≡ b → byte_at false (drop pos text) ≡ spaced b
    is b e = rw (first_char text pos, e, drop-drop 1 pos text)

    go : (b : Bool) → eqb (get_or text pos 0) 32 ≡ b → ByteRead false text pos
    go true e =
        let g = got_of (decimal_at 255 (drop (pos + 1) text)) (got-first (decimal_at 255 (drop (pos + 1) text)) spaced_byte (rw (is true e) at h)) in
        let plus : suc g.count ≡ 1 + g.count = omega arith in
        record {
          gap = 1;
          from = refl;
          b = g.is;
          k = g.count;
          digits = g.same;
          whole = is true e ∙ ap (λ (r : Read ℕ). and_read r spaced_byte) g.same ∙ ap (λ (m : ℕ). got g.is m) plus;
        }
    go false e = absurd (no_read h (is false e))

-- bounds of what was read
decimal-got : (limit : ℕ) (s : List ℕ) (n k : ℕ) (most : ℕ) → Within 0 (length s) (decimal_at limit s) × AtMost most (decimal_at limit s) → decimal_at limit s ≡ got n k
    → (1 ≤ k) × (k ≤ length s) × (n ≤ most)
decimal-got limit s n k most w e = let x = rw e at w in (x.0.0, omega (arith, x.0.1), x.1)

blob-turn : (first : Bool) (text : List ℕ) (pos : ℕ) → (get_or text pos 0 ≡ 125 → ⊥) → is_got (bytes_at first 0 (drop pos text)) ≡ true → BlobTurn first text pos
blob-turn first text pos q h =
    let s : List ℕ = drop pos text in
    let n : get_or s 0 0 ≡ 125 → ⊥ = λ e. q (sym (first_char text pos) ∙ e) in
    let r = byte-read first text pos (bytes-first first s n h) in
    let w = decimal-got 255 (drop (pos + r.gap) text) r.b r.k 255 (decimal-bounds 255 (drop (pos + r.gap) text)) r.digits in
    let i : pos < length text = bytes_inside first text pos h in
    let t = bytes-turn first s r.b (r.gap + r.k) (omega (arith, i, length-drop pos text)) n (omega (arith, w.0)) r.whole in
    let e : pos + (r.gap + r.k) ≡ pos + r.gap + r.k = omega arith in
    record {
      gap = r.gap;
      from = r.from;
      b = r.b;
      k = r.k;
      there = r.digits;
      small = omega (arith, w.2);
      some-chars = w.0;
      fits = omega (arith, w.1, length-drop (pos + r.gap) text, decimal-inside 255 text (pos + r.gap) (of-got r.digits));
      turn = record {
        then =
            t.then
            ∙ ap (λ (l : List ℕ). and_read (bytes_at false 0 l) (λ bs m. got (r.b ∷ bs) (r.gap + r.k + m)))
            (drop-drop (r.gap + r.k) pos text ∙ ap (λ (k : ℕ). drop k text) e);
      };
    }

-- what the code read of it
pub blob-known : {first : Bool} {text : List ℕ} {pos : ℕ} (t : BlobTurn first text pos) {from : ℕ} {r : Known}
    → from ≡ cond first pos (pos + 1) → KnownAs (decimal_at 255 (drop from text)) from r
    → (r.bits ≡ t.b) × (r.end ≡ pos + t.gap + t.k)
blob-known {first} {text} {pos} t {from} f w =
    let e : from ≡ pos + t.gap = f ∙ t.from in
    let r = known_is w t.b t.k (ap (λ (k : ℕ). decimal_at 255 (drop k text)) e ∙ t.there) in
    (r.0, omega (arith, r.1, e))

blob-end : (first : Bool) (text : List ℕ) (pos : ℕ) → get_or text pos 0 ≡ 125 → bytes_at first 0 (drop pos text) ≡ got [] 1
blob-end first text pos e = bytes-end first (drop pos text) (first_char text pos ∙ e)

-- THE BYTES OF A BLOB from `pos` on are left to copy: the first of all where none was written
pub record BlobCopying (text : List ℕ) (at used : ℕ) (kept : List ℕ) (pos end : ℕ) (store : List ℕ) : Type 0 where
  pub ahead : used ≤ end
  pub copying : Copying (bytes_at true 0 (drop at text)) at used kept (bytes_at (eqb end used) 0 (drop pos text)) pos end store

pub blob-start : (text : List ℕ) (at used : ℕ) (store : List ℕ) → is_got (bytes_at true 0 (drop at text)) ≡ true → BlobCopying text at used store at used store
blob-start text at used store h = record {
  ahead = omega arith;
  copying = rw (eq-eqb used used refl) (copying-start (bytes_at true 0 (drop at text)) at used store h);
}

module _ {text : List ℕ} {at used : ℕ} {kept : List ℕ} {pos end : ℕ} {store : List ℕ} (x : BlobCopying text at used kept pos end store) where
  pub blob-inside : pos < length text
  blob-inside = bytes_inside (eqb end used) text pos (copying-got x.copying)

  pub blob-byte : (get_or text pos 0 ≡ 125 → ⊥) → BlobTurn (eqb end used) text pos
  blob-byte q = blob-turn (eqb end used) text pos q (copying-got x.copying)

  pub blob-room : BlobTurn (eqb end used) text pos → used + length (read_or [] (bytes_at true 0 (drop at text))) ≤ length kept → end < length store
  blob-room t h = copying-room x.copying _ _ _ t.turn h

  pub blob-next : (t : BlobTurn (eqb end used) text pos) {b to : ℕ} → b ≡ t.b → to ≡ pos + t.gap + t.k
      → BlobCopying text at used kept to (end + 1) (set store end b)
  blob-next t e f = record {
    ahead = omega (arith, x.ahead);
    copying = rw (ne_eqb (end + 1) used (λ q. omega (arith, q, x.ahead)), e, f) (copying-turn x.copying t.b (t.gap + t.k) _ t.turn _ (omega arith));
  }

  pub blob-done : get_or text pos 0 ≡ 125 → BytesPut (bytes_at true 0 (drop at text)) at kept used (record { pos = pos + 1; used = end }) store
  blob-done e = copying-done x.copying (blob-end (eqb end used) text pos e)
