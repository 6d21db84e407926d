-- A value by its first character, and what its row and its store bytes are.
use Prim.Native.Nat.{ℕ, suc, ◌+◌, ◌-◌, ◌≤◌, ◌<◌}
use mathlib.Core.Path.{◌≡◌, refl, ap, ◌∙◌}
use mathlib.Core.Bool.{true}
use mathlib.Core.List.{List, [], ◌∷◌}
use native.Mathlib.Omega.{arith}
use native.Mathlib.Nat.{add-zero, zero-add}
use lib.Dec.{eqb}
use lib.ListN.{length, get_or, drop, drop_of_length-le}
use lib.Seq.{sets}
use borrow.Author.Tests.{eq-eqb, ne_eqb}
use Rattle.digits.specs.Read.{Read, got, wrong, and_read}
use Rattle.digits.proofs.Judging.{Judged, judged-got, judged-test, judged-read}
use Rattle.list.specs.Limits.{list_limit}
use Rattle.list.specs.Tree.{Value, int, vocab, str, blob}
use Rattle.list.specs.Rows.{value_row, value_store}
use Rattle.list.specs.RowBytes.{packed}
use Rattle.text.specs.Read.{sign_size, int_at, float_at, int_value, float_value, number_at, vocab_at, chars_at, bytes_at, within, value_at}
use Rattle.text_value.proofs.Decimals.{drop-next}
use Rattle.text_decode.specs.declared.put.CopiedTo.{CopiedTo}
use Rattle.text_decode.specs.declared.element.Cursor.{Cursor}
use Rattle.text_decode.specs.Pieces.{is_got, size_read, read_or, BytesHere, BytesPut, cursor, FixedHere, FixedPut, vocab_from, ValueHere, ValuePut}
use Rattle.text_decode.proofs.Knowns.{Got, got_of, of-got, got-first, lt_of}

-- VALUES BY THEIR FIRST CHARACTERS
module _ (text : List ℕ) (pos : ℕ) where
  pub value-inside : is_got (value_at (drop pos text)) ≡ true → pos < length text
  unfolding value_at
  value-inside h = lt_of pos (length text) (λ l. let e = rw (drop_of_length-le text l) at h in let z : ◌≡◌ {A = ℕ} 0 1 = cc in omega arith)

  module _ (inside : pos < length text) where
    pub value-string : get_or text pos 0 ≡ 34 → value_at (drop pos text) ≡ and_read (chars_at 0 (drop (pos + 1) text)) (within str)
    unfolding value_at
    value-string e = rw (drop-next text pos inside, eq-eqb (get_or text pos 0) 34 e)

    pub value-blob : get_or text pos 0 ≡ 123 → value_at (drop pos text) ≡ and_read (bytes_at true 0 (drop (pos + 1) text)) (within blob)
    unfolding value_at
    value-blob e = rw (drop-next text pos inside, e)

    pub value-vocab : get_or text pos 0 ≡ 91 → value_at (drop pos text) ≡ and_read (vocab_at (drop (pos + 1) text)) (within vocab)
    unfolding value_at
    value-vocab e = rw (drop-next text pos inside, e)

    pub value-number : (get_or text pos 0 ≡ 34 → ⊥) → (get_or text pos 0 ≡ 123 → ⊥) → (get_or text pos 0 ≡ 91 → ⊥) → value_at (drop pos text) ≡ number_at (drop pos text)
    unfolding value_at
    value-number a b c =
        rw (drop-next text pos inside, ne_eqb (get_or text pos 0) 34 a, ne_eqb (get_or text pos 0) 123 b, ne_eqb (get_or text pos 0) 91 c)

-- STRINGS AND BLOBS
module _ (kind : List ℕ → Value) (code : ℕ) (Store-is : (bs : List ℕ) → value_store (kind bs) ≡ bs)
    (row_is : (used : ℕ) (bs : List ℕ) → value_row used (kind bs) ≡ code ∷ used ∷ length bs ∷ [])
    (text : List ℕ) (x : Cursor) (rows store : List ℕ) (p : Read (List ℕ)) (is : value_at (drop x.pos text) ≡ and_read p (within kind)) where
  module _ (h : ValueHere text x rows store) where
    bytes : Got p
    bytes = got_of p (got-first p (within kind) (rw is at h.there))

    value-is : value_at (drop x.pos text) ≡ got (kind bytes.is) (suc bytes.count)
    value-is = is ∙ ap (λ (r : Read (List ℕ)). and_read r (within kind)) bytes.same

    store_of : value_store (read_or (int 0) (value_at (drop x.pos text))) ≡ bytes.is
    store_of = ap (λ (r : Read Value). value_store (read_or (int 0) r)) value-is ∙ Store-is bytes.is

    read_is : read_or [] p ≡ bytes.is
    read_is = ap (read_or []) bytes.same

    pub stored_here : BytesHere p store x.used
    stored_here = record { there = of-got bytes.same; room = omega (arith, h.room, ap length store_of, ap length read_is) }

    module _ (to : CopiedTo) (store' : List ℕ) (w : BytesPut p (x.pos + 1) store x.used to store') where
      pub stored-requires : (x.row + 12 ≤ length rows) × (x.used ≤ to.used) × (to.used ≤ list_limit)
      stored-requires = (h.row, omega (arith, w.end), omega (arith, w.end, h.small, ap length store_of, ap length read_is))

      pub stored-put : (y : Cursor) (rows' : List ℕ) → rows' ≡ sets rows x.row (packed (code ∷ x.used ∷ (to.used - x.used) ∷ []))
          → y ≡ cursor to.pos (x.row + 12) to.used → ValuePut text x rows store y rows' store'
      stored-put y rows' r e =
          let n : to.used - x.used ≡ length bytes.is = omega (arith, w.end, ap length read_is) in
          let s : size_read (value_at (drop x.pos text)) ≡ suc bytes.count = ap size_read value-is in
          let k : size_read p ≡ bytes.count = ap size_read bytes.same in
          let row : value_row x.used (read_or (int 0) (value_at (drop x.pos text))) ≡ code ∷ x.used ∷ length bytes.is ∷ [] =
          ap (λ (r : Read Value). value_row x.used (read_or (int 0) r)) value-is ∙ row_is x.used bytes.is in
          record {
            pos = ap (λ (c : Cursor). c.pos) e ∙ (omega (arith, w.pos, s, k));
            row = ap (λ (c : Cursor). c.row) e;
            used = ap (λ (c : Cursor). c.used) e ∙ (omega (arith, w.end, ap length store_of, ap length read_is));
            rows-hold = r ∙ rw (n, row);
            store-holds = w.holds ∙ rw (read_is, store_of);
          }

-- VALUES WITH NOTHING IN THE STORE, `k` characters behind the cursor
abbrev pub NoStore : Read Value → Type 0
NoStore p = Judged (λ v n. value_store v ≡ []) p

pub number-no-store : (s : List ℕ) → NoStore (number_at s)
unfolding number_at
number-no-store s =
    judged-test (λ v n. value_store v ≡ []) (eqb (get_or s (sign_size s + 1) 0) 120) _ _
    (λ e. judged-read (λ v n. value_store v ≡ []) (float_at (sign_size s) (drop (sign_size s) s)) float_value (λ f n q. refl))
    (λ e. judged-read (λ v n. value_store v ≡ []) (int_at s) int_value (λ f n q. refl))

pub vocab-no-store : (text : List ℕ) (x : Cursor) → NoStore (vocab_from text x)
vocab-no-store text x = judged-read (λ v n. value_store v ≡ []) (vocab_at (drop x.pos text)) _ (λ b n q. refl)

-- a value `k` characters behind is one of so many characters more
pub vocab-behind : (r : Read ℕ) → and_read r (within vocab) ≡ and_read (and_read r (λ bits n. got (vocab bits) n)) (λ v n. got v (1 + n))
vocab-behind (got b n) = let e : 1 + n ≡ suc n = omega arith in rw e
vocab-behind wrong = refl

pub number_behind : (r : Read Value) → r ≡ and_read r (λ v n. got v (0 + n))
number_behind (got v n) = rw (zero-add n)
number_behind wrong = refl

pub cursor-same : (x : Cursor) → x ≡ cursor (x.pos + 0) x.row x.used
cursor-same x = rw (add-zero x.pos)

module _ (k : ℕ) (text : List ℕ) (x : Cursor) (rows store : List ℕ) (p : Read Value) (is : value_at (drop x.pos text) ≡ and_read p (λ v n. got v (k + n)))
    (h : ValueHere text x rows store) (z : Cursor) (at : z ≡ cursor (x.pos + k) x.row x.used) where
  read : Got p
  read = got_of p (got-first p _ (rw is at h.there))

  fixed-is : value_at (drop x.pos text) ≡ got read.is (k + read.count)
  fixed-is = is ∙ ap (λ (r : Read Value). and_read r (λ v n. got v (k + n))) read.same

  pub fixed-here : FixedHere p z rows
  fixed-here = record { there = of-got read.same; row = rw at h.row }

  pub fixed-value : (y : Cursor) (rows' : List ℕ) → NoStore p → FixedPut p z rows y rows' → ValuePut text x rows store y rows' store
  fixed-value y rows' none w =
      let no : value_store read.is ≡ [] = judged-got (λ v n. value_store v ≡ []) p read.is read.count none read.same in
      let v : read_or (int 0) (value_at (drop x.pos text)) ≡ read.is = ap (read_or (int 0)) fixed-is in
      let u : read_or (int 0) p ≡ read.is = ap (read_or (int 0)) read.same in
      let s : size_read (value_at (drop x.pos text)) ≡ k + read.count = ap size_read fixed-is in
      let t : size_read p ≡ read.count = ap size_read read.same in
      let e : y ≡ cursor (x.pos + k + size_read p) (x.row + 12) x.used = w.to ∙ rw at in
      let c : value_store (read_or (int 0) (value_at (drop x.pos text))) ≡ [] = ap value_store v ∙ no in
      record {
        pos = ap (λ (c : Cursor). c.pos) e ∙ (omega (arith, s, t));
        row = ap (λ (c : Cursor). c.row) e;
        used = ap (λ (c : Cursor). c.used) e ∙ (omega (arith, ap length c));
        rows-hold = w.holds ∙ rw (at, u, v);
        store-holds = rw c;
      }
