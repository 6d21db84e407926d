-- Laws of values that are held in rows.
use Prim.Native.Nat.{ℕ, ◌+◌, ◌*◌, ◌≤◌, ◌<◌, ◌^◌}
use mathlib.Core.Path.{◌≡◌, refl, sym, ap, ◌∙◌}
use mathlib.Core.Bool.{Bool, true, false}
use mathlib.Core.List.{List}
use mathlib.Core.Logic.{◌≢◌, ⊎_elim}
use native.Mathlib.Nat.{eq-or-lt_of_le}
use native.Mathlib.Omega.{arith}
use lib.Dec.{eqb}
use lib.ListN.{length, take, drop, get_or, set, length-set}
use lib.Seq.{sets, length-sets, take-set-le, drop-set-lt, get_or-set_same, get_or-set_other}
use borrow.Author.Tests.{eq-eqb, ne_eqb, lt-ltb, le-ltb, eqb-true, eqb-false}
use Rattle.wire.specs.Number.{le_bytes, le_value, number_at, Bytes}
use Rattle.wire.specs.Area.{put_at}
use Rattle.wire.proofs.Chains.{and_left, and_right, and-true, every-at}
use Rattle.wire.proofs.Numbers.{length-le_bytes, le_bytes-bytes, value-of-bytes}
use Rattle.wire.proofs.Buffers.{put-fits}
use Rattle.slot.specs.declared.Slot.{Slot}
use Rattle.slot.specs.Slot.{param_count, tabulate, with_value, Fits}
use Rattle.slot.specs.Row.{slot_size, uid_from, uid_size, present_from, bits_from, word_size, flag_legal, slot_of, is_row, slot_bytes}
use Rattle.slot.specs.Rows.{held_in}
use Rattle.slot.proofs.Filling.{le-or-lt, every-each, length-tabulate, get_d_tabulate, tabulate-self, drop-sets, get_d_sets, part_same, part-before}
use Rattle.slot.proofs.Filling.{take-drop, set-bytes, put-bytes, set_below}
use Rattle.slot.proofs.Rows.{length-slot, slot-back, slot_row, slot-bytes, row_back, same-make}

-- a value is held where the row is whole and the parameter one of its own, else nothing changes
pub held :
    (row : List ℕ) (p bits : ℕ) → length row ≡ slot_size → p < param_count
    → held_in row p bits ≡ put_at (set row (present_from + p) 1) (bits_from + word_size * p) (le_bytes word_size bits)
held row p bits n h = rw (eq-eqb (length row) slot_size n, lt-ltb p param_count h)

pub held-no-row : (row : List ℕ) (p bits : ℕ) → length row ≢ slot_size → held_in row p bits ≡ row
held-no-row row p bits n = rw (ne_eqb (length row) slot_size n)

pub held-past : (row : List ℕ) (p bits : ℕ) → length row ≡ slot_size → param_count ≤ p → held_in row p bits ≡ row
held-past row p bits n h = rw (eq-eqb (length row) slot_size n, le-ltb p param_count h)

-- a word beside the one that was written
word-other :
    (t : List ℕ) (p k : ℕ) (x : List ℕ) → length x ≡ word_size → k ≢ p
    → take word_size (drop (bits_from + word_size * k) (sets t (bits_from + word_size * p) x)) ≡ take word_size (drop (bits_from + word_size * k) t)
word-other t p k x n d =
    ⊎_elim
    (λ (l : p + 1 ≤ k). ap (take word_size) (drop-sets (bits_from + word_size * k) t (bits_from + word_size * p) x (omega (arith, n))))
    (λ (l : k < p + 1).
    let g : k < p = ⊎_elim (λ (e : k ≡ p). absurd (d e)) (λ (m : k < p). m) (let m : k ≤ p = omega arith in eq-or-lt_of_le m) in
    part-before t (bits_from + word_size * p) (bits_from + word_size * k) word_size x (omega arith))
    (le-or-lt (p + 1) k)

module _ (row : List ℕ) (p bits : ℕ) (n : length row ≡ slot_size) (h : p < param_count) where
  abbrev flagged : List ℕ
  flagged = set row (present_from + p) 1

  abbrev from : ℕ
  from = bits_from + word_size * p

  abbrev word : List ℕ
  word = le_bytes word_size bits

  abbrev new : List ℕ
  new = sets flagged from word

  held_new : held_in row p bits ≡ new
  held_new =
      let c = length-set row (present_from + p) 1 in
      let m = length-le_bytes word_size bits in
      held row p bits n h ∙ put-fits flagged from word (omega (arith, c, m, n))

  length-new : length new ≡ slot_size
  length-new = length-sets flagged from word ∙ length-set row (present_from + p) 1 ∙ n

  front : (k : ℕ) → k < present_from → get_or new k 0 ≡ get_or row k 0
  front k l = get_d_sets flagged from word k 0 (omega arith) ∙ get_or-set_other row (present_from + p) k 1 0 (λ e. omega arith)

  uid-same : number_at uid_size new uid_from ≡ number_at uid_size row uid_from
  uid-same =
      ap le_value (
      part-before flagged from uid_from uid_size word (omega arith)
      ∙ take-drop uid_size uid_from flagged
      ∙ ap (drop uid_from) (take-set-le present_from row (present_from + p) 1 (omega arith))
      ∙ sym (take-drop uid_size uid_from row))

  -- the flag of the parameter is 1, and each other one is as it was
  flag-new : (k : ℕ) → k < param_count → k ≡ p → get_or new (present_from + k) 0 ≡ 1
  flag-new k l q =
      get_d_sets flagged from word (present_from + k) 0 (omega arith)
      ∙ ap (λ j. get_or flagged (present_from + j) 0) q
      ∙ get_or-set_same row (present_from + p) 1 0 (omega (arith, n))

  flag-old : (k : ℕ) → k < param_count → k ≢ p → get_or new (present_from + k) 0 ≡ get_or row (present_from + k) 0
  flag-old k l d =
      get_d_sets flagged from word (present_from + k) 0 (omega arith)
      ∙ get_or-set_other row (present_from + p) (present_from + k) 1 0 (λ q. d (omega arith))

  abbrev flag : ℕ → Bool
  flag k = eqb (get_or row (present_from + k) 0) 1

  flag_at : (k : ℕ) → k < param_count → (e : Bool) → eqb k p ≡ e → eqb (get_or new (present_from + k) 0) 1 ≡ get_or (set (tabulate param_count flag) p true) k false
  flag_at k l true e =
      let q = eqb-true k p e in
      let b = length-tabulate param_count flag in
      ap (λ x. eqb x 1) (flag-new k l q)
      ∙ sym (
      ap (λ j. get_or (set (tabulate param_count flag) p true) j false) q
      ∙ get_or-set_same (tabulate param_count flag) p true false (omega (arith, b)))
  flag_at k l false e =
      let d : k ≢ p = eqb-false k p e in
      ap (λ x. eqb x 1) (flag-old k l d)
      ∙ sym (get_or-set_other (tabulate param_count flag) p k true false d ∙ get_d_tabulate param_count flag k false l)

  abbrev number : ℕ → ℕ
  number k = number_at word_size row (bits_from + word_size * k)

  number-at :
      bits < 256 ^ 4 → (k : ℕ) → k < param_count → (e : Bool) → eqb k p ≡ e
      → number_at word_size new (bits_from + word_size * k) ≡ get_or (set (tabulate param_count number) p bits) k 0
  number-at small k l true e =
      let q = eqb-true k p e in
      let b = length-tabulate param_count number in
      let c = length-set row (present_from + p) 1 in
      ap (λ j. number_at word_size new (bits_from + word_size * j)) q
      ∙ ap le_value (part_same flagged from word_size word (length-le_bytes word_size bits) (omega (arith, c, n)))
      ∙ value-of-bytes word_size bits small
      ∙ sym (
      ap (λ j. get_or (set (tabulate param_count number) p bits) j 0) q
      ∙ get_or-set_same (tabulate param_count number) p bits 0 (omega (arith, b)))
  number-at small k l false e =
      let d : k ≢ p = eqb-false k p e in
      ap le_value (
      word-other flagged p k word (length-le_bytes word_size bits) d
      ∙ ap (take word_size) (drop-set-lt (bits_from + word_size * k) row (present_from + p) 1 (omega arith)))
      ∙ sym (get_or-set_other (tabulate param_count number) p k bits 0 d ∙ get_d_tabulate param_count number k 0 l)

  -- the slot that is spelled holds the value
  slot-new : bits < 256 ^ 4 → slot_of new ≡ with_value (slot_of row) p bits
  slot-new small =
      same-make
      (ap (λ x. eqb x 1) (front 0 (omega arith)))
      (front 1 (omega arith))
      (front 2 (omega arith))
      (front 3 (omega arith))
      uid-same
      (tabulate-self param_count false (set (tabulate param_count flag) p true) _
      (length-set (tabulate param_count flag) p true ∙ length-tabulate param_count flag) (λ k l. flag_at k l (eqb k p) refl))
      (tabulate-self param_count 0 (set (tabulate param_count number) p bits) _
      (length-set (tabulate param_count number) p bits ∙ length-tabulate param_count number) (λ k l. number-at small k l (eqb k p) refl))

  -- what is a row stays a row
  row_new : is_row row ≡ true → is_row new ≡ true
  unfolding is_row
  row_new r =
      let legal = and_right (eqb (length row) slot_size) _ r in
      and-true _ _ (eq-eqb _ _ length-new) (
      and-true _ _ (ap flag_legal (front 0 (omega arith)) ∙ and_left (flag_legal (get_or row 0 0)) _ legal) (
      every-each param_count _ (λ k l. go k l (every-at param_count _ (and_right (flag_legal (get_or row 0 0)) _ legal) k l) (eqb k p) refl)))
    where
      go :
          (k : ℕ) → k < param_count → flag_legal (get_or row (present_from + k) 0) ≡ true → (e : Bool) → eqb k p ≡ e
          → flag_legal (get_or new (present_from + k) 0) ≡ true
      go k l f true e = ap flag_legal (flag-new k l (eqb-true k p e))
      go k l f false e = ap flag_legal (flag-old k l (eqb-false k p e)) ∙ f

-- LAW: a value that is put into a row's bytes is held by the slot
pub held-value : (s : Slot) (p bits : ℕ) → Fits s → p < param_count → bits < 256 ^ 4 → held_in (slot_bytes s) p bits ≡ slot_bytes (with_value s p bits)
held-value s p bits f h small =
    let row = slot_bytes s in
    let n = length-slot s in
    let e = held_new row p bits n h in
    let x = le_bytes word_size bits in
    let flagged = set row (present_from + p) 1 in
    let fb : Bytes flagged = set-bytes row (present_from + p) 1 (slot-bytes s f) (omega arith) in
    let b : Bytes (held_in row p bits) =
    rw (held row p bits n h) (put-bytes flagged (bits_from + word_size * p) x fb (le_bytes-bytes word_size bits)) in
    sym (row_back (held_in row p bits) b (ap is_row e ∙ row_new row p bits n h (slot_row s)))
    ∙ ap slot_bytes (ap slot_of e ∙ slot-new row p bits n h small ∙ ap (λ x. with_value x p bits) (slot-back s f))

-- LAW: a slot with one more value of its type has its fields' types
pub value-fits : (s : Slot) (p bits : ℕ) → Fits s → bits < 256 ^ 4 → Fits (with_value s p bits)
value-fits s p bits f small =
    record {
      socket-byte = f.socket-byte;
      device-byte = f.device-byte;
      year-byte = f.year-byte;
      uid-small = f.uid-small;
      presents = length-set s.present p true ∙ f.presents;
      words = length-set s.bits p bits ∙ f.words;
      word_small = set_below (256 ^ 4) s.bits p bits f.word_small small;
    }
