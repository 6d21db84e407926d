-- Laws of slots as rows of bytes, and of rows in a table's bytes.
use Prim.Native.Nat.{ℕ, zero, suc, ◌+◌, ◌*◌, ◌≤◌, ◌<◌, ◌^◌}
use mathlib.Core.Path.{◌≡◌, refl, sym, ap, ◌∙◌}
use mathlib.Core.Bool.{Bool, true, false, cond}
use mathlib.Core.List.{List, [], ◌∷◌, ◌++◌, append_assoc}
use mathlib.Core.Logic.{◌≢◌, ◌⊎◌, inl, inr, ⊎_elim}
use native.Mathlib.Nat.{eq-or-lt_of_le}
use native.Mathlib.Omega.{arith}
use lib.Dec.{eqb, leb}
use lib.ListN.{length, take, drop, get_or, replicate, length-append, length-drop, length-replicate}
use lib.ListN.{take-append-drop, get_or-append, get_or-eq_default}
use lib.Seq.{sets, take_at, take_all, drop_at, drop-cons, drop-drop, drop-append-add, get_or-append-add, get_or-drop}
use borrow.Author.Tests.{le-leb, lt-leb, leb-true, eq-eqb, ne_eqb, eqb-true, eqb-false}
use Rattle.wire.specs.Every.{every}
use Rattle.wire.specs.Number.{le_bytes, le_value, number_at, Bytes}
use Rattle.wire.specs.Area.{put_at}
use Rattle.wire.proofs.ByteLists.{append-bytes, take-bytes, drop-bytes, byte_small}
use Rattle.wire.proofs.Chains.{and_left, and_right, and-true, every-at}
use Rattle.wire.proofs.Numbers.{length-le_bytes, le_bytes-bytes, value-of-bytes}
use Rattle.wire.proofs.Buffers.{put-fits, put-none, put-joined, joined}
use Rattle.slot.specs.declared.Slot.{Slot}
use Rattle.slot.specs.Slot.{param_count, tabulate, present_at, bits_at, fresh_slot, empty_slot, Fits}
use Rattle.slot.specs.Row.{slot_size, uid_from, uid_size, present_from, bits_from, word_size, flag_byte, flag_legal, slot_of, is_row}
use Rattle.slot.specs.Row.{head_bytes, flag_bytes, word_bytes, slot_bytes}
use Rattle.slot.specs.Rows.{row_in, slot_in, slot_at, with_slot}
use Rattle.slot.proofs.Filling.{le-or-lt, every-each, length-tabulate, get_d_tabulate, same-each, tabulate-self, tabulate-front, tabulate-bytes}
use Rattle.slot.proofs.Filling.{length-spelled, spelled-bytes, word_in, number-bytes, number_small, spelled-front}
use Rattle.slot.proofs.Filling.{take-sets, drop-sets, part_same, part-before, length-put, put-bytes}

-- what is behind a row's head
abbrev behind : Slot → List ℕ
behind s = flag_bytes s.present ++ word_bytes s.bits

abbrev head : Slot → List ℕ
head s = head_bytes s.taken s.socket s.device s.year s.uid

length-behind : (s : Slot) → length (behind s) ≡ param_count + word_size * param_count
length-behind s =
    let f = length-tabulate param_count (λ p. flag_byte (get_or s.present p false)) in
    let w = length-spelled param_count (λ p. get_or s.bits p 0) in
    length-append (flag_bytes s.present) (word_bytes s.bits) ∙ omega (arith, f, w)

-- LAW: a slot's bytes are as many as a row has
pub length-slot : (s : Slot) → length (slot_bytes s) ≡ slot_size
length-slot s = length-append (head s) (behind s) ∙ (let q = length-behind s in omega (arith, q))

abbrev pub make : Bool → ℕ → ℕ → ℕ → ℕ → List Bool → List ℕ → Slot
make taken socket device year uid present bits =
    record { taken = taken; socket = socket; device = device; year = year; uid = uid; present = present; bits = bits }

pub same-make :
    {a b : Bool} {s t d e y z u v : ℕ} {p q : List Bool} {m n : List ℕ} → a ≡ b → s ≡ t → d ≡ e → y ≡ z → u ≡ v → p ≡ q → m ≡ n
    → make a s d y u p m ≡ make b t e z v q n
same-make c1 c2 c3 c4 c5 c6 c7 = rw (c1, c2, c3, c4, c5, c6, c7)

-- LAW: two slots of as many flags and numbers as there are parameters, that agree in each, are equal
pub same_row :
    (s u : Slot) → s.taken ≡ u.taken → s.socket ≡ u.socket → s.device ≡ u.device → s.year ≡ u.year → s.uid ≡ u.uid
    → length s.present ≡ param_count → length u.present ≡ param_count → length s.bits ≡ param_count → length u.bits ≡ param_count
    → ((p : ℕ) → p < param_count → present_at s p ≡ present_at u p) → ((p : ℕ) → p < param_count → bits_at s p ≡ bits_at u p) → s ≡ u
same_row s u e1 e2 e3 e4 e5 sp up sb ub h k =
    same-make e1 e2 e3 e4 e5 (same-each param_count false s.present u.present sp up h) (same-each param_count 0 s.bits u.bits sb ub k)

flag-back : (b : Bool) → eqb (flag_byte b) 1 ≡ b
flag-back true = refl
flag-back false = refl

number_behind :
    (width : ℕ) (x y z : List ℕ) (at v : ℕ) → length x ≡ at → length y ≡ width → le_value y ≡ v → number_at width (x ++ (y ++ z)) at ≡ v
number_behind width x y z at v p q e = ap le_value (ap (take width) (drop_at x (y ++ z) at p) ∙ take_at y z width q) ∙ e

flag-in : (s : Slot) (p : ℕ) → p < param_count → get_or (slot_bytes s) (present_from + p) 0 ≡ flag_byte (present_at s p)
flag-in s p h =
    let f : ℕ → ℕ = λ k. flag_byte (get_or s.present k false) in
    get_or-append-add (head s) (behind s) p 0
    ∙ get_or-append (flag_bytes s.present) (word_bytes s.bits) 0 p (let q = length-tabulate param_count f in omega (arith, q))
    ∙ get_d_tabulate param_count f p 0 h

word_back : (s : Slot) (p : ℕ) → p < param_count → bits_at s p < 256 ^ 4 → number_at word_size (slot_bytes s) (bits_from + word_size * p) ≡ bits_at s p
word_back s p h k =
    let f = length-tabulate param_count (λ k. flag_byte (get_or s.present k false)) in
    let x = head s ++ flag_bytes s.present in
    let m : length x ≡ bits_from = length-append (head s) (flag_bytes s.present) ∙ omega (arith, f) in
    let e : drop (bits_from + word_size * p) (slot_bytes s) ≡ drop (word_size * p) (word_bytes s.bits) =
    ap (drop (bits_from + word_size * p)) (sym (append_assoc (head s) (flag_bytes s.present) (word_bytes s.bits)))
    ∙ ap (λ k. drop (k + word_size * p) (x ++ word_bytes s.bits)) (sym m)
    ∙ drop-append-add x (word_bytes s.bits) (word_size * p) in
    ap (λ l. le_value (take word_size l)) e
    ∙ ap le_value (word_in param_count (λ k. get_or s.bits k 0) p h)
    ∙ value-of-bytes word_size (bits_at s p) k

-- LAW: a slot is what its bytes spell
pub slot-back : (s : Slot) → Fits s → slot_of (slot_bytes s) ≡ s
slot-back s f =
    same-make
    (flag-back s.taken)
    refl
    refl
    refl
    (number_behind uid_size (flag_byte s.taken ∷ s.socket ∷ s.device ∷ s.year ∷ []) (le_bytes uid_size s.uid) (behind s) uid_from s.uid refl
    (length-le_bytes uid_size s.uid) (value-of-bytes uid_size s.uid f.uid-small))
    (tabulate-self param_count false s.present _ f.presents (λ k h. ap (λ b. eqb b 1) (flag-in s k h) ∙ flag-back (present_at s k)))
    (tabulate-self param_count 0 s.bits _ f.words (λ k h. word_back s k h (f.word_small k)))

-- LAW: bytes spell a slot whose fields have their types
pub row_fits : (row : List ℕ) → Bytes row → Fits (slot_of row)
row_fits row b =
    record {
      socket-byte = byte_small row 1 b;
      device-byte = byte_small row 2 b;
      year-byte = byte_small row 3 b;
      uid-small = number_small uid_size row uid_from b;
      presents = length-tabulate param_count _;
      words = length-tabulate param_count _;
      word_small = small;
    }
  where
    small : (p : ℕ) → get_or (tabulate param_count (λ p. number_at word_size row (bits_from + word_size * p))) p 0 < 256 ^ 4
    small p =
        let f : ℕ → ℕ = λ p. number_at word_size row (bits_from + word_size * p) in
        let n = length-tabulate param_count f in
        ⊎_elim
        (λ (h : param_count ≤ p). rw (get_or-eq_default (tabulate param_count f) 0 {n = p} (omega (arith, n))) (omega arith))
        (λ (h : p < param_count). rw (get_d_tabulate param_count f p 0 h) (number_small word_size row (bits_from + word_size * p) b))
        (le-or-lt param_count p)

flag-legal : (b : Bool) → flag_legal (flag_byte b) ≡ true
flag-legal true = refl
flag-legal false = refl

-- LAW: a slot's bytes are a row
pub slot_row : (s : Slot) → is_row (slot_bytes s) ≡ true
unfolding is_row
slot_row s =
    and-true _ _ (eq-eqb _ _ (length-slot s)) (
    and-true _ _ (flag-legal s.taken) (
    every-each param_count _ (λ p h. ap flag_legal (flag-in s p h) ∙ flag-legal (present_at s p))))

flag_small : (b : Bool) → flag_byte b < 256
flag_small true = omega arith
flag_small false = omega arith

-- LAW: a slot whose fields have their types is spelled by bytes
pub slot-bytes : (s : Slot) → Fits s → Bytes (slot_bytes s)
slot-bytes s f =
    append-bytes (head s) (behind s)
    (flag_small s.taken, (f.socket-byte, (f.device-byte, (f.year-byte, le_bytes-bytes uid_size s.uid))))
    (append-bytes (flag_bytes s.present) (word_bytes s.bits) (tabulate-bytes param_count _ (λ k. flag_small (present_at s k)))
    (spelled-bytes param_count (λ p. get_or s.bits p 0)))

-- a byte that is a flag is the byte of what it says
flag-byte : (b : ℕ) → flag_legal b ≡ true → flag_byte (eqb b 1) ≡ b
flag-byte b h = go (eqb b 1) refl
  where
    go : (t : Bool) → eqb b 1 ≡ t → flag_byte t ≡ b
    go true e = sym (eqb-true b 1 e)
    go false e = let n = eqb-false b 1 e in let l = leb-true b 1 h in omega arith

-- what stands before the UID
four : (l : List ℕ) → uid_from ≤ length l → l ≡ get_or l 0 0 ∷ get_or l 1 0 ∷ get_or l 2 0 ∷ get_or l 3 0 ∷ drop uid_from l
four l h =
    drop-cons l 0 0 (omega arith)
    ∙ ap (λ k. get_or l 0 0 ∷ k) (drop-cons l 1 0 (omega arith))
    ∙ ap (λ k. get_or l 0 0 ∷ get_or l 1 0 ∷ k) (drop-cons l 2 0 (omega arith))
    ∙ ap (λ k. get_or l 0 0 ∷ get_or l 1 0 ∷ get_or l 2 0 ∷ k) (drop-cons l 3 0 (omega arith))

-- two parts end to end are the list behind the first one's start
parts : (a b n : ℕ) (l : List ℕ) → b ≡ a + n → take n (drop a l) ++ drop b l ≡ drop a l
parts a b n l e = rw (e, ← drop-drop n a l) (take-append-drop n (drop a l))

-- the parts of a row are those of the slot that it spells
flags-back :
    (row : List ℕ) → length row ≡ slot_size → every param_count (λ p. flag_legal (get_or row (present_from + p) 0)) ≡ true
    → flag_bytes (slot_of row).present ≡ take param_count (drop present_from row)
flags-back row n h =
    let m = length-drop present_from row in
    tabulate-front param_count 0 (drop present_from row) _ (omega (arith, m, n)) (λ p l.
    ap flag_byte (get_d_tabulate param_count _ p false l)
    ∙ flag-byte (get_or row (present_from + p) 0) (every-at param_count _ h p l)
    ∙ sym (get_or-drop present_from row p 0))

words_back : (row : List ℕ) → length row ≡ slot_size → Bytes row → word_bytes (slot_of row).bits ≡ drop bits_from row
words_back row n b =
    let m = length-drop bits_from row in
    spelled-front param_count (drop bits_from row) _ (drop-bytes bits_from row b) (omega (arith, m, n)) (λ p l.
    get_d_tabulate param_count _ p 0 l ∙ ap (λ x. le_value (take word_size x)) (sym (drop-drop (word_size * p) bits_from row)))
    ∙ take_all (word_size * param_count) (drop bits_from row) (omega (arith, m, n))

uid-back : (row : List ℕ) → length row ≡ slot_size → Bytes row → le_bytes uid_size (slot_of row).uid ++ drop present_from row ≡ drop uid_from row
uid-back row n b =
    ap (λ x. x ++ drop present_from row) (number-bytes uid_size row uid_from b (omega (arith, n)))
    ∙ parts uid_from present_from uid_size row refl

-- LAW: a row is the bytes of the slot that it spells
pub row_back : (row : List ℕ) → Bytes row → is_row row ≡ true → slot_bytes (slot_of row) ≡ row
unfolding is_row
row_back row b h =
    let n : length row ≡ slot_size = eqb-true (length row) slot_size (and_left _ _ h) in
    let legal = and_right (eqb (length row) slot_size) _ h in
    let taken = and_left (flag_legal (get_or row 0 0)) _ legal in
    let flags = and_right (flag_legal (get_or row 0 0)) _ legal in
    let rest = drop present_from row in
    ap (λ x. head (slot_of row) ++ (x ++ word_bytes (slot_of row).bits)) (flags-back row n flags)
    ∙ ap (λ x. head (slot_of row) ++ (take param_count rest ++ x)) (words_back row n b)
    ∙ ap (λ x. head (slot_of row) ++ x) (parts present_from bits_from param_count row refl)
    ∙ ap (λ x. x ∷ get_or row 1 0 ∷ get_or row 2 0 ∷ get_or row 3 0 ∷ (le_bytes uid_size (slot_of row).uid ++ rest)) (flag-byte (get_or row 0 0) taken)
    ∙ ap (λ x. get_or row 0 0 ∷ get_or row 1 0 ∷ get_or row 2 0 ∷ get_or row 3 0 ∷ x) (uid-back row n b)
    ∙ sym (four row (omega (arith, n)))

zeros-below : (n p : ℕ) → get_or (replicate n 0) p 0 < 256 ^ 4
zeros-below zero p = omega arith
zeros-below (suc n) zero = omega arith
zeros-below (suc n) (suc p) = zeros-below n p

-- LAW: a row that is made of numbers of their types has its fields' types
pub fresh-fits :
    (taken : Bool) (socket device year uid : ℕ) → socket < 256 → device < 256 → year < 256 → uid < 256 ^ 8
    → Fits (fresh_slot taken socket device year uid)
fresh-fits taken socket device year uid s d y u =
    record {
      socket-byte = s;
      device-byte = d;
      year-byte = y;
      uid-small = u;
      presents = length-replicate param_count false;
      words = length-replicate {A = ℕ} param_count 0;
      word_small = zeros-below param_count;
    }

-- bytes of a row's size spell its slot, others an empty one
pub spells : (row : List ℕ) → length row ≡ slot_size → slot_in row ≡ slot_of row
spells row e = rw (eq-eqb (length row) slot_size e)

pub spells-none : (row : List ℕ) → length row ≢ slot_size → slot_in row ≡ empty_slot
spells-none row e = rw (ne_eqb (length row) slot_size e)

pub slot-past : (t : List ℕ) (i : ℕ) → length t < slot_size * i + slot_size → slot_at t i ≡ empty_slot
slot-past t i h = rw (lt-leb _ _ h)

pub slot-here : (t : List ℕ) (i : ℕ) → slot_size * i + slot_size ≤ length t → slot_at t i ≡ slot_of (row_in t i)
slot-here t i h = rw (le-leb _ _ h)

-- what the rows' slots and the empty slot have, each slot of a table has
of-slot : (t : List ℕ) (i : ℕ) (P : Slot → Type 0) → P (slot_of (row_in t i)) → P empty_slot → P (slot_at t i)
of-slot t i P h k = go (leb (slot_size * i + slot_size) (length t))
  where
    go : (b : Bool) → P (cond b (slot_of (row_in t i)) empty_slot)
    go true = h
    go false = k

-- LAW: each slot of a table of bytes has its fields' types
pub slot-fits : (t : List ℕ) → Bytes t → (i : ℕ) → Fits (slot_at t i)
slot-fits t b i =
    of-slot t i Fits
    (row_fits (row_in t i) (take-bytes slot_size (drop (slot_size * i) t) (drop-bytes (slot_size * i) t b)))
    (fresh-fits false 0 0 0 0 (omega arith) (omega arith) (omega arith) (omega arith))

-- LAW: each slot of a table has as many flags and numbers as there are parameters
pub slot-shaped : (t : List ℕ) (i : ℕ) → (length (slot_at t i).present ≡ param_count) × (length (slot_at t i).bits ≡ param_count)
slot-shaped t i =
    of-slot t i (λ s. (length s.present ≡ param_count) × (length s.bits ≡ param_count))
    (length-tabulate param_count _, length-tabulate param_count _)
    (length-replicate param_count false, length-replicate {A = ℕ} param_count 0)

-- LAW: a slot that is put keeps the table's length
pub length-with : (t : List ℕ) (i : ℕ) (s : Slot) → length (with_slot t i s) ≡ length t
length-with t i s = length-put t (slot_size * i) (slot_bytes s)

-- LAW: and its elements stay bytes
pub bytes-with : (t : List ℕ) (i : ℕ) (s : Slot) → Bytes t → Fits s → Bytes (with_slot t i s)
bytes-with t i s b f = put-bytes t (slot_size * i) (slot_bytes s) b (slot-bytes s f)

with-fits : (t : List ℕ) (i : ℕ) (s : Slot) → slot_size * i + slot_size ≤ length t → with_slot t i s ≡ sets t (slot_size * i) (slot_bytes s)
with-fits t i s h = put-fits t (slot_size * i) (slot_bytes s) (let n = length-slot s in omega (arith, n))

-- a slot that the table does not have changes nothing
pub with_none : (t : List ℕ) (i : ℕ) (s : Slot) → length t < slot_size * i + slot_size → with_slot t i s ≡ t
with_none t i s h = put-none t (slot_size * i) (slot_bytes s) (let n = length-slot s in omega (arith, n))

-- a property of the table that the write keeps where the slot is there, is kept
with-either :
    (t : List ℕ) (i : ℕ) (s : Slot) (P : List ℕ → Type 0) → (slot_size * i + slot_size ≤ length t → P (sets t (slot_size * i) (slot_bytes s))) → P t
    → P (with_slot t i s)
with-either t i s P h k =
    ⊎_elim
    (λ (l : slot_size * i + slot_size ≤ length t). rw (with-fits t i s l) (h l))
    (λ (l : length t < slot_size * i + slot_size). rw (with_none t i s l) k)
    (le-or-lt (slot_size * i + slot_size) (length t))

-- the row that was written, and every other row
row_same : (t : List ℕ) (i : ℕ) (s : Slot) → slot_size * i + slot_size ≤ length t → row_in (sets t (slot_size * i) (slot_bytes s)) i ≡ slot_bytes s
row_same t i s h = part_same t (slot_size * i) slot_size (slot_bytes s) (length-slot s) h

row_other : (t : List ℕ) (i j : ℕ) (s : Slot) → j ≢ i → row_in (sets t (slot_size * i) (slot_bytes s)) j ≡ row_in t j
row_other t i j s d =
    let n = length-slot s in
    ⊎_elim
    (λ (l : i + 1 ≤ j). ap (take slot_size) (drop-sets (slot_size * j) t (slot_size * i) (slot_bytes s) (omega (arith, n))))
    (λ (l : j < i + 1).
    let g : j < i = ⊎_elim (λ (e : j ≡ i). absurd (d e)) (λ (k : j < i). k) (let m : j ≤ i = omega arith in eq-or-lt_of_le m) in
    part-before t (slot_size * i) (slot_size * j) slot_size (slot_bytes s) (omega arith))
    (le-or-lt (i + 1) j)

-- LAW: a slot that is put is read back
pub same-slot : (t : List ℕ) (i : ℕ) (s : Slot) → Fits s → slot_size * i + slot_size ≤ length t → slot_at (with_slot t i s) i ≡ s
same-slot t i s f h =
    let m = length-with t i s in
    slot-here (with_slot t i s) i (omega (arith, m))
    ∙ ap (λ z. slot_of (row_in z i)) (with-fits t i s h)
    ∙ ap slot_of (row_same t i s h)
    ∙ slot-back s f

-- tables of one length that agree in a row
slot-agrees : (t u : List ℕ) (j : ℕ) → length t ≡ length u → row_in t j ≡ row_in u j → slot_at t j ≡ slot_at u j
slot-agrees t u j l e =
    ap (λ n. cond (leb (slot_size * j + slot_size) n) (slot_of (row_in t j)) empty_slot) l
    ∙ ap (λ r. cond (leb (slot_size * j + slot_size) (length u)) (slot_of r) empty_slot) e

-- LAW: every other slot is as it was
pub other-slot : (t : List ℕ) (i j : ℕ) (s : Slot) → j ≢ i → slot_at (with_slot t i s) j ≡ slot_at t j
other-slot t i j s d =
    slot-agrees (with_slot t i s) t j (length-with t i s)
    (with-either t i s (λ z. row_in z j ≡ row_in t j) (λ h. row_other t i j s d) refl)

-- LAW: each slot of the table is the one that was put, or as it was
pub slot_cases :
    (t : List ℕ) (i j : ℕ) (s : Slot) → Fits s → ((j ≡ i) × (slot_at (with_slot t i s) j ≡ s)) ⊎ (slot_at (with_slot t i s) j ≡ slot_at t j)
slot_cases t i j s f = go (eqb j i) refl
  where
    go : (e : Bool) → eqb j i ≡ e → ((j ≡ i) × (slot_at (with_slot t i s) j ≡ s)) ⊎ (slot_at (with_slot t i s) j ≡ slot_at t j)
    go true e =
        let q = eqb-true j i e in
        ⊎_elim
        (λ (h : slot_size * i + slot_size ≤ length t). inl (q, ap (slot_at (with_slot t i s)) q ∙ same-slot t i s f h))
        (λ (h : length t < slot_size * i + slot_size). inr (ap (λ z. slot_at z j) (with_none t i s h)))
        (le-or-lt (slot_size * i + slot_size) (length t))
    go false e = inr (other-slot t i j s (eqb-false j i e))

-- LAW: what is a row stays a row
pub row_kept : (t : List ℕ) (i j : ℕ) (s : Slot) → is_row (row_in t j) ≡ true → is_row (row_in (with_slot t i s) j) ≡ true
row_kept t i j s r = with-either t i s (λ z. is_row (row_in z j) ≡ true) (λ h. go h (eqb j i) refl) r
  where
    go : slot_size * i + slot_size ≤ length t → (e : Bool) → eqb j i ≡ e → is_row (row_in (sets t (slot_size * i) (slot_bytes s)) j) ≡ true
    go h true e =
        ap (λ k. is_row (row_in (sets t (slot_size * i) (slot_bytes s)) k)) (eqb-true j i e) ∙ ap is_row (row_same t i s h) ∙ slot_row s
    go h false e = ap is_row (row_other t i j s (eqb-false j i e)) ∙ r

-- LAW: the bytes before the slot stay
pub before-kept : (t : List ℕ) (i : ℕ) (s : Slot) → take (slot_size * i) (with_slot t i s) ≡ take (slot_size * i) t
before-kept t i s =
    with-either t i s (λ z. take (slot_size * i) z ≡ take (slot_size * i) t)
    (λ h. take-sets (slot_size * i) t (slot_size * i) (slot_bytes s) (omega arith))
    refl

-- LAW: and those behind it
pub behind-kept : (t : List ℕ) (i : ℕ) (s : Slot) → drop (slot_size * i + slot_size) (with_slot t i s) ≡ drop (slot_size * i + slot_size) t
behind-kept t i s =
    with-either t i s (λ z. drop (slot_size * i + slot_size) z ≡ drop (slot_size * i + slot_size) t)
    (λ h. drop-sets (slot_size * i + slot_size) t (slot_size * i) (slot_bytes s) (let n = length-slot s in omega (arith, n)))
    refl

-- the bytes of a slot, written in three parts
pub put-parts :
    (t : List ℕ) (at : ℕ) (s : Slot) {h f w t1 t2 t3 : List ℕ} → h ≡ head s → f ≡ flag_bytes s.present → w ≡ word_bytes s.bits
    → t1 ≡ put_at t at h → t2 ≡ put_at t1 (at + present_from) f → t3 ≡ put_at t2 (at + bits_from) w → at + slot_size ≤ length t
    → t3 ≡ put_at t at (slot_bytes s)
put-parts t at s {h} {f} {w} {t1} {t2} {t3} eh ef ew e1 e2 e3 fits =
    let n : length h ≡ present_from = ap length eh in
    let m : length f ≡ param_count = ap length ef ∙ length-tabulate param_count (λ k. flag_byte (get_or s.present k false)) in
    let k : length w ≡ word_size * param_count = ap length ew ∙ length-spelled param_count (λ k. get_or s.bits k 0) in
    let a = length-append h f in
    let c = length-slot s in
    let l1 = ap length e1 ∙ length-put t at h in
    let l2 = ap length e2 ∙ length-put t1 (at + present_from) f in
    let two : t2 ≡ sets t at (h ++ f) =
    put-joined t at (at + present_from) h f (omega (arith, n)) (omega (arith, n)) e1
    (e2 ∙ put-fits t1 (at + present_from) f (omega (arith, m, l1))) in
    let three : t3 ≡ sets t at (h ++ f ++ w) =
    joined t at (at + bits_from) (h ++ f) w (omega (arith, a, n, m)) two (e3 ∙ put-fits t2 (at + bits_from) w (omega (arith, k, l1, l2))) in
    three
    ∙ ap (sets t at) (append_assoc h f w ∙ ap (λ x. x ++ (f ++ w)) eh ∙ ap (λ x. head s ++ (x ++ w)) ef ∙ ap (λ x. head s ++ (flag_bytes s.present ++ x)) ew)
    ∙ sym (put-fits t at (slot_bytes s) (omega (arith, c)))
