-- What keeps a table lawful: one slot replaced by a lawful one that differs from the others. And what a lawful table's rows say.
use Prim.Native.Nat.{ℕ, zero, suc, ◌+◌, ◌*◌, ◌≤◌, ◌<◌}
use mathlib.Core.Path.{◌≡◌, refl, sym, ap, ◌∙◌}
use mathlib.Core.Bool.{Bool, true, false}
use mathlib.Core.List.{List, ◌∷◌, ◌++◌}
use mathlib.Core.Logic.{⊎_elim, ◌≢◌}
use native.Mathlib.Omega.{arith}
use lib.Dec.{eqb}
use lib.ListN.{length, take, drop, replicate, length-replicate, get_or-replicate, take-append-drop, drop_of_length-le}
use lib.Seq.{drop-drop}
use Rattle.std.specs.Option.{is_some}
use Rattle.std.specs.Prelude.{Option, Some, None}
use borrow.Author.Tests.{eqb-true, eqb-false}
use Rattle.wire.specs.Every.{every}
use Rattle.wire.specs.Number.{Bytes}
use Rattle.wire.proofs.ByteLists.{take-bytes, drop-bytes, zero-bytes}
use Rattle.catalogue.specs.Lookup.{device_of}
use Rattle.slot.specs.Slot.{param_count, tabulate, fresh_slot, empty_slot}
use Rattle.slot.specs.Row.{slot_size, slot_of, slot_bytes, is_row}
use Rattle.slot.specs.Rows.{row_in, slot_at}
use Rattle.slot.specs.declared.Slot.{Slot}
use Rattle.slot.proofs.Filling.{le-or-lt}
use Rattle.slot.proofs.Rows.{slot-past, slot-here, row_back}
use Rattle.table.specs.Places.{table_size, empty_table, place_of}
use Rattle.table.specs.Change.{Change, becomes, changed_at}
use Rattle.table.proofs.Tests.{never}
use Rattle.table.proofs.Searches.{holds_parts, holds_not, place_found, place_none}
use Rattle.table.proofs.Changes.{FitsChange, Changed, changed-either, changed-length, changed-rows}
use Rattle.lawful.specs.Lawful.{LawfulSlot, Lawful, lawful}
use Rattle.lawful.proofs.Meaning.{lawful-means, means-lawful}

-- two slots that are both taken differ in socket and UID
abbrev pub Apart : Slot → Slot → Type 0
Apart s t = s.taken ≡ true → t.taken ≡ true → (s.socket ≢ t.socket) × (s.uid ≢ t.uid)

-- the new row is lawful, and apart from the rows of the other slots
abbrev Suits : ℕ → ℕ → List ℕ → List ℕ → ℕ → Slot → Type 0
Suits slots sockets c t i row = LawfulSlot sockets c row × ((j : ℕ) → j < slots → j ≢ i → Apart row (slot_at t j))

module _
    (slots sockets : ℕ) (c t : List ℕ) (p : Option ℕ) (x : Change)
    (h : Lawful slots sockets c t) (f : FitsChange x) (suits : (i : ℕ) (row : Slot) → p ≡ Some i → x ≡ becomes row → Suits slots sockets c t i row)
  where
    abbrev after : List ℕ
    after = (changed_at t p x).table

    each_after : (j : ℕ) → j < slots → LawfulSlot sockets c (slot_at after j)
    each_after j l =
        ⊎_elim
        (λ (e : slot_at after j ≡ slot_at t j). rw e (h.each-slot j l))
        (λ (w : Changed t p x j). rw w.result (suits j w.row w.place w.change).0)
        (changed-either t p x f j)

    pairs-after : (j m : ℕ) → j < slots → m < slots → j ≢ m → Apart (slot_at after j) (slot_at after m)
    pairs-after j m lj lm ne =
        ⊎_elim
        (λ (e : slot_at after j ≡ slot_at t j).
        ⊎_elim
        (λ (g : slot_at after m ≡ slot_at t m).
        rw (e, g) (λ a b. (h.sockets-differ j m lj lm ne a b, h.uids-differ j m lj lm ne a b)))
        (λ (w : Changed t p x m).
        rw (e, w.result)
        (λ a b. let y = (suits m w.row w.place w.change).1 j lj ne b a in (λ q. y.0 (sym q), λ q. y.1 (sym q))))
        (changed-either t p x f m))
        (λ (v : Changed t p x j).
        ⊎_elim
        (λ (g : slot_at after m ≡ slot_at t m).
        rw (v.result, g) ((suits j v.row v.place v.change).1 m lm (λ q. ne (sym q))))
        (λ (w : Changed t p x m). let q : Some j ≡ Some m = sym v.place ∙ w.place in absurd (ne cc))
        (changed-either t p x f m))
        (changed-either t p x f j)

    changed-keeps : Lawful slots sockets c after
    changed-keeps =
        record {
          whole = changed-length t p x ∙ h.whole;
          each_row = λ i l. changed-rows t p x i (h.each_row i l);
          each-slot = each_after;
          sockets-differ = λ j m lj lm ne u v. (pairs-after j m lj lm ne u v).0;
          uids-differ = λ j m lj lm ne u v. (pairs-after j m lj lm ne u v).1;
        }

-- LAW: a change keeps a lawful table lawful where its row is lawful and differs from the other slots' rows
pub changed-lawful :
    (slots sockets : ℕ) (c t : List ℕ) (p : Option ℕ) (x : Change) → lawful slots sockets c t ≡ true → FitsChange x →
    ((i : ℕ) (row : Slot) → p ≡ Some i → x ≡ becomes row →
    LawfulSlot sockets c row × ((j : ℕ) → j < slots → j ≢ i → Apart row (slot_at t j))) →
    lawful slots sockets c (changed_at t p x).table ≡ true
changed-lawful slots sockets c t p x h f suits =
    means-lawful slots sockets c (changed_at t p x).table (changed-keeps slots sockets c t p x (lawful-means slots sockets c t h) f suits)

-- LAW: a row with no values held is lawful where its socket and its type are
pub fresh-lawful :
    (sockets : ℕ) (c : List ℕ) (socket device year uid : ℕ) → socket < sockets → is_some (device_of c device) ≡ true →
    LawfulSlot sockets c (fresh_slot true socket device year uid)
fresh-lawful sockets c socket device year uid l k =
    record {
      socket-small = λ e. l;
      empty-zeros = λ e. never e;
      empty-absent = λ e. never e;
      absent-zero = λ p m e. get_or-replicate param_count p 0 0 m;
      type-known = λ e. k;
      value-readable = λ p m e. never (sym e ∙ get_or-replicate param_count p false false m);
      flag_small = λ p m e. never (sym e ∙ get_or-replicate param_count p false false m);
    }

-- LAW: an empty row is lawful
pub empty-slot-lawful : (sockets : ℕ) (c : List ℕ) → LawfulSlot sockets c empty_slot
empty-slot-lawful sockets c =
    record {
      socket-small = λ e. never (sym e);
      empty-zeros = λ e. (refl, refl, refl, refl);
      empty-absent = λ e p m. get_or-replicate param_count p false false m;
      absent-zero = λ p m e. get_or-replicate param_count p 0 0 m;
      type-known = λ e. never (sym e);
      value-readable = λ p m e. never (sym e ∙ get_or-replicate param_count p false false m);
      flag_small = λ p m e. never (sym e ∙ get_or-replicate param_count p false false m);
    }

-- LAW: in a lawful table a socket's device is found in its own slot
pub own-place :
    (slots sockets : ℕ) (c t : List ℕ) (i : ℕ) → Lawful slots sockets c t → i < slots → (slot_at t i).taken ≡ true →
    place_of slots t (slot_at t i).socket ≡ Some i
own-place slots sockets c t i h l u = go (place_of slots t (slot_at t i).socket) refl
  where
    same : (j : ℕ) (b : Bool) → eqb j i ≡ b → place_of slots t (slot_at t i).socket ≡ Some j → Some j ≡ Some i
    same j true e f = ap Some (eqb-true j i e)
    same j false e f =
        let g = place_found slots t (slot_at t i).socket j f in
        let p = holds_parts (slot_at t j) (slot_at t i).socket g.0 in
        absurd (h.sockets-differ j i g.1 l (eqb-false j i e) p.0 u p.1)

    go : (p : Option ℕ) → place_of slots t (slot_at t i).socket ≡ p → p ≡ Some i
    go None e = absurd (holds_not (slot_at t i) (slot_at t i).socket (place_none slots t (slot_at t i).socket e i l) u refl)
    go (Some j) e = same j (eqb j i) refl e

-- a part of zeros is zeros
zeros-front : (n m : ℕ) → n ≤ m → take {A = ℕ} n (replicate m 0) ≡ replicate n 0
zeros-front zero m h = refl
zeros-front (suc n) zero h = absurd (omega arith)
zeros-front (suc n) (suc m) h = ap (λ l. 0 ∷ l) (zeros-front n m (omega arith))

zeros-part : (at n m : ℕ) → at + n ≤ m → take {A = ℕ} n (drop at (replicate m 0)) ≡ replicate n 0
zeros-part zero n m h = zeros-front n m (omega arith)
zeros-part (suc at) n zero h = absurd (omega arith)
zeros-part (suc at) n (suc m) h = zeros-part at n m (omega arith)

zeros-slot : slot_of (replicate slot_size 0) ≡ empty_slot
unfolding tabulate
zeros-slot = refl

zeros-row : is_row (replicate slot_size 0) ≡ true
unfolding is_row every
zeros-row = refl

-- LAW: every slot of the table at first is empty
pub empty-at : (slots i : ℕ) → slot_at (empty_table slots) i ≡ empty_slot
empty-at slots i =
    let n = length-replicate {A = ℕ} (table_size slots) 0 in
    ⊎_elim
    (λ (h : slot_size * i + slot_size ≤ table_size slots).
    slot-here (empty_table slots) i (omega (arith, n)) ∙ ap slot_of (zeros-part (slot_size * i) slot_size (table_size slots) h) ∙ zeros-slot)
    (λ (h : table_size slots < slot_size * i + slot_size). slot-past (empty_table slots) i (omega (arith, n)))
    (le-or-lt (slot_size * i + slot_size) (table_size slots))

empty-untaken : (slots i : ℕ) → (slot_at (empty_table slots) i).taken ≡ true → ⊥
empty-untaken slots i u = never (sym u ∙ ap (λ (s : Slot). s.taken) (empty-at slots i))

-- LAW: the table at first is lawful under every catalogue
pub empty-table-lawful : (slots sockets : ℕ) (c : List ℕ) → lawful slots sockets c (empty_table slots) ≡ true
empty-table-lawful slots sockets c =
    means-lawful slots sockets c (empty_table slots)
    (record {
      whole = length-replicate {A = ℕ} (table_size slots) 0;
      each_row = λ i l. ap is_row (zeros-part (slot_size * i) slot_size (table_size slots) (omega arith)) ∙ zeros-row;
      each-slot = λ i l. rw (empty-at slots i) (empty-slot-lawful sockets c);
      sockets-differ = λ i j l m ne u v. absurd (empty-untaken slots i u);
      uids-differ = λ i j l m ne u v. absurd (empty-untaken slots i u);
    })

-- LAW: and bytes
pub empty-table-bytes : (slots : ℕ) → Bytes (empty_table slots)
empty-table-bytes slots = zero-bytes (table_size slots)

-- tables of n rows from row k on that agree in each of them
rows_same :
    (n k : ℕ) (t u : List ℕ) → length t ≡ table_size (k + n) → length u ≡ table_size (k + n) →
    ((i : ℕ) → i < k + n → row_in t i ≡ row_in u i) → drop (slot_size * k) t ≡ drop (slot_size * k) u
rows_same zero k t u a b h =
    drop_of_length-le t {i = slot_size * k} (omega (arith, a)) ∙ sym (drop_of_length-le u {i = slot_size * k} (omega (arith, b)))
rows_same (suc n) k t u a b h =
    let rest = rows_same n (k + 1) t u (a ∙ omega arith) (b ∙ omega arith) (λ i l. h i (omega arith)) in
    split t ∙ ap (λ x. x ++ drop (slot_size * (k + 1)) t) (h k (omega arith)) ∙ ap (λ x. row_in u k ++ x) rest ∙ sym (split u)
  where
    split : (l : List ℕ) → drop (slot_size * k) l ≡ row_in l k ++ drop (slot_size * (k + 1)) l
    split l =
        let e : slot_size * k + slot_size ≡ slot_size * (k + 1) = omega arith in
        sym (take-append-drop slot_size (drop (slot_size * k) l))
        ∙ ap (λ x. row_in l k ++ x) (drop-drop slot_size (slot_size * k) l ∙ ap (λ m. drop m l) e)

-- LAW: a lawful table is determined by what its rows spell
pub rows-determine :
    (slots sockets : ℕ) (c t u : List ℕ) → Bytes t → Bytes u → Lawful slots sockets c t → Lawful slots sockets c u →
    ((i : ℕ) → i < slots → slot_at t i ≡ slot_at u i) → t ≡ u
rows-determine slots sockets c t u bt bu ht hu same =
    rows_same slots 0 t u (ht.whole ∙ omega arith) (hu.whole ∙ omega arith) (λ i l. agree i (omega arith))
  where
    back : (l : List ℕ) → Bytes l → Lawful slots sockets c l → (i : ℕ) → i < slots → row_in l i ≡ slot_bytes (slot_at l i)
    back l b h i k =
        let w = h.whole in
        sym (row_back (row_in l i) (take-bytes slot_size (drop (slot_size * i) l) (drop-bytes (slot_size * i) l b)) (h.each_row i k))
        ∙ ap slot_bytes (sym (slot-here l i (omega (arith, w))))

    agree : (i : ℕ) → i < slots → row_in t i ≡ row_in u i
    agree i l = back t bt ht i l ∙ ap slot_bytes (same i l) ∙ sym (back u bu hu i l)
