-- The test of a lawful table holds exactly where 01's sentence does.
use Prim.Native.Nat.{ℕ, ◌≤◌, ◌<◌}
use mathlib.Core.Path.{◌≡◌, refl, sym, ◌∙◌}
use mathlib.Core.Bool.{Bool, true, false, not, cond, ◌&&◌, ◌||◌}
use mathlib.Core.List.{List}
use mathlib.Core.Logic.{⊎_elim, ◌⊎◌, inl, inr, ◌≢◌}
use native.Mathlib.Omega.{arith}
use native.Mathlib.Nat.{eq-or-lt_of_le}
use Rattle.std.specs.Option.{is_some}
use Rattle.std.specs.Prelude.{Option}
use lib.Dec.{eqb, ltb, leb}
use lib.ListN.{length}
use borrow.Author.Tests.{eq-eqb, ne_eqb, lt-ltb, le-leb, eqb-true, ltb-true, ltb-false, leb-true, not-true}
use Rattle.wire.specs.Every.{every}
use Rattle.wire.proofs.Chains.{and_left, and_right, and-true, every-at}
use Rattle.catalogue.specs.Format.{kind_bool}
use Rattle.catalogue.specs.Lookup.{device_of, parameter_of, is_readable, kind_in}
use Rattle.catalogue.specs.declared.Parameter.{Parameter}
use Rattle.slot.specs.Slot.{param_count, present_at, bits_at}
use Rattle.slot.specs.Row.{is_row}
use Rattle.slot.specs.Rows.{row_in, slot_at}
use Rattle.slot.specs.declared.Slot.{Slot}
use Rattle.slot.proofs.Filling.{every-each}
use Rattle.table.specs.Places.{table_size}
use Rattle.table.proofs.Tests.{never, imply, implied}
use Rattle.lawful.specs.Lawful.{LawfulSlot, Lawful, value_lawful, held_lawful, nothing_held, slot_lawful, slots_differ, lawful_at, lawful}

value-means :
    (q : Option Parameter) (present : Bool) (bits : ℕ) → value_lawful q present bits ≡ true →
    (present ≡ false → bits ≡ 0) × (present ≡ true → is_readable q ≡ true) × (present ≡ true → kind_in q ≡ kind_bool → bits ≤ 1)
unfolding value_lawful
value-means q true bits h = (
  λ e. never e,
  λ e. and_left (is_readable q) _ h,
  λ e k. leb-true bits 1 (imply (eqb (kind_in q) kind_bool) (leb bits 1) (and_right (is_readable q) _ h) (eq-eqb (kind_in q) kind_bool k)),
)
value-means q false bits h = (λ e. eqb-true bits 0 h, λ e. never (sym e), λ e k. never (sym e))

means-value :
    (q : Option Parameter) (present : Bool) (bits : ℕ) → (present ≡ false → bits ≡ 0) → (present ≡ true → is_readable q ≡ true) →
    (present ≡ true → kind_in q ≡ kind_bool → bits ≤ 1) → value_lawful q present bits ≡ true
unfolding value_lawful
means-value q true bits z r f =
    and-true (is_readable q) _ (r refl)
    (implied (eqb (kind_in q) kind_bool) (leb bits 1) (λ e. le-leb bits 1 (f refl (eqb-true (kind_in q) kind_bool e))))
means-value q false bits z r f = eq-eqb bits 0 (z refl)

module _ (sockets : ℕ) (c : List ℕ) (s : Slot) where
  held-means :
      (p : ℕ) → held_lawful c s p ≡ true →
      (present_at s p ≡ false → bits_at s p ≡ 0) × (present_at s p ≡ true → is_readable (parameter_of c s.device p) ≡ true) ×
      (present_at s p ≡ true → kind_in (parameter_of c s.device p) ≡ kind_bool → bits_at s p ≤ 1)
  unfolding held_lawful
  held-means p h = value-means (parameter_of c s.device p) (present_at s p) (bits_at s p) h

  taken-means :
      s.taken ≡ true → (ltb s.socket sockets && (is_some (device_of c s.device) && every param_count (held_lawful c s))) ≡ true →
      LawfulSlot sockets c s
  taken-means u h =
      let k : (is_some (device_of c s.device) && every param_count (held_lawful c s)) ≡ true = and_right (ltb s.socket sockets) _ h in
      let v : every param_count (held_lawful c s) ≡ true = and_right (is_some (device_of c s.device)) _ k in
      record {
        socket-small = λ e. ltb-true s.socket sockets (and_left (ltb s.socket sockets) _ h);
        empty-zeros = λ e. never (sym u ∙ e);
        empty-absent = λ e. never (sym u ∙ e);
        absent-zero = λ p l. (held-means p (every-at param_count (held_lawful c s) v p l)).0;
        type-known = λ e. and_left (is_some (device_of c s.device)) _ k;
        value-readable = λ p l. (held-means p (every-at param_count (held_lawful c s) v p l)).1;
        flag_small = λ p l. (held-means p (every-at param_count (held_lawful c s) v p l)).2;
      }

  nothing-means : (p : ℕ) → nothing_held s p ≡ true → (present_at s p ≡ false) × (bits_at s p ≡ 0)
  unfolding nothing_held
  nothing-means p h =
      (not-true (present_at s p) (and_left (not (present_at s p)) _ h), eqb-true (bits_at s p) 0 (and_right (not (present_at s p)) _ h))

  empty-means :
      s.taken ≡ false →
      (eqb s.socket 0 && (eqb s.device 0 && (eqb s.year 0 && (eqb s.uid 0 && every param_count (nothing_held s))))) ≡ true →
      LawfulSlot sockets c s
  empty-means u h =
      let h₁ = and_right (eqb s.socket 0) _ h in
      let h₂ = and_right (eqb s.device 0) _ h₁ in
      let h₃ = and_right (eqb s.year 0) _ h₂ in
      let v : every param_count (nothing_held s) ≡ true = and_right (eqb s.uid 0) _ h₃ in
      let n : (p : ℕ) → p < param_count → (present_at s p ≡ false) × (bits_at s p ≡ 0) =
      λ p l. nothing-means p (every-at param_count (nothing_held s) v p l) in
      record {
        socket-small = λ e. never (sym e ∙ u);
        empty-zeros =
            λ e. (
              eqb-true s.socket 0 (and_left (eqb s.socket 0) _ h),
              eqb-true s.device 0 (and_left (eqb s.device 0) _ h₁),
              eqb-true s.year 0 (and_left (eqb s.year 0) _ h₂),
              eqb-true s.uid 0 (and_left (eqb s.uid 0) _ h₃),
            );
        empty-absent = λ e p l. (n p l).0;
        absent-zero = λ p l e. (n p l).1;
        type-known = λ e. never (sym e ∙ u);
        value-readable = λ p l e. never (sym e ∙ (n p l).0);
        flag_small = λ p l e. never (sym e ∙ (n p l).0);
      }

  -- LAW: a slot that passes the test is lawful
  pub slot-lawful-means : slot_lawful sockets c s ≡ true → LawfulSlot sockets c s
  unfolding slot_lawful
  slot-lawful-means h = go s.taken refl h
    where
      go :
          (b : Bool) → s.taken ≡ b →
          cond b (ltb s.socket sockets && (is_some (device_of c s.device) && every param_count (held_lawful c s)))
          (eqb s.socket 0 && (eqb s.device 0 && (eqb s.year 0 && (eqb s.uid 0 && every param_count (nothing_held s))))) ≡ true →
          LawfulSlot sockets c s
      go true u g = taken-means u g
      go false u g = empty-means u g

  means-held : LawfulSlot sockets c s → (p : ℕ) → p < param_count → held_lawful c s p ≡ true
  unfolding held_lawful
  means-held m p l =
      means-value (parameter_of c s.device p) (present_at s p) (bits_at s p) (m.absent-zero p l) (m.value-readable p l) (m.flag_small p l)

  means-nothing : LawfulSlot sockets c s → s.taken ≡ false → (p : ℕ) → p < param_count → nothing_held s p ≡ true
  unfolding nothing_held
  means-nothing m u p l =
      let a = m.empty-absent u p l in
      rw a (eq-eqb (bits_at s p) 0 (m.absent-zero p l a))

  -- LAW: a lawful slot passes the test
  pub means-slot-lawful : LawfulSlot sockets c s → slot_lawful sockets c s ≡ true
  unfolding slot_lawful
  means-slot-lawful m = go s.taken refl
    where
      go :
          (b : Bool) → s.taken ≡ b →
          cond b (ltb s.socket sockets && (is_some (device_of c s.device) && every param_count (held_lawful c s)))
          (eqb s.socket 0 && (eqb s.device 0 && (eqb s.year 0 && (eqb s.uid 0 && every param_count (nothing_held s))))) ≡ true
      go true u =
          and-true _ _ (lt-ltb s.socket sockets (m.socket-small u))
          (and-true _ _ (m.type-known u) (every-each param_count (held_lawful c s) (means-held m)))
      go false u =
          let z = m.empty-zeros u in
          and-true _ _ (eq-eqb s.socket 0 z.0)
          (and-true _ _ (eq-eqb s.device 0 z.1)
          (and-true _ _ (eq-eqb s.year 0 z.2)
          (and-true _ _ (eq-eqb s.uid 0 z.3) (every-each param_count (nothing_held s) (means-nothing m u)))))

differ-means :
    (s t : Slot) → slots_differ s t ≡ true → s.taken ≡ true → t.taken ≡ true → (s.socket ≢ t.socket) × (s.uid ≢ t.uid)
unfolding slots_differ
differ-means s t h p q =
    let g : (not (eqb s.socket t.socket) && not (eqb s.uid t.uid)) ≡ true = rw (p, q) at h in
    let a : not (eqb s.socket t.socket) ≡ true = and_left _ _ g in
    let b : not (eqb s.uid t.uid) ≡ true = and_right (not (eqb s.socket t.socket)) _ g in
    (λ e. never (sym (rw (eq-eqb s.socket t.socket e) at a)), λ e. never (sym (rw (eq-eqb s.uid t.uid e) at b)))

means-differ :
    (s t : Slot) → (s.taken ≡ true → t.taken ≡ true → (s.socket ≢ t.socket) × (s.uid ≢ t.uid)) → slots_differ s t ≡ true
unfolding slots_differ
means-differ s t h = go s.taken t.taken refl refl
  where
    go :
        (a b : Bool) → s.taken ≡ a → t.taken ≡ b →
        (not (a && b) || (not (eqb s.socket t.socket) && not (eqb s.uid t.uid))) ≡ true
    go false b p q = refl
    go true false p q = refl
    go true true p q = let x = h p q in rw (ne_eqb s.socket t.socket x.0, ne_eqb s.uid t.uid x.1)

one-first : (i j : ℕ) → i ≢ j → (i < j) ⊎ (j < i)
one-first i j ne = go (ltb i j) refl
  where
    go : (b : Bool) → ltb i j ≡ b → (i < j) ⊎ (j < i)
    go true e = inl (ltb-true i j e)
    go false e = ⊎_elim (λ (q : j ≡ i). absurd (ne (sym q))) (λ (l : j < i). inr l) (eq-or-lt_of_le (ltb-false i j e))

module _ (slots sockets : ℕ) (c t : List ℕ) where
  parts :
      (i : ℕ) → lawful_at sockets c t i ≡ true →
      (is_row (row_in t i) ≡ true) × (slot_lawful sockets c (slot_at t i) ≡ true) × (every i (λ j. slots_differ (slot_at t j) (slot_at t i)) ≡ true)
  unfolding lawful_at
  parts i h =
      let r = and_right (is_row (row_in t i)) _ h in
      (and_left (is_row (row_in t i)) _ h, and_left (slot_lawful sockets c (slot_at t i)) _ r, and_right (slot_lawful sockets c (slot_at t i)) _ r)

  -- LAW: a table that passes the test is lawful
  pub lawful-means : lawful slots sockets c t ≡ true → Lawful slots sockets c t
  unfolding lawful
  lawful-means h =
      record {
        whole = eqb-true (length t) (table_size slots) (and_left _ _ h);
        each_row = λ i l. (at i l).0;
        each-slot = λ i l. slot-lawful-means sockets c (slot_at t i) (at i l).1;
        sockets-differ = λ i j l m ne u v. (pairs i j l m ne u v).0;
        uids-differ = λ i j l m ne u v. (pairs i j l m ne u v).1;
      }
    where
      at :
          (i : ℕ) → i < slots →
          (is_row (row_in t i) ≡ true) × (slot_lawful sockets c (slot_at t i) ≡ true) × (every i (λ j. slots_differ (slot_at t j) (slot_at t i)) ≡ true)
      at i l = parts i (every-at slots (lawful_at sockets c t) (and_right (eqb (length t) (table_size slots)) _ h) i l)

      earlier :
          (i j : ℕ) → j < slots → i < j → (slot_at t i).taken ≡ true → (slot_at t j).taken ≡ true →
          ((slot_at t i).socket ≢ (slot_at t j).socket) × ((slot_at t i).uid ≢ (slot_at t j).uid)
      earlier i j l k = differ-means (slot_at t i) (slot_at t j) (every-at j _ (at j l).2 i k)

      pairs :
          (i j : ℕ) → i < slots → j < slots → i ≢ j → (slot_at t i).taken ≡ true → (slot_at t j).taken ≡ true →
          ((slot_at t i).socket ≢ (slot_at t j).socket) × ((slot_at t i).uid ≢ (slot_at t j).uid)
      pairs i j l m ne u v =
          ⊎_elim
          (λ (k : i < j). earlier i j m k u v)
          (λ (k : j < i). let x = earlier j i l k v u in (λ e. x.0 (sym e), λ e. x.1 (sym e)))
          (one-first i j ne)

  -- LAW: a lawful table passes the test
  pub means-lawful : Lawful slots sockets c t → lawful slots sockets c t ≡ true
  unfolding lawful lawful_at
  means-lawful h =
      and-true _ _ (eq-eqb (length t) (table_size slots) h.whole)
      (every-each slots _
      (λ i l.
      and-true _ _ (h.each_row i l)
      (and-true _ _ (means-slot-lawful sockets c (slot_at t i) (h.each-slot i l))
      (every-each i _ (λ j k. means-differ (slot_at t j) (slot_at t i) (pair i l j k))))))
    where
      pair :
          (i : ℕ) → i < slots → (j : ℕ) → j < i → (slot_at t j).taken ≡ true → (slot_at t i).taken ≡ true →
          ((slot_at t j).socket ≢ (slot_at t i).socket) × ((slot_at t j).uid ≢ (slot_at t i).uid)
      pair i l j k u v =
          let m : j < slots = omega arith in
          let ne : j ≢ i = (λ e. omega arith) in
          (h.sockets-differ j i m l ne u v, h.uids-differ j i m l ne u v)
