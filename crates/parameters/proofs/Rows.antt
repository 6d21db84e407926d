-- The row's bytes: what a store leaves, step by step, and what becomes of the table when its row is changed in place.
use Prim.Native.Nat.{ℕ, ◌+◌, ◌*◌, ◌-◌, ◌≤◌, ◌<◌, ◌^◌}
use mathlib.Core.Path.{◌≡◌, sym, ap, ◌∙◌}
use mathlib.Core.Bool.{Bool, true, false, cond}
use mathlib.Core.List.{List, ◌++◌}
use mathlib.Core.Option.{some}
use native.Mathlib.Omega.{arith}
use lib.Dec.{eqb}
use lib.ListN.{length, take, drop, take-append-drop}
use borrow.Rule.Slice.PartMut.{mid_of, put_mid}
use borrow.Author.Tests.{eqb-true}
use Rattle.std.specs.Prelude.{Option, Some, None}
use Rattle.wire.proofs.Buffers.{put-part}
use Rattle.wire.proofs.Chains.{and_left}
use Rattle.slot.specs.Slot.{param_count, with_value, Fits}
use Rattle.slot.specs.Row.{slot_size, slot_of, slot_bytes, is_row}
use Rattle.slot.specs.Rows.{row_in, slot_at, held_in}
use Rattle.slot.specs.declared.Slot.{Slot}
use Rattle.slot.proofs.Rows.{length-slot, slot-here}
use Rattle.slot.proofs.Values.{held-value, value-fits}
use Rattle.table.specs.Places.{place_of, row_at}
use Rattle.table.specs.Change.{accepted, refused, Effect, refusal, acceptance, Change, becomes, denied, changed_at}
use Rattle.table.proofs.Searches.{holds_parts, place_found, taken-within}
use Rattle.parameters.specs.Data.{map_of, named, value_in, judged, stored_to, data_change, row_after, changed_row, applied_at, applied}
use Rattle.parameters.proofs.Steps.{stored-named, stored-unnamed}

-- a row has a row's length
pub row-length : (row : List ℕ) → is_row row ≡ true → length row ≡ slot_size
unfolding is_row
row-length row h = eqb-true (length row) slot_size (and_left (eqb (length row) slot_size) _ h)

-- the bytes are those of the row with the first p parameters' values
pub record StoredTo (c : List ℕ) (s : Slot) (map : ℕ) (payload row : List ℕ) (p : ℕ) : Type 0 where
  pub bytes : row ≡ slot_bytes (stored_to c s map payload p)
  pub fits : Fits (stored_to c s map payload p)

module _ (c : List ℕ) (s : Slot) (map : ℕ) (payload : List ℕ) {row : List ℕ} {p : ℕ} (h : StoredTo c s map payload row p) where
  -- a named parameter's value is put
  pub store-value :
      {new : List ℕ} (v : ℕ) → named map p ≡ true → p < param_count → v ≡ value_in c s map payload p → v < 256 ^ 4 →
      new ≡ held_in row p v → StoredTo c s map payload new (p + 1)
  store-value v n l e k w =
      let before = stored_to c s map payload p in
      let next : stored_to c s map payload (p + 1) ≡ with_value before p v =
      stored-named c s map p payload n ∙ ap (with_value before p) (sym e) in
      record {
        bytes = w ∙ ap (λ (x : List ℕ). held_in x p v) h.bytes ∙ held-value before p v h.fits l k ∙ ap slot_bytes (sym next);
        fits = rw next (value-fits before p v h.fits k);
      }

  -- any other leaves the row
  pub store-none : {new : List ℕ} → named map p ≡ false → new ≡ row → StoredTo c s map payload new (p + 1)
  store-none n w =
      let next = stored-unnamed c s map p payload n in
      record { bytes = w ∙ h.bytes ∙ ap slot_bytes (sym next); fits = rw next h.fits }

-- bytes of a row by what is judged of them
module _ (c row payload : List ℕ) where
  pub changed-no-row : is_row row ≡ false → refusal row 9 ≡ changed_row c row payload
  changed-no-row r = rw r

  pub changed-accepted :
      {new : List ℕ} {map : ℕ} → is_row row ≡ true → judged c (slot_of row) payload ≡ accepted → map ≡ map_of payload →
      new ≡ slot_bytes (stored_to c (slot_of row) map payload param_count) → acceptance new ≡ changed_row c row payload
  changed-accepted r j m e =
      rw (r, j) (ap acceptance (e ∙ ap (λ (k : ℕ). slot_bytes (stored_to c (slot_of row) k payload param_count)) m))

  pub changed-refused : {n : ℕ} → is_row row ≡ true → judged c (slot_of row) payload ≡ refused n → refusal row n ≡ changed_row c row payload
  changed-refused r j = rw (r, j)

-- a socket's row lies within the table
pub place-within : (slots : ℕ) (t : List ℕ) (socket i : ℕ) → place_of slots t socket ≡ Some i → slot_size * i + slot_size ≤ length t
place-within slots t socket i e = taken-within t i (holds_parts (slot_at t i) socket (place_found slots t socket i e).0).0

module _ (t : List ℕ) (i : ℕ) where
  abbrev from : ℕ
  from = slot_size * i

  abbrev with : List ℕ → List ℕ
  with row = put_mid from (from + slot_size - from) t row

  -- a row that stays leaves the table
  part-kept : with (row_in t i) ≡ t
  part-kept =
      let n : from + slot_size - from ≡ slot_size = omega arith in
      rw n (ap (λ (l : List ℕ). take from t ++ l) (take-append-drop slot_size (drop from t)) ∙ take-append-drop from t)

  -- the table when its part has become the changed row
  abbrev around : Effect → Effect
  around e = record { verdict = e.verdict; table = with e.table }

  around-change :
      slot_size * i + slot_size ≤ length t → (x : Change) → around (row_after (row_in t i) x) ≡ changed_at t (Some i) x
  around-change h (becomes s) =
      let n = length-slot s in
      let m : from + length (slot_bytes s) - from ≡ from + slot_size - from = omega (arith, n) in
      ap acceptance (ap (λ k. put_mid from k t (slot_bytes s)) (sym m) ∙ put-part t from (slot_bytes s) (omega (arith, n)))
  around-change h (denied number) = ap (λ (u : List ℕ). refusal u number) part-kept

  around-row :
      (c payload : List ℕ) → slot_size * i + slot_size ≤ length t →
      around (changed_row c (row_in t i) payload) ≡
      cond (is_row (row_in t i)) (changed_at t (Some i) (data_change c (some (slot_of (row_in t i))) payload)) (refusal t 9)
  around-row c payload h = go (is_row (row_in t i))
    where
      go :
          (b : Bool) →
          around (cond b (row_after (row_in t i) (data_change c (some (slot_of (row_in t i))) payload)) (refusal (row_in t i) 9)) ≡
          cond b (changed_at t (Some i) (data_change c (some (slot_of (row_in t i))) payload)) (refusal t 9)
      go true = around-change h (data_change c (some (slot_of (row_in t i))) payload)
      go false = ap (λ (u : List ℕ). refusal u 9) part-kept

  -- the socket's row changed in place is the change of the table
  pub part-changed :
      (slots : ℕ) (c payload : List ℕ) (socket : ℕ) (e : Effect) → place_of slots t socket ≡ Some i →
      e ≡ changed_row c (mid_of (slot_size * i) (slot_size * i + slot_size - slot_size * i) t) payload →
      record {
        verdict = e.verdict;
        table = put_mid (slot_size * i) (slot_size * i + slot_size - slot_size * i) t e.table;
      } ≡ applied slots c t socket payload
  part-changed slots c payload socket e p q =
      let h = place-within slots t socket i p in
      let n : from + slot_size - from ≡ slot_size = omega arith in
      ap around (q ∙ ap (λ k. changed_row c (mid_of from k t) payload) n)
      ∙ around-row c payload h
      ∙ ap (λ (s : Slot). cond (is_row (row_in t i)) (changed_at t (Some i) (data_change c (some s) payload)) (refusal t 9)) (sym (slot-here t i h))
      ∙ sym (ap (λ (z : Option ℕ). applied_at t (changed_at t z (data_change c (row_at t z) payload)) z) p)

-- a socket without a device
pub nowhere-changed :
    (slots : ℕ) (c t payload : List ℕ) (socket : ℕ) → place_of slots t socket ≡ None → refusal t 15 ≡ applied slots c t socket payload
nowhere-changed slots c t payload socket e =
    sym (ap (λ (z : Option ℕ). applied_at t (changed_at t z (data_change c (row_at t z) payload)) z) e)
