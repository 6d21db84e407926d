-- DEVICE_DATA replaces one row's values or is refused, and a lawful table stays lawful.
use Prim.Native.Nat.{ℕ, ◌≤◌, ◌<◌}
use mathlib.Core.Path.{◌≡◌, refl, sym, ap, ◌∙◌}
use mathlib.Core.Bool.{Bool, true, false, cond}
use mathlib.Core.List.{List}
use mathlib.Core.Logic.{◌≢◌}
use lib.ListN.{length}
use Rattle.std.specs.Prelude.{Option, Some, None}
use Rattle.wire.specs.Number.{Bytes}
use Rattle.catalogue.specs.Format.{kind_bool}
use Rattle.catalogue.specs.Lookup.{parameter_of, is_readable, kind_in}
use Rattle.slot.specs.Slot.{param_count, present_at, bits_at, Fits}
use Rattle.slot.specs.Rows.{slot_at, with_slot}
use Rattle.slot.specs.declared.Slot.{Slot}
use Rattle.slot.proofs.Rows.{slot-fits, slot-shaped, same-slot}
use Rattle.table.specs.Places.{place_of, row_at, row_of}
use Rattle.table.specs.Change.{Verdict, accepted, refused, Effect, refusal, acceptance, Change, becomes, denied, changed_at}
use Rattle.table.proofs.Tests.{never}
use Rattle.table.proofs.Searches.{holds_parts, place_found}
use Rattle.table.proofs.Changes.{is_accepted, row_left, FitsChange, changed-others, changed-denied, changed-bytes}
use Rattle.lawful.specs.Lawful.{LawfulSlot, Lawful, lawful}
use Rattle.lawful.proofs.Meaning.{lawful-means}
use Rattle.lawful.proofs.Keeps.{Apart, changed-lawful}
use Rattle.parameters.specs.Data.{map_of, named, value_in, judged, stored, becomes_if, data_change, data_applied, applied_at, applied}
use Rattle.parameters.proofs.Judged.{Judged, judged-means}
use Rattle.parameters.proofs.Ranges.{data-fits}
use Rattle.parameters.proofs.Rows.{place-within}
use Rattle.parameters.proofs.Values.{SameDevice, data-same-device, data-present, data-bits}

-- the row with the payload's values is lawful where the row was and the payload is accepted
module _
    (sockets : ℕ) (c payload : List ℕ) (s : Slot) (z : (length s.present ≡ param_count) × (length s.bits ≡ param_count))
    (u : s.taken ≡ true) (h : LawfulSlot sockets c s)
  where
    abbrev map : ℕ
    map = map_of payload

    abbrev after : Slot
    after = stored c payload s

    same : SameDevice s after
    same = data-same-device c payload s

    present-is : (p : ℕ) → p < param_count → present_at after p ≡ cond (named map p) true (present_at s p)
    present-is = data-present c payload s z.0

    bits_are : (p : ℕ) → p < param_count → bits_at after p ≡ cond (named map p) (value_in c s map payload p) (bits_at s p)
    bits_are = data-bits c payload s z.1

    absent-after :
        (b : Bool) (p : ℕ) → p < param_count → cond b true (present_at s p) ≡ false →
        cond b (value_in c s map payload p) (bits_at s p) ≡ 0
    absent-after true p l e = never e
    absent-after false p l e = h.absent-zero p l e

    readable-after :
        Judged c s payload → (b : Bool) → (p : ℕ) → p < param_count → named map p ≡ b →
        cond b true (present_at s p) ≡ true → is_readable (parameter_of c s.device p) ≡ true
    readable-after g true p l n e = g.readable p l n
    readable-after g false p l n e = h.value-readable p l e

    flag-after :
        Judged c s payload → (b : Bool) → (p : ℕ) → p < param_count → named map p ≡ b →
        cond b true (present_at s p) ≡ true → kind_in (parameter_of c s.device p) ≡ kind_bool →
        cond b (value_in c s map payload p) (bits_at s p) ≤ 1
    flag-after g true p l n e k = g.flags p l n k
    flag-after g false p l n e k = h.flag_small p l e k

    stored-lawful : judged c s payload ≡ accepted → LawfulSlot sockets c (stored c payload s)
    stored-lawful a =
        let g = judged-means c s payload a in
        let no : after.taken ≡ false → ⊥ = λ e. never (sym u ∙ sym same.taken-same ∙ e) in
        record {
          socket-small = λ e. rw same.socket-same (h.socket-small u);
          empty-zeros = λ e. absurd (no e);
          empty-absent = λ e. absurd (no e);
          absent-zero = λ p l e. bits_are p l ∙ absent-after (named map p) p l (sym (present-is p l) ∙ e);
          type-known = λ e. rw same.device-same (h.type-known u);
          value-readable = λ p l e. rw same.device-same (readable-after g (named map p) p l refl (sym (present-is p l) ∙ e));
          flag_small =
              λ p l e k.
              rw (bits_are p l) (flag-after g (named map p) p l refl (sym (present-is p l) ∙ e) (rw same.device-same at k));
        }

abbrev is_leaving : Change → Bool
is_leaving (becomes row) = true
is_leaving (denied number) = false

-- a change that leaves a row has it from an accepted payload
leaves-parts : (v : Verdict) (s row : Slot) → becomes_if v s ≡ becomes row → (v ≡ accepted) × (s ≡ row)
leaves-parts accepted s row e = (refl, ap (row_left s) e)
leaves-parts (refused n) s row e = never (sym (ap is_leaving e))

leaves-fits : (v : Verdict) (s : Slot) → Fits s → FitsChange (becomes_if v s)
leaves-fits accepted s f = f
leaves-fits (refused n) s f = tt

-- an accepted packet: the socket's slot, that the payload fits its row, and the table with the row's new values
pub record Accepted (slots : ℕ) (c t : List ℕ) (socket : ℕ) (payload : List ℕ) : Type 0 where
  pub index : ℕ
  pub place : place_of slots t socket ≡ Some index
  pub fits : judged c (slot_at t index) payload ≡ accepted
  pub result : (data_applied slots c t socket payload).table ≡ with_slot t index (stored c payload (slot_at t index))

module _ (slots : ℕ) (c t : List ℕ) (socket : ℕ) (payload : List ℕ) where
  abbrev place : Option ℕ
  place = place_of slots t socket

  abbrev effect : Effect
  effect = data_applied slots c t socket payload

  abbrev change_at : Option ℕ → Change
  change_at p = data_change c (row_at t p) payload

  -- LAW: the row that a packet leaves has its fields' types
  pub change-fits : Bytes t → Bytes payload → FitsChange (data_change c (row_of slots t socket) payload)
  change-fits b h = go (place_of slots t socket)
    where
      go : (p : Option ℕ) → FitsChange (data_change c (row_at t p) payload)
      go (Some i) = leaves-fits (judged c (slot_at t i) payload) (stored c payload (slot_at t i)) (data-fits c payload (slot_at t i) h (slot-fits t b i))
      go None = tt

  -- LAW: every slot but the socket's is exactly as it was
  pub data-others : (j : ℕ) → place_of slots t socket ≢ Some j → slot_at (data_applied slots c t socket payload).table j ≡ slot_at t j
  data-others = changed-others t place (change_at place)

  -- LAW: a refused packet keeps the table: nothing is written before the last refusal is ruled out
  pub data-refused : (n : ℕ) → (data_applied slots c t socket payload).verdict ≡ refused n → (data_applied slots c t socket payload).table ≡ t
  data-refused = changed-denied t place (change_at place)

  -- LAW: bytes stay bytes
  pub data-bytes : Bytes t → Bytes payload → Bytes (data_applied slots c t socket payload).table
  data-bytes b h = changed-bytes t place (change_at place) b (change-fits b h)

  -- LAW: a socket without a device is 15
  pub data-none : place_of slots t socket ≡ None → data_applied slots c t socket payload ≡ refusal t 15
  data-none e = ap (λ (p : Option ℕ). changed_at t p (change_at p)) e

  at_slot :
      (i : ℕ) → place_of slots t socket ≡ Some i → (v : Verdict) → judged c (slot_at t i) payload ≡ v →
      effect ≡ changed_at t (Some i) (becomes_if v (stored c payload (slot_at t i)))
  at_slot i e v j =
      ap (λ (p : Option ℕ). changed_at t p (change_at p)) e ∙ ap (λ (w : Verdict). changed_at t (Some i) (becomes_if w (stored c payload (slot_at t i)))) j

  -- LAW: a payload that fits the row of the socket's device is stored in it
  pub data-stores :
      (i : ℕ) → place_of slots t socket ≡ Some i → judged c (slot_at t i) payload ≡ accepted →
      data_applied slots c t socket payload ≡ acceptance (with_slot t i (stored c payload (slot_at t i)))
  data-stores i e j = at_slot i e accepted j

  -- LAW: and another is refused by its number
  pub data-denied :
      (i n : ℕ) → place_of slots t socket ≡ Some i → judged c (slot_at t i) payload ≡ refused n →
      data_applied slots c t socket payload ≡ refusal t n
  data-denied i n e j = at_slot i e (refused n) j

  -- LAW: the row is read back with the packet's values
  pub data-row :
      Bytes t → Bytes payload → (i : ℕ) → place_of slots t socket ≡ Some i → judged c (slot_at t i) payload ≡ accepted →
      slot_at (data_applied slots c t socket payload).table i ≡ stored c payload (slot_at t i)
  data-row b h i e j =
      ap (λ (x : Effect). slot_at x.table i) (data-stores i e j)
      ∙ same-slot t i (stored c payload (slot_at t i)) (data-fits c payload (slot_at t i) h (slot-fits t b i)) (place-within slots t socket i e)

  -- LAW: an accepted packet changes the socket's row as the laws of its values say, and nothing else
  pub data-accepted : (data_applied slots c t socket payload).verdict ≡ accepted → Accepted slots c t socket payload
  data-accepted a = go (place_of slots t socket) refl
    where
      at : (i : ℕ) → place_of slots t socket ≡ Some i → (v : Verdict) → judged c (slot_at t i) payload ≡ v → Accepted slots c t socket payload
      at i e accepted j = record { index = i; place = e; fits = j; result = ap (λ (x : Effect). x.table) (data-stores i e j) }
      at i e (refused n) j = never (sym (ap is_accepted (sym (ap (λ (x : Effect). x.verdict) (data-denied i n e j)) ∙ a)))

      go : (p : Option ℕ) → place_of slots t socket ≡ p → Accepted slots c t socket payload
      go (Some i) e = at i e (judged c (slot_at t i) payload) refl
      go None e = never (sym (ap is_accepted (sym (ap (λ (x : Effect). x.verdict) (data-none e)) ∙ a)))

  -- LAW: in a lawful table all rows are rows, so that 9 does not arise
  pub applied-lawful :
      (sockets : ℕ) → lawful slots sockets c t ≡ true → applied slots c t socket payload ≡ data_applied slots c t socket payload
  applied-lawful sockets h = go (place_of slots t socket) refl
    where
      go : (p : Option ℕ) → place_of slots t socket ≡ p → applied_at t effect p ≡ effect
      go (Some i) e = rw ((lawful-means slots sockets c t h).each_row i (place_found slots t socket i e).1)
      go None e = refl

  -- LAW: a data packet keeps a lawful table lawful
  pub data-lawful :
      (sockets : ℕ) → lawful slots sockets c t ≡ true → Bytes t → Bytes payload →
      lawful slots sockets c (data_applied slots c t socket payload).table ≡ true
  data-lawful sockets h b k =
      changed-lawful slots sockets c t place (change_at place) h (change-fits b k)
      (λ i row e x.
      let parts = leaves-parts (judged c (slot_at t i) payload) (stored c payload (slot_at t i)) row (ap change_at (sym e) ∙ x) in
      let f = place_found slots t socket i e in
      let o = holds_parts (slot_at t i) socket f.0 in
      let m = lawful-means slots sockets c t h in
      rw (← parts.1)
      (stored-lawful sockets c payload (slot_at t i) (slot-shaped t i) o.0 (m.each-slot i f.1) parts.0, apart i f.1 o.0 m))
    where
      apart :
          (i : ℕ) → i < slots → (slot_at t i).taken ≡ true → Lawful slots sockets c t → (j : ℕ) → j < slots → j ≢ i →
          Apart (stored c payload (slot_at t i)) (slot_at t j)
      apart i l u m j n ne p q =
          let same = data-same-device c payload (slot_at t i) in (
            λ w. m.sockets-differ i j l n (λ x. ne (sym x)) u q (sym same.socket-same ∙ w),
            λ w. m.uids-differ i j l n (λ x. ne (sym x)) u q (sym same.uid-same ∙ w),
          )
